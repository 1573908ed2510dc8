-- The numbers before number k are taken.
use Rattle.std.proofs.Common.{◌≡◌, take, map}
use Rattle.figure_text.specs.Lines.{integer_of}
use Rattle.figure_text.proofs.figure_ends.integers.Given as goal

abbrev pub invariant-loop-k : goal.invariant-loop-k
invariant-loop-k l = l.list ≡ map integer_of (take l.k l.words)
