-- The numbers before number k are compared.
use Rattle.std.proofs.Common.{◌≡◌, fold, take}
use Rattle.std.specs.Int.{int_max}
use Rattle.svg_out.proofs.bars.greatest_from.Given as goal

abbrev pub invariant-loop-k : goal.invariant-loop-k
invariant-loop-k l = l.most ≡ fold int_max l.least (take l.k l.list)
