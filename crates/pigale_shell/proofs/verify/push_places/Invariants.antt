-- The numbers before this one are appended.
use Rattle.std.proofs.Common.{◌≡◌, ◌++◌, take}
use Rattle.pigale_shell.specs.Verify.{spaced}
use Rattle.pigale_shell.proofs.verify.push_places.Given as goal

abbrev pub invariant-loop-n : goal.invariant-loop-n
invariant-loop-n l = l.out.items ≡ l.fn.out.items ++ spaced (take l.n-index l.found)
