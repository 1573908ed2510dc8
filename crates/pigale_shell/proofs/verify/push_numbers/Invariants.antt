-- The vertices before this one are appended.
use Rattle.std.proofs.Common.{◌≡◌, ◌++◌, take}
use Rattle.pigale_shell.specs.Verify.{numbers}
use Rattle.pigale_shell.proofs.verify.push_numbers.Given as goal

abbrev pub invariant-loop-v : goal.invariant-loop-v
invariant-loop-v l = l.out.items ≡ l.fn.out.items ++ numbers (take l.v-index l.vertices)
