use Rattle.std.proofs.Common.{ℕ, ◌<◌}
use Rattle.rect_check.specs.Loops.{IsMarked}
use Rattle.rect_check.proofs.rects.Rects.are_fitting.Given as goal

abbrev pub invariant-loop-v : goal.invariant-loop-v
invariant-loop-v l = (k : ℕ) → k < l.v → IsMarked l.marks k
