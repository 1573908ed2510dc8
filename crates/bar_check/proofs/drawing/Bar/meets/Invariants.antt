-- No edge of a column before k reaches above the bar.
use Rattle.std.proofs.Common.{ℕ, ◌+◌, ◌-◌, ◌<◌, ◌≤◌}
use Rattle.bar_check.specs.Reach.{IsPassed}
use Rattle.bar_check.proofs.drawing.Bar.meets.Given as goal

abbrev pub invariant-loop-k : goal.invariant-loop-k
invariant-loop-k l = (x : ℕ) → l.left ≤ x → x < l.k → IsPassed l.self.h x l.known.columns.now l.known.blocks.now l.known.superblocks.now

abbrev pub decreases-loop-k : goal.decreases-loop-k
decreases-loop-k l = l.right + 1 - l.k
