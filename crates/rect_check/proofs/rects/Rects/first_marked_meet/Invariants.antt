-- No rectangle of a vertex before u meets one after it, and that of u meets none before v.
use Rattle.std.proofs.Common.{ℕ, ◌<◌}
use Rattle.drawings.specs.Duals.{DoMeet}
use Rattle.rect_check.specs.Faults.{RectsMeet}
use Rattle.rect_check.proofs.rects.Rects.first_marked_meet.Given as goal

abbrev pub invariant-loop-u : goal.invariant-loop-u
invariant-loop-u l = (s v : ℕ) → s < l.u → ¬ RectsMeet l.self.map.now.lists l.self.fig.now s v

abbrev pub invariant-loop-v : goal.invariant-loop-v
invariant-loop-v l = (w : ℕ) → l.u < w → w < l.v → ¬ DoMeet l.self.fig.now l.u w
