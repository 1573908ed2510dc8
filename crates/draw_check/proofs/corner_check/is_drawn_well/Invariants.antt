use Rattle.std.proofs.Common.{ℕ, ◌<◌}
use Rattle.plane_drawings.specs.Drawing.{place, IsInGrid}
use Rattle.draw_check.specs.Corners.{IsRoundWell}
use Rattle.draw_check.proofs.corner_check.is_drawn_well.Given as goal

abbrev pub invariant-loop-v : goal.invariant-loop-v
invariant-loop-v l = (u : ℕ) → u < l.v → IsInGrid l.corner.x l.corner.y (place l.points u) × IsRoundWell l.lists l.points u
