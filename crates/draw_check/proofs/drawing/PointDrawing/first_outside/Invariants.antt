use Rattle.std.proofs.Common.{ℕ, ◌<◌}
use Rattle.plane_drawings.specs.Drawing.{place, IsInGrid}
use Rattle.draw_check.proofs.drawing.PointDrawing.first_outside.Given as goal

abbrev pub invariant-loop-v : goal.invariant-loop-v
invariant-loop-v l = (u : ℕ) → u < l.v → IsInGrid l.corner.x l.corner.y (place l.self.points.now u)
