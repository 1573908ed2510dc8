-- The heads before place i lie in the wedge.
use Rattle.std.proofs.Common.{ℕ, ◌<◌, get_or}
use Rattle.plane_drawings.specs.Drawing.{place}
use Rattle.draw_check.specs.Wedges.{IsInWedge}
use Rattle.draw_check.proofs.wedges.Wedge.holds_all.Given as goal

abbrev pub invariant-loop-i : goal.invariant-loop-i
invariant-loop-i l = (j : ℕ) → j < l.i → IsInWedge l.fn.self.apex.point l.fn.self.right.point l.fn.self.left.point (place l.drawing.points.now (get_or l.heads j 0))
