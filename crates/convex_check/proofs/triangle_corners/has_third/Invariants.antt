use Rattle.std.proofs.Common.{ℕ, ◌<◌}
use Rattle.drawings.specs.Corners.{IsOnTriangle}
use Rattle.convex_check.proofs.Points.{point_at}
use Rattle.convex_check.proofs.triangle_corners.has_third.Given as goal

abbrev pub invariant-loop-p : goal.invariant-loop-p
invariant-loop-p l = (i : ℕ) → i < l.p-index → IsOnTriangle (point_at l.points i) l.triangle.a l.triangle.b l.triangle.c
