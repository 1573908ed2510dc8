use Rattle.std.proofs.Common.{ℕ, ◌<◌, ◌≤ℤ◌, Contains}
use Rattle.pg_plane.specs.Geometry.{area}
use Rattle.convex_check.proofs.Points.{point_at}
use Rattle.convex_check.proofs.triangle_corners.farthest.Given as goal

abbrev pub invariant-loop-p : goal.invariant-loop-p
invariant-loop-p l = record {
  on : Contains l.points l.best;
  far : (i : ℕ) → i < l.p-index → area l.a l.b (point_at l.points i) ≤ℤ area l.a l.b l.best;
}
