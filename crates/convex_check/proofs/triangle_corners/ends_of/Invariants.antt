use Rattle.std.proofs.Common.{ℕ, ◌<◌, Contains}
use Rattle.plane_drawings.specs.PlaneSweepLines.{IsBefore}
use Rattle.convex_check.proofs.Points.{point_at}
use Rattle.convex_check.proofs.triangle_corners.ends_of.Given as goal

abbrev pub invariant-loop-p : goal.invariant-loop-p
invariant-loop-p l = record {
  on_first : Contains l.points l.first;
  on_last : Contains l.points l.last;
  first : (i : ℕ) → i < l.p-index → ¬ IsBefore (point_at l.points i) l.first;
  last : (i : ℕ) → i < l.p-index → ¬ IsBefore l.last (point_at l.points i);
}
