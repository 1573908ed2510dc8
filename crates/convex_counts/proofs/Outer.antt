-- The outer face of a whole run is a triangle with flat angles.
use Rattle.std.proofs.Common.{◌≡◌, ℕ, suc, ◌<◌, ◌≤◌, ℤ, pos, ◌-ℤ◌, ◌*ℤ◌, ap₂, ◌∙◌, inl, inr, arith}
use Rattle.std.proofs.lemmas.Int.{ints}
use Rattle.pg_plane.specs.Geometry.{IsOnSegment}
use Rattle.contour_runs.specs.Wood.{Coordinates, point_of}
use Rattle.contour_runs.proofs.Areas.{spread_area}
use Rattle.pg_plane.proofs.Ring.{neg_mul, mul_neg, sums}
use Rattle.contour_runs.specs.FaceRuns.{Step, stage_after}
use Rattle.contour_runs.proofs.FaceRunsStages.{IsStage-run}
use Rattle.convex_counts.specs.Counts.{face_counts}
use Rattle.convex_counts.specs.FacePointsLaws.{IsWholeRun}
use Rattle.convex_counts.proofs.Corners.{cornered, some_faces, IsOuterTriangle}

-- on the one axis, from (0, 0) on the one end
on_axis_two : (at : Coordinates) (v u w : ℕ) → at.two v ≡ 0 → at.two u ≡ 0 → at.two w ≡ 0 → at.one w ≡ 0 → at.one v ≤ at.one u → IsOnSegment (point_of at v) (point_of at u) (point_of at w)
on_axis_two at v u w a b c d l = grind (arith, pos, ints, mul_neg, ap₂, sums)

on_axis_one : (at : Coordinates) (v u w : ℕ) → at.one v ≡ 0 → at.one u ≡ 0 → at.one w ≡ 0 → at.two u ≡ 0 → at.two v ≤ at.two w → IsOnSegment (point_of at v) (point_of at u) (point_of at w)
on_axis_one at v u w a b c d l = grind (arith, pos, ints, neg_mul, ap₂, sums)

pub outer_triangle : (steps : ℕ → Step) (n e : ℕ) → IsWholeRun steps n → 0 < n → suc e ≡ (stage_after steps n).count → IsOuterTriangle steps n e
outer_triangle steps n e whole some last = grind (arith, cornered, some_faces, spread_area, face_counts, stage_after, IsStage-run, on_axis_two, on_axis_one)
