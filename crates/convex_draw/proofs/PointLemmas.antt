-- The points that are counted over a run by rows.
use Rattle.std.proofs.Common.{◌≡◌, ℕ, ◌+◌, ◌<◌, List, length, pos, refl, sym, ap, ◌∙◌, subst, arith}
use Rattle.map_lists.specs.Lists.{Lists}
use Rattle.map_theory.specs.Maps.{IsPlane, face_count, component_count}
use Rattle.pg_plane.specs.declared.grid_points.Point.{Point}
use Rattle.pg_plane.specs.declared.figures.GridFigure.{GridFigure}
use Rattle.plane_drawings.specs.Drawing.{place}
use Rattle.convex_counts.specs.Counts.{face_counts}
use Rattle.convex_counts.specs.Turns.{well_turned}
use Rattle.convex_draw.specs.Points.{ArePointsOf}
use Rattle.convex_laws.proofs.ConvexWoodsTurned.{faces_made-well_turned}
use Rattle.convex_laws.specs.declared.convex_rows.rows.ConvexRows.{ConvexRows}
use Rattle.convex_draw.proofs.ByRows.{IsRunByRows}
use Rattle.convex_draw.proofs.GridLemmas.{side_small, IsConvexGrid-drawn}
use Rattle.convex_draw.specs.RunPoints.{AreRunPoints}

pub AreRunPoints-counts :
    (lists : Lists) (s d : ℕ) (rows : ConvexRows) (h : IsRunByRows lists s d rows) (side count : ℕ) (points : List Point) → side + 1 ≡ face_count lists → count ≡ length lists → length lists < 4096 → ArePointsOf (face_counts (well_turned h.steps) (length rows.rows)) h.at count points → IsPlane lists → component_count lists ≡ 1 → AreRunPoints lists s d points
AreRunPoints-counts lists s d rows h side count points e n few are plane connected =
    let made = faces_made-well_turned h.steps (length rows.rows) in
    let faces = h.run.faces in
    let small = side_small lists s d rows h side e few in
    let all = h.ranked.all in
    let figure : GridFigure = record { points = points; width = pos side; height = pos side } in
    record {
      steps = h.steps;
      n = length rows.rows;
      rank = h.rank;
      face = h.face;
      at = h.at;
      run = record { run = h.run; ranked = h.ranked; named = h.back };
      few = omega arith;
      count = are.count ∙ n;
      placed = λ v l. let r = h.run.map.placed v l in ap (place points) (sym (h.back v l)) ∙ are.placed (h.rank v) (omega arith);
      figure = figure;
      drawn = refl;
      grid = IsConvexGrid-drawn lists s d rows h side e figure refl refl (subst (λ m. ArePointsOf (face_counts (well_turned h.steps) (length rows.rows)) h.at m points) n are) plane connected;
    }
