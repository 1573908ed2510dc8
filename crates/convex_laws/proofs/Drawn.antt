-- The drawing by the counts of the run of a map.
use Rattle.std.proofs.Common.{◌≡◌, ℕ, ◌+◌, ◌<◌, List, length, map, get_or, pos, ap, ◌∙◌, arith}
use Rattle.std.specs.List.{range_with_len}
use Rattle.std.proofs.lemmas.List.FromFn.{length-map-range_with_len, get_or-map-range_with_len}
use Rattle.pg_plane.specs.declared.grid_points.Point.{Point}
use Rattle.contour_runs.specs.Wood.{point_of}
use Rattle.convex_counts.specs.Counts.{face_counts}
use Rattle.convex_counts.specs.Turns.{well_turned}
use Rattle.convex_laws.proofs.ConvexDrawingsTurned.{touched_run_draws}
use Rattle.convex_laws.specs.ConvexMaps.{SomeConvexDrawing}
use Rattle.convex_laws.proofs.ConvexRunsWhole.{run_of_map_law}
use Rattle.convex_laws.proofs.ConvexWoodsTurned.{faces_made-well_turned}

-- THE LAW: a convex drawing
pub some_convex_drawing_law : SomeConvexDrawing
some_convex_drawing_law lists s d simple plane one polyhedral three base =
    let found = run_of_map_law lists s d simple plane one polyhedral three base in
    let rank = found.2 in
    let face = found.3 in
    let run = found.4 in
    let at : ℕ → Point = λ v. point_of (face_counts (well_turned found.0) found.1) (rank v) in
    let points : List Point = map at (range_with_len 0 (length lists)) in
    let points_are : (v : ℕ) → v < length lists → get_or points v (record { x = pos 0; y = pos 0 }) ≡ at v = λ v l.
    get_or-map-range_with_len at 0 (length lists) v v (record { x = pos 0; y = pos 0 }) l (omega arith) in (
      found.0,
      found.1,
      rank,
      face,
      points,
      record {
        run = run;
        count = length-map-range_with_len at 0 (length lists);
        points_are = points_are;
        drawing = touched_run_draws lists (s, d) found.0 found.1 rank face points run.touched run.map points_are;
        grid = ap (λ m. m + 1) (faces_made-well_turned found.0 found.1) ∙ run.faces;
      },
    )
