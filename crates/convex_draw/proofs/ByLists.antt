-- The drawing of rows, by the lists of a map.
use Rattle.std.proofs.Common.{◌≡◌, ℕ, ◌+◌, ◌-◌, ◌<◌, ◌≤◌, List, length, get_or, pos, sym, subst, arith}
use Rattle.map_lists.specs.Lists.{Lists}
use Rattle.map_theory.specs.Maps.{IsPlane, HasDart, list_of, face_count}
use Rattle.convex_peeling.proofs.Neighbours.{three_neighbours}
use Rattle.convex_orders.specs.declared.map_tables.Tables.{Tables}
use Rattle.std.proofs.lemmas.List.Elements.{Contains-get_or}
use Rattle.pg_plane.specs.declared.grid_points.Point.{Point}
use Rattle.pg_plane.specs.declared.figures.GridFigure.{GridFigure}
use Rattle.convex_counts.specs.Counts.{face_counts}
use Rattle.convex_counts.specs.Turns.{well_turned}
use Rattle.convex_peeling.specs.Polyhedral.{IsThreeConnected}
use Rattle.convex_laws.specs.Removed.{AreRowsOfRun}
use Rattle.convex_laws.specs.declared.convex_rows.rows.ConvexRows.{ConvexRows}
use Rattle.convex_draw.specs.Points.{IsListedRun, ArePointsOf}
use Rattle.convex_draw.specs.Grids.{IsConvexGrid}
use Rattle.convex_draw.proofs.ByRows.{IsRunByRows, IsRunByRows-of}
use Rattle.convex_draw.proofs.GridLemmas.{faces_two, side_small, IsListedRun-rows, IsConvexGrid-drawn}

module _ (lists : Lists) (few : length lists < 4096) (s d : ℕ) (rows : ConvexRows) (are : AreRowsOfRun lists s d rows) where
  abbrev pub run : IsRunByRows lists s d rows
  run = IsRunByRows-of lists s d rows are

  pub two_faces : 2 ≤ face_count lists
  two_faces = faces_two lists s d rows run

  -- the side of the grid
  pub one_less : (count : ℕ) → count ≡ face_count lists → (count - 1) + 1 ≡ face_count lists
  one_less count e = omega (arith, two_faces, e)

  pub small_side : (side : ℕ) → side + 1 ≡ face_count lists → side < 1048576
  small_side side e = side_small lists s d rows run side e few

  pub listed_run : (side count : ℕ) → side + 1 ≡ face_count lists → length lists ≡ count → IsListedRun run.steps run.at rows d s count side
  listed_run side count e n = subst (λ m. IsListedRun run.steps run.at rows d s m side) n (IsListedRun-rows lists s d rows run side e)

  pub drawn_grid :
      IsPlane lists → IsThreeConnected lists → (side count : ℕ) → side + 1 ≡ face_count lists → length lists ≡ count → (points : List Point) (figure : GridFigure) → figure.points ≡ points → figure.width ≡ pos side → figure.height ≡ pos side
      → ArePointsOf (face_counts (well_turned run.steps) (length rows.rows)) run.at count points → IsConvexGrid lists s d figure
  drawn_grid plane three side count e n points figure is width height placed =
      IsConvexGrid-drawn lists s d rows run side e figure width height
      (subst (λ ps. ArePointsOf (face_counts (well_turned run.steps) (length rows.rows)) run.at (length lists) ps) (sym is)
      (subst (λ m. ArePointsOf (face_counts (well_turned run.steps) (length rows.rows)) run.at m points) (sym n) placed)) plane three.connected

-- the dart from vertex 0 to the first of its list
pub base_dart : (lists : Lists) (t : ℕ) → IsThreeConnected lists → get_or (list_of lists 0) 0 0 ≡ t → HasDart lists 0 t
base_dart lists t three first =
    let some = three.some in
    let l : 0 < length lists = omega (arith, some) in
    let m : 0 < length (list_of lists 0) = omega (arith, three_neighbours lists 0 three l) in
    subst (HasDart lists 0) first (l, Contains-get_or (list_of lists 0) 0 0 m)

pub rows_by : (lists : Lists) (t : ℕ) (tables : Tables) (rows : ConvexRows) → tables.lists ≡ lists → tables.tail ≡ 0 → tables.head ≡ t → AreRowsOfRun tables.lists tables.tail tables.head rows → AreRowsOfRun lists 0 t rows
rows_by lists t tables rows el et eh are =
    subst (λ d. AreRowsOfRun lists 0 d rows) eh (subst (λ s. AreRowsOfRun lists s tables.head rows) et (subst (λ (ls : Lists). AreRowsOfRun ls tables.tail tables.head rows) el are))
