-- That each polyhedral map has a convex plane drawing.
use Rattle.std.specs.Prelude.{ℕ, ◌+◌, ◌≡◌, List, length}
use Rattle.map_lists.specs.Lists.{Lists}
use Rattle.map_theory.specs.Maps.{HasDart, IsSimpleMap, IsPlane, component_count, face_count}
use Rattle.pg_plane.specs.declared.grid_points.Point.{Point}
use Rattle.convex_peeling.specs.Polyhedral.{IsPolyhedral}
use Rattle.convex_peeling.specs.FacePeelingLaws.{HasThree}
use Rattle.contour_runs.specs.FaceRuns.{Step, faces_made}
use Rattle.convex_counts.specs.Turns.{well_turned}
use Rattle.convex_laws.specs.ConvexDrawings.{AreCountPoints, IsConvexDrawing}
use Rattle.convex_laws.specs.RunsOfMaps.{IsRunOf}

-- The points are the counts of faces over a run of the map from the base (s, d), and a convex drawing in the grid m by m where the map has m faces beside the base's.
pub record IsDrawnBy (lists : Lists) (s d : ℕ) (steps : ℕ → Step) (n : ℕ) (rank : ℕ → ℕ) (face : ℕ → ℕ → ℕ) (points : List Point) : Type 0 where
  pub run : IsRunOf lists s d steps n rank face
  pub count : length points ≡ length lists
  pub points_are : AreCountPoints lists (well_turned steps) n rank points
  pub drawing : IsConvexDrawing lists (s, d) (well_turned steps) n rank face points
  pub grid : faces_made (well_turned steps) n + 1 ≡ face_count lists

-- Each connected polyhedral map of genus zero whose vertices have three neighbours or more has such a drawing, from each of its darts.
abbrev pub SomeConvexDrawing : Type 0
SomeConvexDrawing =
    (lists : Lists) (s d : ℕ) → IsSimpleMap lists → IsPlane lists → component_count lists ≡ 1 → IsPolyhedral lists → HasThree lists → HasDart lists s d
    → (steps : ℕ → Step) × (n : ℕ) × (rank : ℕ → ℕ) × (face : ℕ → ℕ → ℕ) × (points : List Point) × IsDrawnBy lists s d steps n rank face points
