-- Points by counts of faces over a run of a map.
use Rattle.std.specs.Prelude.{ℕ, ◌<◌, ◌≡◌, List, length}
use Rattle.map_lists.specs.Lists.{Lists}
use Rattle.pg_plane.specs.declared.grid_points.Point.{Point}
use Rattle.pg_plane.specs.declared.figures.GridFigure.{GridFigure}
use Rattle.plane_drawings.specs.Drawing.{place}
use Rattle.contour_runs.specs.Wood.{point_of}
use Rattle.contour_runs.specs.FaceRuns.{Step, faces_made}
use Rattle.convex_counts.specs.Counts.{face_counts}
use Rattle.convex_counts.specs.Turns.{well_turned}
use Rattle.convex_laws.specs.ConvexWoodsLaws.{IsNamedRun}
use Rattle.convex_draw.specs.Grids.{IsConvexGrid}

-- each vertex stands at the counts of its rank
pub record AreRunPoints (lists : Lists) (s d : ℕ) (points : List Point) : Type 0 where
  pub steps : ℕ → Step
  pub n : ℕ
  pub rank : ℕ → ℕ
  pub face : ℕ → ℕ → ℕ
  pub at : ℕ → ℕ
  pub run : IsNamedRun lists s d steps n rank face at
  pub few : faces_made (well_turned steps) n < 1048576
  pub count : length points ≡ length lists
  pub placed : (v : ℕ) → v < length lists → place points v ≡ point_of (face_counts (well_turned steps) n) (rank v)
  pub figure : GridFigure
  pub drawn : figure.points ≡ points
  pub grid : IsConvexGrid lists s d figure
