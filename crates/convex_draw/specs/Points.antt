-- The points of a run.
use Rattle.std.specs.Prelude.{ℕ, ◌<◌, ◌≡◌, List, length, pos}
use Rattle.pg_plane.specs.declared.grid_points.Point.{Point}
use Rattle.plane_drawings.specs.Drawing.{place}
use Rattle.contour_runs.specs.Wood.{Coordinates, point_of}
use Rattle.contour_runs.specs.FaceRuns.{Step, faces_made}
use Rattle.convex_counts.specs.Turns.{IsTouchedRun}
use Rattle.convex_laws.specs.declared.convex_rows.rows.ConvexRows.{ConvexRows}
use Rattle.convex_laws.specs.Rows.{AreRows, AreRanked}
use Rattle.convex_draw.specs.declared.convex_points.spots.Spot.{Spot}
use Rattle.convex_draw.specs.Spots.{spot_of}

-- A run, by its rows, that makes `faces` faces from the base d to s over `count` vertices.
pub record IsListedRun (steps : ℕ → Step) (at : ℕ → ℕ) (rows : ConvexRows) (d s count faces : ℕ) : Type 0 where
  pub touched : IsTouchedRun steps (length rows.rows)
  pub rows_are : AreRows rows steps (length rows.rows) at
  pub ranked : AreRanked steps (length rows.rows) count at
  pub first : at 0 ≡ d
  pub second : at 1 ≡ s
  pub made : faces_made steps (length rows.rows) ≡ faces

-- the vertex of each rank stands at the point of that rank
pub record ArePointsOf (counts : Coordinates) (at : ℕ → ℕ) (m : ℕ) (points : List Point) : Type 0 where
  pub count : length points ≡ m
  pub placed : (r : ℕ) → r < m → place points (at r) ≡ point_of counts r

-- each of the first m vertices stands at what is kept of it
pub record ArePlaced (spots : List Spot) (m : ℕ) (points : List Point) : Type 0 where
  pub count : length points ≡ m
  pub placed : (v : ℕ) → v < m → place points v ≡ record { x = pos (spot_of spots v).one; y = pos (spot_of spots v).two }
