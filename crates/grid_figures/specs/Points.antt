-- The points of vertices.
use Rattle.std.specs.Prelude.{ℕ, ◌<◌, ◌≡◌, List, length, slice_index}
use Rattle.pg_plane.specs.declared.grid_points.Point.{Point}
use Rattle.plane_drawings.specs.Drawing.{place}
use Rattle.contour_runs.specs.Runs.{Step}
use Rattle.contour_runs.specs.Wood.{wood_points, point_of}

-- each vertex stands at the point of its rank, after n steps of a run
pub record ArePoints (steps : ℕ → Step) (n : ℕ) (ranks : List ℕ) (points : List Point) : Type 0 where
  pub count : length points ≡ length ranks
  pub placed : (v : ℕ) → v < length ranks → place points v ≡ point_of (wood_points steps n) (slice_index ranks v)
