-- The points of vertices by their ranks.
use Rattle.std.specs.Prelude.{ℕ, ◌<◌, ◌≡◌, List, length, slice_index, pos}
use Rattle.pg_plane.specs.declared.grid_points.Point.{Point}
use Rattle.plane_drawings.specs.Drawing.{place}

-- each vertex stands at the two numbers at its rank
pub record ArePointsAt (xs ys ranks : List ℕ) (points : List Point) : Type 0 where
  pub count : length points ≡ length ranks
  pub placed : (v : ℕ) → v < length ranks → place points v ≡ record { x = pos (slice_index xs (slice_index ranks v)); y = pos (slice_index ys (slice_index ranks v)) }
