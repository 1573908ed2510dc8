-- The places along a walk.
use Rattle.std.specs.Prelude.{ℕ, ◌<◌, ◌≡◌, List, length, slice_index}
use Rattle.half_edges.specs.Map.{Map}
use Rattle.pg_plane.specs.declared.grid_points.Point.{Point}
use Rattle.plane_drawings.specs.Drawing.{place}
use Rattle.vertex_rounds.specs.Rounds.{dart_of}

-- for each id of a walk the place of its dart's tail
pub record AreWalkPlaces (map : Map) (points : List Point) (walk : List ℕ) (places : List Point) : Type 0 where
  pub count : length places ≡ length walk
  pub each : (i : ℕ) → i < length walk → place places i ≡ place points (dart_of map (slice_index walk i)).0
