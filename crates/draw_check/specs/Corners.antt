-- The corners of a drawing, as the lists have them: what they say of the faces of a triangulation.
use Rattle.std.specs.Prelude.{ℕ, ◌<◌, ◌-◌, ◌==◌, Bool, false, MatchBool, List, length, slice_index, pos, ◌<ℤ◌}
use Rattle.map_lists.specs.Lists.{Lists}
use Rattle.map_theory.specs.Maps.{list_of}
use Rattle.pg_plane.specs.declared.grid_points.Point.{Point}
use Rattle.pg_plane.specs.Geometry.{area}
use Rattle.plane_drawings.specs.Drawing.{place}

-- Where a is the least of three vertices, the way from a over b to c turns to the left, or to the right where the face is the outer one.
abbrev pub IsCornerWell : List Point → Bool → ℕ → ℕ → ℕ → Type 0
IsCornerWell points is_outer a b c =
    a < b → a < c → MatchBool is_outer (area (place points a) (place points b) (place points c) <ℤ pos 0) (pos 0 <ℤ area (place points a) (place points b) (place points c))

-- `IsCornerWell` for each entry of the list of v and the entry before it, cyclically; the first entry of vertex 0 is that of the outer face.
pub record IsRoundWell (lists : Lists) (points : List Point) (v : ℕ) : Type 0 where
  pub some : 0 < length (list_of lists v)
  pub first : IsCornerWell points (v == 0) v (slice_index (list_of lists v) 0) (slice_index (list_of lists v) (length (list_of lists v) - 1))
  pub others : (k : ℕ) → k < length (list_of lists v) → 0 < k → IsCornerWell points false v (slice_index (list_of lists v) k) (slice_index (list_of lists v) (k - 1))
