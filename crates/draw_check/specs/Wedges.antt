-- Wedges: the directions from a point r between those to a and to b, b being less than a half turn to the left of a.
use Rattle.std.specs.Prelude.{ℕ, ◌<◌, ◌≡◌, List, length, slice_index, pos, ◌≤ℤ◌}
use Rattle.pg_plane.specs.declared.grid_points.Point.{Point}
use Rattle.pg_plane.specs.Geometry.{area}
use Rattle.plane_drawings.specs.Drawing.{place}

-- the direction to u is that to a or b, or lies between them
pub record IsInWedge (r a b u : Point) : Type 0 where
  pub right : pos 0 ≤ℤ area r a u
  pub left : pos 0 ≤ℤ area r u b

-- seen from r, p is to the right neither of a nor of b
pub record IsLeftOfBoth (r a b p : Point) : Type 0 where
  pub first : pos 0 ≤ℤ area r a p
  pub second : pos 0 ≤ℤ area r b p

-- seen from r, p is to the left neither of a nor of b: it is not to the right of the ways from these to r
pub record IsRightOfBoth (r a b p : Point) : Type 0 where
  pub first : pos 0 ≤ℤ area a r p
  pub second : pos 0 ≤ℤ area b r p

-- from vertex v all of some heads lie in the wedge between a and b
pub record IsWedgeOf (points : List Point) (v : ℕ) (heads : List ℕ) (r a b : Point) : Type 0 where
  pub apex : r ≡ place points v
  pub held : (i : ℕ) → i < length heads → IsInWedge r a b (place points (slice_index heads i))
