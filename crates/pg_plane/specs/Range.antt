-- The range of coordinates for which the calls are promised.
use Rattle.std.specs.Prelude.{ℤ, pos, neg_ℤ, ◌≤ℤ◌}
use Rattle.pg_plane.specs.declared.grid_points.Point.{Point}

-- a number is from -n to n
pub record IsWithin (n : ℤ) (z : ℤ) : Type 0 where
  pub least : neg_ℤ n ≤ℤ z
  pub most : z ≤ℤ n

-- both coordinates of a point are from -2^20 to 2^20
pub record IsInRange (p : Point) : Type 0 where
  pub x : IsWithin (pos 1048576) p.x
  pub y : IsWithin (pos 1048576) p.y

-- both coordinates of a direction, the difference of two such points, are from -2^21 to 2^21
pub record IsDirection (d : Point) : Type 0 where
  pub x : IsWithin (pos 2097152) d.x
  pub y : IsWithin (pos 2097152) d.y
