-- Points on the sides of a triangle whose corners are among them.
use Rattle.std.specs.Prelude.{pos, ◌≢◌, ◌⊎◌, List, Contains}
use Rattle.pg_plane.specs.declared.grid_points.Point.{Point}
use Rattle.pg_plane.specs.Geometry.{area, IsOnSegment}

-- a point lies on one of the three segments between three others
abbrev pub IsOnTriangle : Point → Point → Point → Point → Type 0
IsOnTriangle p a b c = IsOnSegment p a b ⊎ (IsOnSegment p b c ⊎ IsOnSegment p c a)

-- Three of the points have an area other than 0, and each of the points is on a segment between them.
pub record AreCorners (points : List Point) (a b c : Point) : Type 0 where
  pub first : Contains points a
  pub second : Contains points b
  pub third : Contains points c
  pub apart : area a b c ≢ pos 0
  pub all : (p : Point) → Contains points p → IsOnTriangle p a b c

-- the points have three such corners
abbrev pub HasCorners : List Point → Type 0
HasCorners points = (a : Point) × (b : Point) × (c : Point) × AreCorners points a b c
