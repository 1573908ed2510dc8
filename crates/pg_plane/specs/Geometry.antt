-- Areas, segments, crossings and directions, over whole numbers of any size.
use Rattle.std.specs.Prelude.{ℤ, pos, ◌-ℤ◌, ◌*ℤ◌, ◌≤ℤ◌, ◌<ℤ◌, ◌≡◌, ◌⊎◌}
use Rattle.pg_plane.specs.declared.grid_points.Point.{Point}

-- the vector from the first point to the second
abbrev pub vector : Point → Point → Point
vector a b = record { x = b.x -ℤ a.x; y = b.y -ℤ a.y }

-- twice the area between two vectors: positive where the second lies to the left of the first
abbrev pub cross : Point → Point → ℤ
cross u v = (u.x *ℤ v.y) -ℤ (v.x *ℤ u.y)

-- twice the area of the triangle a, b, c: positive where c lies to the left of the way from a to b
abbrev pub area : Point → Point → Point → ℤ
area a b c = cross (vector a b) (vector a c)

-- v is between s and t, or one of them
abbrev pub IsBetween : ℤ → ℤ → ℤ → Type 0
IsBetween s t v = ((s ≤ℤ v) × (v ≤ℤ t)) ⊎ ((t ≤ℤ v) × (v ≤ℤ s))

-- p lies on the segment from a to b: on the line, and in the box of a and b
pub record IsOnSegment (p a b : Point) : Type 0 where
  pub on_line : area a b p ≡ pos 0
  pub between_x : IsBetween a.x b.x p.x
  pub between_y : IsBetween a.y b.y p.y

-- one is negative and the other positive
abbrev pub AreOpposite : ℤ → ℤ → Type 0
AreOpposite s t = ((s <ℤ pos 0) × (pos 0 <ℤ t)) ⊎ ((pos 0 <ℤ s) × (t <ℤ pos 0))

-- the segments from a to b and from c to d cross: each has its ends on both sides of the other
pub record DoCross (a b c d : Point) : Type 0 where
  pub ends_of_second : AreOpposite (area a b c) (area a b d)
  pub ends_of_first : AreOpposite (area c d a) (area c d b)

-- a direction of the first half, clockwise from west: west, or up
abbrev pub IsFirstHalf : Point → Type 0
IsFirstHalf d = (pos 0 <ℤ d.y) ⊎ ((d.y ≡ pos 0) × (d.x <ℤ pos 0))

-- d comes strictly before e, clockwise from west: in an earlier half, or in the same half with e to its right
abbrev pub IsClockBefore : Point → Point → Type 0
IsClockBefore d e =
    (IsFirstHalf d × ¬ IsFirstHalf e) ⊎ ((IsFirstHalf d × IsFirstHalf e × (cross d e <ℤ pos 0)) ⊎ (¬ IsFirstHalf d × ¬ IsFirstHalf e × (cross d e <ℤ pos 0)))
