-- Boxes of points, and segments that miss those between a point and a box.
use Rattle.std.specs.Prelude.{◌⊎◌, pos, ◌≤ℤ◌, ◌<ℤ◌}
use Rattle.pg_plane.specs.declared.grid_points.Point.{Point}
use Rattle.pg_plane.specs.Geometry.{area, IsOnSegment, DoCross}
use Rattle.pg_plane.specs.Range.{IsWithin}
use Rattle.draw_check.specs.declared.bounding_boxes.BoundingBox.{BoundingBox}

-- a point lies in a box
pub record IsIn (span : BoundingBox) (p : Point) : Type 0 where
  pub left : span.left ≤ℤ p.x
  pub right : p.x ≤ℤ span.right
  pub bottom : span.bottom ≤ℤ p.y
  pub top : p.y ≤ℤ span.top

-- the sides of a box are within the range of coordinates
pub record IsBoxInRange (span : BoundingBox) : Type 0 where
  pub left : IsWithin (pos 1048576) span.left
  pub right : IsWithin (pos 1048576) span.right
  pub bottom : IsWithin (pos 1048576) span.bottom
  pub top : IsWithin (pos 1048576) span.top

-- two points lie on one side of a box
abbrev pub IsApart : BoundingBox → Point → Point → Type 0
IsApart span p q =
    ((p.x <ℤ span.left) × (q.x <ℤ span.left)) ⊎ (((span.right <ℤ p.x) × (span.right <ℤ q.x)) ⊎ (((p.y <ℤ span.bottom) × (q.y <ℤ span.bottom)) ⊎ ((span.top <ℤ p.y) × (span.top <ℤ q.y))))

-- no point of a box is to the right of the way from p to q
abbrev pub IsLeftOf : BoundingBox → Point → Point → Type 0
IsLeftOf span p q = (u : Point) → IsIn span u → pos 0 ≤ℤ area p q u

-- all points of a box are to the left of the way from p to q
abbrev pub IsStrictlyLeftOf : BoundingBox → Point → Point → Type 0
IsStrictlyLeftOf span p q = (u : Point) → IsIn span u → pos 0 <ℤ area p q u

-- the segment from p to q crosses none from r into a box
abbrev pub MissesStar : BoundingBox → Point → Point → Point → Type 0
MissesStar span r p q = (u : Point) → IsIn span u → ¬ DoCross p q r u

-- a point lies on no segment from r into a box
abbrev pub MissesFan : BoundingBox → Point → Point → Type 0
MissesFan span r p = (u : Point) → IsIn span u → ¬ IsOnSegment p r u
