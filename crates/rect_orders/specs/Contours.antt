-- What is kept of the vertices while they are taken off, the top first and the right one next.
use Rattle.std.specs.Prelude.{ℕ, ◌<◌, ◌≤◌, ◌≡◌, ◌≢◌, ◌↔◌, Bool, true, List, [], length, slice_index, Contains, All}
use Rattle.map_lists.specs.Lists.{Lists}
use Rattle.map_theory.specs.Maps.{follows}
use Rattle.canon_order.specs.Marks.{is_set, kept_of, IsTally, IsUnmarked}
use Rattle.rect_orders.specs.declared.rect_order.outer_frame.Frame.{Frame}
use Rattle.rect_orders.specs.Maps.{IsRectMap, closed}
use Rattle.rect_orders.specs.Orders.{IsRectOrder}
use Rattle.rect_orders.specs.Lefts.{IsRectLeft}

-- v is on the outer cycle and off the base, and just two of its neighbours are on the cycle, and two or more are gone
pub record LooksRemovable (t s : ℕ) (marked : List Bool) (near away : List ℕ) (v : ℕ) : Type 0 where
  pub marked_is : is_set marked v ≡ true
  pub not_last : v ≢ t
  pub not_first : v ≢ s
  pub two : slice_index near v ≡ 2
  pub two_gone : 2 ≤ slice_index away v

-- vertices alone are on the stack, and with them all that are removable
pub record IsStacked (t s : ℕ) (marked : List Bool) (near away stack : List ℕ) : Type 0 where
  pub vertices : All (λ v. v < length marked) stack
  pub stacked : (v : ℕ) → LooksRemovable t s marked near away v → Contains stack v

-- the counts are right, vertices alone are on the stack, and with them all that are removable
pub record IsPrepared (lists : Lists) (t s : ℕ) (marked : List Bool) (near : List ℕ) (gone : List Bool) (away stack : List ℕ) : Type 0 where
  pub tally : IsTally lists marked near
  pub tally_gone : IsTally lists gone away
  pub vertices : All (λ v. v < length lists) stack
  pub stacked : (v : ℕ) → LooksRemovable t s marked near away v → Contains stack v

-- nothing is marked or gone yet, and the stack is empty
pub record IsFresh (lists : Lists) (marked : List Bool) (near : List ℕ) (gone : List Bool) (away stack : List ℕ) : Type 0 where
  pub unmarked : IsUnmarked lists marked near
  pub all_left : IsUnmarked lists gone away
  pub empty : stack ≡ []

-- the lists are those of the closed map of a map of the class, and x is the inner vertex on a face with the left one and the bottom
pub record IsClosedOf (lists map : Lists) (s d p t x : ℕ) : Type 0 where
  pub class : IsRectMap map s d p t
  pub closed_is : lists ≡ closed map s d p t
  pub inner_is : x ≡ follows map t s

-- `IsClosedOf` for the vertices of a frame
abbrev pub IsClosedAt : Lists → Lists → Frame → Type 0
IsClosedAt lists map frame = IsClosedOf lists map frame.left.0 frame.top.0 frame.right.0 frame.bottom.0 frame.inner.0

-- What was taken off a map is in rest, and the outer cycle of what is left is marked.
pub record IsContour (map : Lists) (s d p t : ℕ) (gone marked : List Bool) (rest : List ℕ) : Type 0 where
  pub ws : List ℕ
  pub left : IsRectLeft map s d p t (kept_of gone) ws rest
  pub marks : (v : ℕ) → (is_set marked v ≡ true) ↔ Contains ws v

-- `IsContour` for each map with this frame whose closed map has these lists
abbrev pub IsContourAt : Lists → Frame → List Bool → List Bool → List ℕ → Type 0
IsContourAt lists frame gone marked rest = (map : Lists) → IsClosedAt lists map frame → IsContour map frame.left.0 frame.top.0 frame.right.0 frame.bottom.0 gone marked rest

-- a rectangular order of that map
abbrev pub IsOrderAt : Lists → Frame → List ℕ → Type 0
IsOrderAt lists frame at = (map : Lists) → IsClosedAt lists map frame → IsRectOrder map frame.left.0 frame.top.0 frame.right.0 frame.bottom.0 at
