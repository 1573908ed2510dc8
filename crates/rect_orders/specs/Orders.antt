-- Rectangular orders.
use Rattle.std.specs.Prelude.{ℕ, ◌+◌, ◌-◌, ◌<◌, ◌≤◌, ◌≡◌, ◌≢◌, List, length, slice_index}
use Rattle.map_lists.specs.Lists.{Lists}
use Rattle.map_theory.specs.Maps.{HasDart}
use Rattle.canon_order.specs.Orders.{IsCanonicalOrder}
use Rattle.rect_orders.specs.Maps.{closed}

-- the vertex at place i of a list stands before two of its neighbours
pub record HasTwoLater (lists : Lists) (at : List ℕ) (i : ℕ) : Type 0 where
  pub j : ℕ
  pub k : ℕ
  pub apart : j ≢ k
  pub first : i < j
  pub second : i < k
  pub first_in : j < length at
  pub second_in : k < length at
  pub one : HasDart lists (slice_index at i) (slice_index at j)
  pub other : HasDart lists (slice_index at i) (slice_index at k)

-- A rectangular order: the left vertex, the bottom, then the inner ones, the right one and the top. It is a canonical order of the closed map, and each inner vertex has two later neighbours.
pub record IsRectOrder (lists : Lists) (s d p t : ℕ) (at : List ℕ) : Type 0 where
  pub canonical : IsCanonicalOrder (closed lists s d p t) (t, s) at
  pub right : slice_index at (length at - 2) ≡ p
  pub later : (i : ℕ) → 2 ≤ i → i + 2 < length at → HasTwoLater lists at i
