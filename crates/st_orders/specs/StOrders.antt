-- St-orders: the vertices from s to t, each other one between two of its neighbours.
use Rattle.std.specs.Prelude.{ℕ, ◌-◌, ◌<◌, ◌≡◌, ◌≢◌, List, map, length, slice_index, All}
use Rattle.map_lists.specs.Lists.{Lists}
use Rattle.map_theory.specs.Maps.{HasDart, vertex_count}
use Rattle.st_orders.specs.declared.orders.StOrder.{StOrder}

-- v has a neighbour that stands earlier
abbrev pub HasEarlier : Lists → List ℕ → ℕ → Type 0
HasEarlier lists rank v = (u : ℕ) × HasDart lists v u × (slice_index rank u < slice_index rank v)

-- v has a neighbour that stands later
abbrev pub HasLater : Lists → List ℕ → ℕ → Type 0
HasLater lists rank v = (u : ℕ) × HasDart lists v u × (slice_index rank v < slice_index rank u)

-- The list `at` has all vertices once, `rank` is the place of each in it, s stands first and t last, and each other vertex has an earlier and a later neighbour.
pub record IsStOrder (lists : Lists) (s t : ℕ) (at rank : List ℕ) : Type 0 where
  pub count : length at ≡ vertex_count lists
  pub ranks : length rank ≡ vertex_count lists
  pub vertices : All (λ v. v < vertex_count lists) at
  pub places : All (λ i. i < vertex_count lists) rank
  pub of_place : (i : ℕ) → i < vertex_count lists → slice_index rank (slice_index at i) ≡ i
  pub of_vertex : (v : ℕ) → v < vertex_count lists → slice_index at (slice_index rank v) ≡ v
  pub first : slice_index at 0 ≡ s
  pub last : slice_index at (vertex_count lists - 1) ≡ t
  pub earlier : (v : ℕ) → v < vertex_count lists → v ≢ s → HasEarlier lists rank v
  pub later : (v : ℕ) → v < vertex_count lists → v ≢ t → HasLater lists rank v

-- the vertices of an order, one after another, by their numbers
abbrev pub vertices_of : StOrder → List ℕ
vertices_of order = map (λ v. v.0) order.at

-- `IsStOrder` of an order as the code holds it
abbrev pub IsStOrderOf : Lists → ℕ → ℕ → StOrder → Type 0
IsStOrderOf lists s t order = IsStOrder lists s t (vertices_of order) order.rank
