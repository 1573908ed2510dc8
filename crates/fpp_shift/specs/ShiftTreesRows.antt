-- Where the row of the contour begins and ends over which a vertex of an order is put.
use Rattle.std.specs.Prelude.{ℕ, ◌+◌, ◌<◌, ◌≤◌, ◌≡◌, ◌⊎◌, List, length, slice_index}
use Rattle.map_lists.specs.Lists.{Lists}
use Rattle.map_theory.specs.Maps.{Dart, HasDart, IsSimpleMap, list_of, follows}
use Rattle.plane_laws.specs.Triangulations.{IsTriangulation}
use Rattle.canon_order.specs.Orders.{IsCanonicalOrder, IsRankOf}
use Rattle.order_drawings.specs.OrderRuns.{IsOrderRun}
use Rattle.contour_runs.specs.Runs.{Step, stage_after}

-- the list is that of the vertex v of a simple map
pub record IsListOf (lists : Lists) (v : ℕ) (list : List ℕ) : Type 0 where
  pub simple : IsSimpleMap lists
  pub vertex : v < length lists
  pub list_is : list ≡ list_of lists v

-- The entry at a place of a list has a rank below k.
abbrev pub IsEarlier : List ℕ → ℕ → List ℕ → ℕ → Type 0
IsEarlier ranks k list i = slice_index ranks (slice_index list i) < k

-- The entry at a place of a list has rank k or a later one.
abbrev pub IsLater : List ℕ → ℕ → List ℕ → ℕ → Type 0
IsLater ranks k list i = k ≤ slice_index ranks (slice_index list i)

-- The row of the vertex v, of rank k, begins at its neighbour u: u is of a lower rank, and it is the first vertex of all or the neighbour after it is of rank k or higher.
pub record BeginsRow (lists : Lists) (ranks : List ℕ) (k v u : ℕ) : Type 0 where
  pub dart : HasDart lists v u
  pub earlier : slice_index ranks u < k
  pub begins : (slice_index ranks u ≡ 0) ⊎ (k ≤ slice_index ranks (follows lists v u))

-- The row of the vertex v, of rank k, ends at its neighbour u: u is of a lower rank, and it is the second vertex of all or the neighbour before it is of rank k or higher.
pub record EndsRow (lists : Lists) (ranks : List ℕ) (k v u : ℕ) : Type 0 where
  pub dart : HasDart lists v u
  pub earlier : slice_index ranks u < k
  pub ends : (slice_index ranks u ≡ 1) ⊎ ((w : ℕ) → HasDart lists v w → follows lists v w ≡ u → k ≤ slice_index ranks w)

-- The row of the vertex v, of rank k, begins at p and ends at q, and nowhere else.
pub record HasRow (lists : Lists) (ranks : List ℕ) (k v p q : ℕ) : Type 0 where
  pub begin : BeginsRow lists ranks k v p
  pub only_begin : (u : ℕ) → BeginsRow lists ranks k v u → u ≡ p
  pub end : EndsRow lists ranks k v q
  pub only_end : (u : ℕ) → EndsRow lists ranks k v u → u ≡ q

-- Each vertex of a canonical order from the third on has a row. That of the vertex of rank k + 2 goes from the first vertex under step k of the order's run to the last.
abbrev pub OrderHasRows : Type 0
OrderHasRows =
    (lists : Lists) (base : Dart) (at ranks : List ℕ) → IsTriangulation lists → (order : IsCanonicalOrder lists base at) → IsRankOf ranks at → (steps : ℕ → Step) → IsOrderRun lists base at order.cycle steps
    → (k : ℕ) → k + 2 < length at → HasRow lists ranks (k + 2) (slice_index at (k + 2)) (slice_index at ((stage_after steps k).vertex (steps k).first)) (slice_index at ((stage_after steps k).vertex (steps k).last))
