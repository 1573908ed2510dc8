-- The sides of boxes in tables, and figures that have them.
use Rattle.std.specs.Prelude.{ℕ, ◌+◌, ◌-◌, ◌^◌, ◌<◌, ◌≡◌, List, ℤ, length, slice_index, pos}
use Rattle.map_lists.specs.Lists.{Lists}
use Rattle.map_theory.specs.Maps.{Dart}
use Rattle.plane_laws.specs.Triangulations.{IsTriangulation}
use Rattle.canon_order.specs.Orders.{IsCanonicalOrder, IsRankOf}
use Rattle.contour_runs.specs.Runs.{Step}
use Rattle.order_drawings.specs.OrderRuns.{IsOrderRun}
use Rattle.order_drawings.specs.Rows.{AreRows}
use Rattle.rect_runs.specs.Boxes.{Boxes}
use Rattle.drawings.specs.Duals.{number_at}
use Rattle.rect_orders.specs.Maps.{IsRectMap, closed}
use Rattle.rect_orders.specs.Orders.{IsRectOrder}
use Rattle.rect_orders.specs.Runs.{shortened}

-- these are the four sides of the first m boxes
pub record AreBoxTables (b : Boxes) (m : ℕ) (left right low high : List ℕ) : Type 0 where
  pub left_is : (v : ℕ) → v < m → slice_index left v ≡ b.left v
  pub right_is : (v : ℕ) → v < m → slice_index right v ≡ b.right v
  pub low_is : (v : ℕ) → v < m → slice_index low v ≡ b.low v
  pub high_is : (v : ℕ) → v < m → slice_index high v ≡ b.high v

-- four tables have m numbers each
pub record AreSized (m : ℕ) (left right low high : List ℕ) : Type 0 where
  pub left_count : length left ≡ m
  pub right_count : length right ≡ m
  pub low_count : length low ≡ m
  pub high_count : length high ≡ m

-- the first m numbers of four tables are small enough for coordinates
pub record AreSmall (m : ℕ) (left right low high : List ℕ) : Type 0 where
  pub left_small : (k : ℕ) → k < m → slice_index left k < 2 ^ 20
  pub right_small : (k : ℕ) → k < m → slice_index right k < 2 ^ 20
  pub low_small : (k : ℕ) → k < m → slice_index low k < 2 ^ 20
  pub high_small : (k : ℕ) → k < m → slice_index high k < 2 ^ 20

-- the numbers at the ranks of vertices
pub record AreAtRanks (numbers ranks : List ℕ) (made : List ℤ) : Type 0 where
  pub count : length made ≡ length ranks
  pub at : (v : ℕ) → v < length ranks → number_at made v ≡ pos (slice_index numbers (slice_index ranks v))

-- These are the rows of all vertices of an order but the last one, in the run that ends a place earlier.
pub record AreLowerRowsOf (lists : Lists) (at : List ℕ) (rows : Lists) : Type 0 where
  pub count : length rows + 3 ≡ length at
  pub of_run : (base : Dart) (order : IsCanonicalOrder lists base at) (steps : ℕ → Step) → IsOrderRun lists base at order.cycle steps → AreRows (shortened steps (length at - 3)) rows

-- a rectangular order of a map, its ranks, and the rows of its vertices but the last one
pub record HasLowerRows (lists : Lists) (s d p t : ℕ) (at ranks : List ℕ) (rows : Lists) : Type 0 where
  pub class : IsRectMap lists s d p t
  pub triangulation : IsTriangulation (closed lists s d p t)
  pub order : IsRectOrder lists s d p t at
  pub rank : IsRankOf ranks at
  pub lower : AreLowerRowsOf (closed lists s d p t) at rows
