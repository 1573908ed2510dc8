-- A rectangular order as a run.
use Rattle.std.specs.Prelude.{ℕ, ◌-◌, ◌<◌, ◌↔◌, ◌==◌, if◌then◌else◌, List, length, slice_index}
use Rattle.map_lists.specs.Lists.{Lists}
use Rattle.map_theory.specs.Maps.{HasDart}
use Rattle.contour_runs.specs.Runs.{Step}
use Rattle.order_drawings.specs.OrderRuns.{IsOrderRun}
use Rattle.rect_runs.specs.Boxes.{IsRectRun}
use Rattle.rect_runs.specs.RectBoxesLaws.{AreJoined}
use Rattle.rect_orders.specs.Maps.{IsRectMap, closed}
use Rattle.rect_orders.specs.Orders.{IsRectOrder}

-- the steps, of which step n ends one place earlier
abbrev pub shortened : (ℕ → Step) → ℕ → ℕ → Step
shortened steps n k = if k == n then record { first = (steps k).first; last = (steps k).last - 1 } else steps k

-- A run that rectangular boxes can be made of, with the vertices named by their entries in `at`: two of them are joined exactly where they are adjacent.
pub record IsRunOfMap (lists : Lists) (at : List ℕ) (steps : ℕ → Step) : Type 0 where
  pub run : IsRectRun steps (length at - 3)
  pub joined : (i j : ℕ) → i < j → j < length at → HasDart lists (slice_index at i) (slice_index at j) ↔ AreJoined steps (length at - 2) i j

-- The run of a rectangular order in the closed map, whose last step ends one place earlier since the top and the bottom are not adjacent, is such a run of the map.
abbrev pub RectOrderIsRun : Type 0
RectOrderIsRun =
    (lists : Lists) (s d p t : ℕ) (at : List ℕ) (steps : ℕ → Step) → IsRectMap lists s d p t → (order : IsRectOrder lists s d p t at) → IsOrderRun (closed lists s d p t) (t, s) at order.canonical.cycle steps → IsRunOfMap lists at (shortened steps (length at - 3))
