-- How edges follow one another round the vertices of a map.
use Rattle.std.specs.Prelude.{ℕ, ◌+◌, ◌-◌, ◌<◌, ◌≤◌, ◌≡◌, List, length, slice_index}
use Rattle.map_lists.specs.Lists.{Lists}
use Rattle.map_theory.specs.Maps.{HasDart, follows}
use Rattle.contour_runs.specs.Runs.{Step}
use Rattle.order_drawings.specs.OrderRuns.{IsOrderRun}
use Rattle.rect_orders.specs.Maps.{IsRectMap, closed}
use Rattle.rect_orders.specs.Orders.{IsRectOrder}
use Rattle.rect_orders.specs.Runs.{shortened}
use Rattle.rect_runs.specs.Ends.{IsCorner}

-- Vertices are named by their places in a rectangular order. Where z follows x in the list of the inner vertex y, clockwise, the edge to z stands at y as that to x, or as comes next.
abbrev pub CornersOfMap : Type 0
CornersOfMap =
    (lists : Lists) (s d p t : ℕ) (at : List ℕ) (steps : ℕ → Step) → IsRectMap lists s d p t → (order : IsRectOrder lists s d p t at) → IsOrderRun (closed lists s d p t) (t, s) at order.canonical.cycle steps
    → (x y z : ℕ) → 2 ≤ y → y + 2 < length at → x < length at → z < length at → HasDart lists (slice_index at y) (slice_index at x) → follows lists (slice_index at y) (slice_index at x) ≡ slice_index at z
    → IsCorner (shortened steps (length at - 3)) (length at - 2) x y z
