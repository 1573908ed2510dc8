-- The tree of offsets of a canonical order.
use Rattle.std.specs.Prelude.{ℕ, ◌-◌, List, length, slice_index}
use Rattle.map_lists.specs.Lists.{Lists}
use Rattle.map_theory.specs.Maps.{Dart}
use Rattle.canon_order.specs.Orders.{IsCanonicalOrder}
use Rattle.order_drawings.specs.OrderRuns.{IsOrderRun}
use Rattle.contour_runs.specs.Runs.{Step}
use Rattle.fpp_shift.specs.declared.offset_trees.tree_nodes.Node.{Node}
use Rattle.fpp_shift.specs.Grown.{links_of, IsOffsetTree}

-- The nodes are the tree of offsets of the run of each canonical order that the vertices `at` are.
abbrev pub IsTreeOf : Lists → List ℕ → List Node → Type 0
IsTreeOf lists at nodes =
    (base : Dart) (order : IsCanonicalOrder lists base at) (steps : ℕ → Step) → IsOrderRun lists base at order.cycle steps → IsOffsetTree (slice_index at) steps (length at - 2) (links_of nodes at)
