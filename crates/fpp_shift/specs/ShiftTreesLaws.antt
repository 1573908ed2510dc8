-- To what the tree of offsets of an order adds up.
use Rattle.std.specs.Prelude.{ℕ, ◌-◌, ◌<◌, ◌≡◌, List, length, slice_index}
use Rattle.map_lists.specs.Lists.{Lists}
use Rattle.map_theory.specs.Maps.{Dart}
use Rattle.pg_plane.specs.declared.grid_points.Point.{Point}
use Rattle.plane_laws.specs.Triangulations.{IsTriangulation}
use Rattle.canon_order.specs.Orders.{IsCanonicalOrder}
use Rattle.order_drawings.specs.OrderRuns.{IsOrderRun}
use Rattle.contour_runs.specs.Runs.{Step}
use Rattle.fpp_shift.specs.Shift.{shift_points, point_of}
use Rattle.fpp_shift.specs.declared.offset_trees.tree_nodes.Node.{Node}
use Rattle.plane_drawings.specs.Drawing.{place}
use Rattle.fpp_shift.specs.Ways.{IsTree, ArePointsOf}
use Rattle.fpp_shift.specs.Trees.{IsTreeOf}

-- The nodes are a tree with the first vertex of the order as its root, and the points to which it adds up are the shift points of the order's run.
pub record AddsUp (at : List ℕ) (steps : ℕ → Step) (nodes : List Node) : Type 0 where
  pub tree : IsTree nodes (slice_index at 0)
  pub points : (points : List Point) → ArePointsOf nodes (slice_index at 0) points → (k : ℕ) → k < length at → place points (slice_index at k) ≡ point_of (shift_points steps (length at - 2)) k

-- The tree of offsets of each canonical order of a triangulation adds up to the shift points of the order's run.
abbrev pub OffsetTreeAddsUp : Type 0
OffsetTreeAddsUp =
    (lists : Lists) (base : Dart) (at : List ℕ) (nodes : List Node) → IsTriangulation lists → length lists < 4096 → (order : IsCanonicalOrder lists base at) → (steps : ℕ → Step) → IsOrderRun lists base at order.cycle steps → length nodes ≡ length lists → IsTreeOf lists at nodes → AddsUp at steps nodes
