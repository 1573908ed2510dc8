-- The points to which the tree of an order adds up are its shift points.
use Rattle.std.proofs.Common.{◌≡◌, ◌<◌, ℕ, List, length, get_or, ◌∙◌}
use Rattle.map_lists.specs.Lists.{Lists}
use Rattle.map_theory.specs.Maps.{Dart}
use Rattle.pg_plane.specs.declared.grid_points.Point.{Point}
use Rattle.plane_laws.specs.Triangulations.{IsTriangulation}
use Rattle.canon_order.specs.Orders.{IsCanonicalOrder}
use Rattle.contour_runs.specs.Runs.{Step}
use Rattle.order_drawings.specs.OrderRuns.{IsOrderRun}
use Rattle.fpp_shift.specs.ShiftDrawings.{AreShiftPoints}
use Rattle.fpp_shift.specs.declared.offset_trees.tree_nodes.Node.{Node}
use Rattle.fpp_shift.specs.Ways.{ArePointsOf}
use Rattle.fpp_shift.specs.Trees.{IsTreeOf}
use Rattle.fpp_shift.specs.ShiftTreesLaws.{OffsetTreeAddsUp}

pub AreShiftPoints-tree :
    OffsetTreeAddsUp → (lists : Lists) (base : Dart) (at : List ℕ) (nodes : List Node) (points : List Point) → IsTriangulation lists → length lists < 4096 → (order : IsCanonicalOrder lists base at) → (steps : ℕ → Step) → IsOrderRun lists base at order.cycle steps
    → length nodes ≡ length lists → IsTreeOf lists at nodes → ArePointsOf nodes (get_or at 0 0) points → AreShiftPoints lists base at order.cycle points
AreShiftPoints-tree law lists base at nodes points triangulation few order steps run count tree sums = record {
  steps = steps;
  order = run;
  count = sums.count ∙ count;
  placed = (law lists base at nodes triangulation few order steps run count tree).points points sums;
}
