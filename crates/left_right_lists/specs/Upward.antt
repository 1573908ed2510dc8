-- A graph's tree with the edges that lead upwards.
use Rattle.std.specs.Prelude.{◌↔◌, Contains}
use Rattle.map_theory.specs.Maps.{Dart}
use Rattle.graphs.specs.Graphs.{EdgeGraph}
use Rattle.left_right_lists.specs.Trees.{IsTreeOf}
use Rattle.left_right_lists.specs.Sides.{IsRising, AreOrdered}
use Rattle.left_right_lists.specs.declared.return_edges.Upward.{Upward}

-- `up` has a depth-first tree of the graph, and exactly the edges that lead upwards in it, in order
pub record IsUpward (graph : EdgeGraph) (up : Upward) : Type 0 where
  pub tree : IsTreeOf graph up.tree
  pub darts : (d : Dart) → Contains up.darts.items d ↔ IsRising graph up.tree.parents.items up.tree.depths.items d
  pub ordered : AreOrdered up.darts.items
