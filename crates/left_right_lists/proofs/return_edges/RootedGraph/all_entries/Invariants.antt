use Rattle.left_right_lists.specs.Trees.{IsTreeOf, AreSides}
use Rattle.left_right_lists.specs.Sides.{side_in}
use Rattle.left_right_lists.proofs.Filled.{IsFilled}
use Rattle.left_right_lists.proofs.return_edges.RootedGraph.all_entries.Given as goal

abbrev pub invariant-loop-k : goal.invariant-loop-k
invariant-loop-k l =
    (h : IsTreeOf l.self.graph.now l.self.tree.now) (parted : AreSides l.self.graph.now l.self.tree.now.parents.items l.self.tree.now.depths.items (side_in l.sides)) → IsFilled l.self.graph.now l.self.tree.now h l.sides parted l.entries l.opens l.k
