use Rattle.std.proofs.Common.{Bool, List, sym, subst}
use Rattle.left_right_lists.specs.Trees.{AreSides}
use Rattle.left_right_lists.specs.Sides.{side_in}
use Rattle.left_right_lists.proofs.decide.map_of_graph.Goals as goal

pub all_entries-requires-clause-sides : goal.all_entries-requires-clause-sides
all_entries-requires-clause-sides c =
    subst (λ (sides : List Bool). AreSides c.args.graph.now c.in_ok-up.up.tree.parents.items c.in_ok-up.up.tree.depths.items (side_in sides)) (sym c.deref.ensures.value) (rw c.in-Some.is at c.in_ok-sides.ensures c.args.graph.now c.in_ok-up.ensures)
