use Rattle.left_right_lists.specs.Depths.{AreDepths}
use Rattle.left_right_lists.proofs.search_depths.depths_of.Given as goal

abbrev pub invariant-loop-k : goal.invariant-loop-k
invariant-loop-k l = AreDepths l.forest.order.items l.forest.parent.items l.depths.items l.k
