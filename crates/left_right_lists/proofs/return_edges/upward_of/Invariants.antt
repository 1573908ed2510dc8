use Rattle.left_right_lists.specs.Sides.{AreOrdered}
use Rattle.left_right_lists.proofs.Collected.{AreRisingTo, AreRising}
use Rattle.left_right_lists.proofs.return_edges.upward_of.Given as goal

abbrev pub invariant-loop-v : goal.invariant-loop-v
invariant-loop-v l = record {
  rising : AreRising l.graph l.rooted.tree.now.parents.items l.rooted.tree.now.depths.items l.v l.darts.items;
  ordered : AreOrdered l.darts.items;
}

abbrev pub invariant-loop-u : goal.invariant-loop-u
invariant-loop-u l = record {
  rising : AreRisingTo l.graph l.rooted.tree.now.parents.items l.rooted.tree.now.depths.items l.initial.darts.items l.darts.items l.v l.u;
  ordered : AreOrdered l.darts.items;
}
