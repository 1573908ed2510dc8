use Rattle.std.proofs.Common.{false}
use Rattle.left_right_lists.specs.Blocks.{AreValues}
use Rattle.left_right_lists.specs.Placing.{is_item_at}
use Rattle.left_right_lists.proofs.child_edges.TreeVertex.order.Given as goal

abbrev pub invariant-loop-u : goal.invariant-loop-u
invariant-loop-u l = AreValues (is_item_at l.self.rooted.graph.now l.self.rooted.tree.now l.self.v) false l.free.items l.u
