use Rattle.std.proofs.Common.{[]}
use Rattle.left_right_lists.specs.Blocks.{AreValues}
use Rattle.left_right_lists.specs.Placing.{returned_at}
use Rattle.left_right_lists.proofs.child_edges.TreeVertex.returned.Given as goal

abbrev pub invariant-loop-u : goal.invariant-loop-u
invariant-loop-u l = AreValues (returned_at l.self.rooted.graph.now.n l.self.rooted.tree.now l.self.opens.now l.self.v) [] l.rows l.u
