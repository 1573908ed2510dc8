use Rattle.std.proofs.Common.{◌≡◌, [], filter, take}
use Rattle.graphs.specs.Graphs.{has_edge}
use Rattle.left_right_lists.specs.Blocks.{AreValues}
use Rattle.left_right_lists.specs.Placing.{row_at}
use Rattle.left_right_lists.proofs.return_edges.RootedGraph.rotation_lists.Given as goal

abbrev pub invariant-loop-v : goal.invariant-loop-v
invariant-loop-v l = AreValues (λ v. filter (has_edge l.self.graph.now v) (row_at l.self.graph.now.n l.self.tree.now l.entries v)) [] l.lists l.v

abbrev pub invariant-loop-u : goal.invariant-loop-u
invariant-loop-u l = l.kept.items ≡ filter (has_edge l.self.graph.now l.v) (take l.u-index l.u-items)
