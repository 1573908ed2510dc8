use Rattle.embed_graph.specs.Marks.{AreBytes, Marks}
use Rattle.embed_graph.proofs.edge_test.set_lists.Given as goal

abbrev pub invariant-loop-v : goal.invariant-loop-v
invariant-loop-v l = AreBytes l.n l.body × Marks l.lists l.v l.body
