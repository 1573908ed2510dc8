use Rattle.std.proofs.Common.{take}
use Rattle.embed_graph.specs.Marks.{AreBytes, Adds}
use Rattle.embed_graph.proofs.edge_test.set_list.Given as goal

abbrev pub invariant-loop-u : goal.invariant-loop-u
invariant-loop-u l = AreBytes l.n l.body × Adds l.v (take l.u-index l.list) l.fn.body l.body
