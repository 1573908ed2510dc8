use Rattle.graphs.proofs.EdgeLemmas.{AreMarked}
use Rattle.graphs.proofs.graph.set_all.Given as goal

abbrev pub invariant-loop-edge : goal.invariant-loop-edge
invariant-loop-edge l = AreMarked l.n l.body l.edges l.edge-index
