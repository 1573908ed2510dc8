use Rattle.std.proofs.Common.{drop}
use Rattle.pigale_c.proofs.EdgeLemmas.{SameEdges}
use Rattle.pigale_c.proofs.edges.are_edges.Given as goal

abbrev pub invariant-loop-edge : goal.invariant-loop-edge
invariant-loop-edge l = SameEdges l.n l.edges l.last (drop l.edge-index l.edges)
