use Rattle.std.proofs.Common.{subst}
use Rattle.graphs.specs.Graphs.{IsGraph}
use Rattle.graphs.proofs.EdgeLemmas.{AreEdges-edges_of}
use Rattle.graphs.proofs.graph.Graph.n.Goals as goal

pub returns-clause-known : goal.returns-clause-known
returns-clause-known c =
    subst IsGraph c.self.view_is record {
      few = c.self.invariant.0;
      edges = AreEdges-edges_of c.self.inside.vertices c.self.inside.body.items;
    }
