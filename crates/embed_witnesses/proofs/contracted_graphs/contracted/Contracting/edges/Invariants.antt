use Rattle.std.proofs.Common.{◌≡◌, ◌++◌, ◌+◌, ◌-◌, map}
use Rattle.std.specs.List.{range_with_len, flat_map}
use Rattle.graphs.specs.Graphs.{edge_of}
use Rattle.graphs.specs.Bits.{pairs_of}
use Rattle.embed_witnesses.specs.ContractedEdges.{contracted_among}
use Rattle.embed_witnesses.proofs.contracted_graphs.contracted.Contracting.edges.Given as goal

abbrev pub invariant-loop-u : goal.invariant-loop-u
invariant-loop-u l =
    map edge_of l.edges.items ≡ contracted_among l.self.graph.now l.self.e.a.0 l.self.e.b.0 (flat_map (pairs_of l.n) (range_with_len 0 l.u))

abbrev pub invariant-loop-v : goal.invariant-loop-v
invariant-loop-v l =
    map edge_of l.edges.items ≡ contracted_among l.self.graph.now l.self.e.a.0 l.self.e.b.0 (flat_map (pairs_of l.n) (range_with_len 0 l.u)) ++ contracted_among l.self.graph.now l.self.e.a.0 l.self.e.b.0 (map (λ b. (l.u, b)) (range_with_len (l.u + 1) (l.v - (l.u + 1))))
