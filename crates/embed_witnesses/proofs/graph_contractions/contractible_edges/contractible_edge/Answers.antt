use Rattle.std.proofs.Common.{arith}
use Rattle.embed_witnesses.proofs.ContractedLemmas.{edge_within}
use Rattle.embed_witnesses.proofs.Found.{some_contractible}
use Rattle.embed_witnesses.proofs.graph_contractions.contractible_edges.contractible_edge.Goals as goal

pub unreachable-requires : goal.unreachable-requires
unreachable-requires c =
    let graph = c.args.graph.now in
    let is = c.n-u-end.ensures.known in
    let r = some_contractible graph is c.requires.five c.requires.three in
    let l = edge_within graph is.edges r.0 r.1 r.2.joined in
    c.loop-u.invariant r.0 r.1 (omega (arith, l, c.n-u-end.ensures.count, c.loop-u-test.false)) r.2
