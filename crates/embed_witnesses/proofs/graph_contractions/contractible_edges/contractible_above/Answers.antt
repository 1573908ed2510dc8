use Rattle.std.proofs.Common.{arith}
use Rattle.embed_witnesses.proofs.ContractedLemmas.{edge_within}
use Rattle.embed_witnesses.proofs.graph_contractions.contractible_edges.contractible_above.Goals as goal

pub returns : goal.returns
returns c = λ v e.
    let l = edge_within c.args.graph.now c.n-n.ensures.known.edges c.args.u v e.joined in
    c.loop-v.invariant v (omega (arith, l, c.n-n.ensures.count, c.loop-v-test.false)) e
