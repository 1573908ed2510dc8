use Rattle.std.proofs.Common.{sym, ◌∙◌, arith}
use Rattle.std.proofs.lemmas.Bool.{true≢false}
use Rattle.embed_witnesses.proofs.ContractedLemmas.{edge_within}
use Rattle.embed_witnesses.proofs.plain_witnesses.subgraph_search.has_edges.Goals as goal

pub returns : goal.returns
returns c u e =
    let w = edge_within c.args.graph.now c.n-u-end.ensures.known.edges c.args.v u e in
    let l = w.1 in
    let t = c.loop-u-test.false in
    let a = c.loop-u.auto.u-end in
    let k = c.n-u-end.ensures.count in
    absurd (true≢false (sym e ∙ c.loop-u.invariant u (omega arith)))
