use Rattle.std.proofs.Common.{sym, ap, ◌∙◌, arith}
use Rattle.std.proofs.lemmas.Bool.{true≢false}
use Rattle.embed_witnesses.proofs.ContractedLemmas.{edge_within}
use Rattle.embed_witnesses.proofs.Plain.{more_live, same_live}
use Rattle.embed_witnesses.proofs.plain_witnesses.subgraph_search.live_vertices.Goals as goal
use Rattle.embed_witnesses.proofs.plain_witnesses.subgraph_search.live_vertices.Goals.{then-has_edges+in_ok-push, else-has_edges}

pub loop-v-preserved : goal.loop-v-preserved
loop-v-preserved c =
    elim c.if-has_edges.branch [
      | then-has_edges+in_ok-push w ↦ more_live c.args.graph.now c.loop-v.v c.loop-v.live.items c.if-has_edges.live.items c.loop-v.invariant (ap (λ l. l.items) w.live-is ∙ w.in_ok-push.ensures.items)
      | else-has_edges w ↦ same_live c.args.graph.now c.loop-v.v c.loop-v.live.items c.if-has_edges.live.items c.loop-v.invariant (ap (λ l. l.items) w.live-is) (λ u e. true≢false (sym (c.has_edges.ensures u e) ∙ w.if-has_edges.false))
    ]

pub returns : goal.returns
returns c u v e =
    let w = edge_within c.args.graph.now c.n-v-end.ensures.known.edges u v e in
    let l = w.0 in
    let t = c.loop-v-test.false in
    let a = c.loop-v.auto.v-end in
    let k = c.n-v-end.ensures.count in
    c.loop-v.invariant u v (omega arith) e
