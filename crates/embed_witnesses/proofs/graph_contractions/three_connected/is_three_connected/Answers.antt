use Rattle.std.proofs.lemmas.Bool.{false≢true}
use Rattle.std.proofs.Common.{refl, arith, rules}
use Rattle.conn_parts.proofs.GraphLemmas.{length-graph_lists, IsSimpleMap-graph_lists}
use Rattle.embed_witnesses.proofs.graph_contractions.three_connected.is_three_connected.Goals as goal

pub returns-then-n-lt4 : goal.returns-then-n-lt4
returns-then-n-lt4 c =
    let n = length-graph_lists c.args.graph.now c.n.ensures.known in
    ((λ t. absurd (false≢true t)), λ three. let some = three.some in absurd (omega (arith, c.n.ensures.count, c.if-n-lt4.true)))

pub returns-in-Some : goal.returns-in-Some
returns-in-Some c =
    let least = rw c.in-Some.is at c.in_ok-graph_cut_vertex.ensures in
    ((λ t. absurd (false≢true t)), λ three. absurd (three.uncut c.in-Some.field-0.0 least.is_cut))

pub returns-in-Some-2 : goal.returns-in-Some-2
returns-in-Some-2 c =
    let least = rw c.in-Some-2.is at c.in_ok-graph_separating_pair-in-None.ensures in
    ((λ t. absurd (false≢true t)), λ three. absurd (three.unpaired c.in-Some-2.field-0.0.0 c.in-Some-2.field-0.1.0 least.is_pair))

pub returns : goal.returns
returns c =
    let n = length-graph_lists c.args.graph.now c.n.ensures.known in (
      λ t. record {
        simple = IsSimpleMap-graph_lists c.args.graph.now c.n.ensures.known c.requires;
        some = omega (arith, c.n.ensures.count, c.if-n-lt4.false);
        connected = search rules;
        uncut = rw c.in-None.is at c.in_ok-graph_cut_vertex.ensures;
        unpaired = rw c.in-None-2.is at c.in_ok-graph_separating_pair-in-None.ensures;
      },
      λ three. refl,
    )
