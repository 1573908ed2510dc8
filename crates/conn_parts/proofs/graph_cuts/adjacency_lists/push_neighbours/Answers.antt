use Rattle.std.proofs.Common.{ℕ, List, [], ◌∷◌, ◌++◌, sym, ap, ◌∙◌}
use Rattle.std.specs.List.{filter, range_with_len}
use Rattle.std.proofs.lemmas.List.Elements.{filter-append}
use Rattle.graphs.specs.Graphs.{has_edge}
use Rattle.conn_parts.specs.GraphLists.{neighbours_below}
use Rattle.conn_parts.proofs.GraphLemmas.{range_more}
use Rattle.conn_parts.proofs.graph_cuts.adjacency_lists.push_neighbours.Goals as goal

pub loop-u-preserved : goal.loop-u-preserved
loop-u-preserved c =
    let joined = λ (x : ℕ). has_edge c.args.graph.now c.args.v x in
    let u = c.loop-u.u in
    let row = neighbours_below c.args.graph.now c.args.v u in
    c.in_ok-append_joined.ensures c.args.lists.now row c.loop-u.invariant
    ∙ ap (λ (us : List ℕ). c.args.lists.now ++ us ∷ []) (sym (ap (filter joined) (range_more u) ∙ filter-append joined (range_with_len 0 u) (u ∷ [])))
