use Rattle.std.proofs.Common.{ℕ, List, length, [], ◌∷◌, ◌++◌, sym, ap, ◌∙◌, arith}
use Rattle.std.proofs.lemmas.List.FromFn.{map-range_with_len_more, length-map-range_with_len}
use Rattle.conn_parts.specs.GraphLists.{neighbours_below}
use Rattle.conn_parts.proofs.graph_cuts.adjacency_lists.graph_lists.Goals as goal

pub loop-v-preserved : goal.loop-v-preserved
loop-v-preserved c =
    let graph = c.args.graph.now in
    let v = c.loop-v.v in
    c.in_ok-push_neighbours.ensures
    ∙ (ap (λ (ls : List (List ℕ)). ls ++ neighbours_below graph v graph.n ∷ []) c.loop-v.invariant
    ∙ sym (map-range_with_len_more (λ x. neighbours_below graph x graph.n) 0 v v (omega arith)))

pub from_lists-requires : goal.from_lists-requires
from_lists-requires c =
    let graph = c.args.graph.now in
    omega (arith, c.n-v-end.ensures.known.few, c.n-v-end.ensures.count, c.loop-v.auto.v-end, ap length c.loop-v.invariant, length-map-range_with_len (λ v. neighbours_below graph v graph.n) 0 c.loop-v.v)
