use Rattle.std.proofs.Common.{ℕ, List, ap, arith, length, slice_index, ◌∙◌}
use Rattle.graph_search.proofs.ForestLemmas.{IsAdjacency-simple}
use Rattle.conn_parts.specs.GraphLists.{graph_lists}
use Rattle.conn_parts.proofs.GraphLemmas.{length-graph_lists, IsSimpleMap-graph_lists}
use Rattle.left_right_lists.specs.Trees.{grown_parent, grown_depth}
use Rattle.left_right_lists.proofs.Tabled.{tabled_slices}
use Rattle.left_right_lists.proofs.Grown.{of_lists}
use Rattle.left_right_lists.proofs.tree.tree_of.Goals as goal

pub search_forest-requires : goal.search_forest-requires
search_forest-requires c = record { adjacency = rw c.in_ok-lists.ensures (IsAdjacency-simple (graph_lists c.args.graph.now) (IsSimpleMap-graph_lists c.args.graph.now c.n-n.ensures.known c.requires)) }

pub invariant_of-one : goal.invariant_of-one
invariant_of-one c = record {
  shallow = λ v.
      let same = ap (λ (xs : List ℕ). slice_index xs v) c.deref-3.ensures.value in
      omega (arith, same, c.in_ok-depths.ensures.most v, ap length c.in_ok-lists.ensures, length-graph_lists c.args.graph.now c.n-n.ensures.known, c.n-n.ensures.known.few);
}

pub returns : goal.returns
returns c =
    of_lists c.args.graph.now c.n-n.ensures.known c.in_ok-lists.lists c.in_ok-lists.ensures c.in_ok-forest.forest.order.items c.in_ok-forest.forest.number.items c.in_ok-forest.forest.last.items c.in_ok-forest.forest.parent.items c.in_ok-depths.depths.items c.in_ok-forest.ensures c.in_ok-depths.ensures c.requires c.entry-root.result
    (c.entry-root.ensures ∙ ap (λ (xs : List ℕ). slice_index xs 0) c.deref.ensures.value) c.in_ok-grown_parents.grown_parents.items c.in_ok-grown_depths.grown_depths.items
    (tabled_slices grown_parent c.in_ok-grown_parents.grown_parents.items c.entry-root.result c.deref-2.ensures.value c.deref-3.ensures.value c.n-n.ensures.count c.in_ok-grown_parents.ensures)
    (tabled_slices grown_depth c.in_ok-grown_depths.grown_depths.items c.entry-root.result c.deref-2.ensures.value c.deref-3.ensures.value c.n-n.ensures.count c.in_ok-grown_depths.ensures)
