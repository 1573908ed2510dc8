use Rattle.std.proofs.Common.{ℕ, List, [], ◌∷◌, ◌++◌, ap, ◌∙◌, subst, arith}
use Rattle.map_theory.specs.Maps.{Dart}
use Rattle.left_right_lists.proofs.Filled.{IsFilled, filled_none, next_vertex, children, ready, filled_more, filled_map, order_within, rows_within, rows_joined}
use Rattle.left_right_lists.proofs.return_edges.RootedGraph.all_entries.Goals as goal

pub loop-k-init : goal.loop-k-init
loop-k-init c = λ h parted. filled_none c.args.self.now.graph.now c.args.self.now.tree.now h c.args.sides.now parted c.new-entries.result c.new-opens.result c.new-entries.ensures c.new-opens.ensures

pub invariant_of-at : goal.invariant_of-at
invariant_of-at c =
    let next = next_vertex c.args.self.now.graph.now c.args.self.now.tree.now c.requires.tree c.args.sides.now c.requires.sides c.n-n.result c.loop-k.k c.entry-v.result c.deref.result.now c.n-n.ensures.count c.loop-k-test.true c.deref.ensures.value c.entry-v.ensures in
    record { children = children c.args.self.now.graph.now c.args.self.now.tree.now c.requires.tree c.args.sides.now c.requires.sides c.loop-k.entries c.loop-k.opens c.loop-k.k c.entry-v.result (c.loop-k.invariant c.requires.tree c.requires.sides) next.0 next.1 }

pub order-requires-clause-ready : goal.order-requires-clause-ready
order-requires-clause-ready c =
    let next = next_vertex c.args.self.now.graph.now c.args.self.now.tree.now c.requires.tree c.args.sides.now c.requires.sides c.n-n.result c.loop-k.k c.entry-v.result c.deref.result.now c.n-n.ensures.count c.loop-k-test.true c.deref.ensures.value c.entry-v.ensures in
    ready c.args.self.now.graph.now c.args.self.now.tree.now c.requires.tree c.args.sides.now c.requires.sides c.loop-k.entries c.loop-k.opens c.loop-k.k c.entry-v.result (c.loop-k.invariant c.requires.tree c.requires.sides) next.0 next.1

pub joined_rows-requires : goal.joined_rows-requires
joined_rows-requires c = rows_within _ _ _ c.deref-in-loop-k.ensures.value c.in_ok-blocks.ensures (order_within c.args.self.now.graph.now c.args.self.now.tree.now c.args.sides.now c.loop-k.opens c.entry-v.result c.in_ok-us.us.items c.in_ok-us.ensures)

pub joined_rows-requires-in-loop-k : goal.joined_rows-requires-in-loop-k
joined_rows-requires-in-loop-k c = rows_within _ _ _ c.deref-in-loop-k-2.ensures.value c.in_ok-returned.ensures (order_within c.args.self.now.graph.now c.args.self.now.tree.now c.args.sides.now c.loop-k.opens c.entry-v.result c.in_ok-us.us.items c.in_ok-us.ensures)

pub loop-k-preserved : goal.loop-k-preserved
loop-k-preserved c = λ h parted.
    let next = next_vertex c.args.self.now.graph.now c.args.self.now.tree.now h c.args.sides.now parted c.n-n.result c.loop-k.k c.entry-v.result c.deref.result.now c.n-n.ensures.count c.loop-k-test.true c.deref.ensures.value c.entry-v.ensures in
    filled_more c.args.self.now.graph.now c.args.self.now.tree.now h c.args.sides.now parted c.loop-k.entries c.loop-k.opens c.loop-k.k c.entry-v.result (c.loop-k.invariant h parted) next.0 next.1 c.push.new.self c.push-in-loop-k.new.self c.in_ok-list.list.items c.in_ok-waiting.waiting.items
    record {
      us = c.in_ok-us.us.items;
      order = c.in_ok-us.ensures;
      list_is = rows_joined _ _ _ _ c.deref-in-loop-k.ensures.value c.in_ok-blocks.ensures (order_within c.args.self.now.graph.now c.args.self.now.tree.now c.args.sides.now c.loop-k.opens c.entry-v.result c.in_ok-us.us.items c.in_ok-us.ensures) c.in_ok-list.ensures;
      waiting_is = rows_joined _ _ _ _ c.deref-in-loop-k-2.ensures.value c.in_ok-returned.ensures (order_within c.args.self.now.graph.now c.args.self.now.tree.now c.args.sides.now c.loop-k.opens c.entry-v.result c.in_ok-us.us.items c.in_ok-us.ensures) c.in_ok-waiting.ensures;
    }
    (c.in_ok-push.ensures.ok ∙ ap (λ (z : List ℕ). c.loop-k.entries ++ z ∷ []) c.deref-in-loop-k-3.ensures.value)
    (c.in_ok-push-2.ensures.ok ∙ ap (λ (z : List Dart). c.loop-k.opens ++ z ∷ []) c.deref-in-loop-k-4.ensures.value)

pub returns : goal.returns
returns c =
    let count = c.n-n.ensures.count in
    let end = c.loop-k.auto.k-end in
    let past = c.loop-k-test.false in
    let all = subst (IsFilled c.args.self.now.graph.now c.args.self.now.tree.now c.requires.tree c.args.sides.now c.requires.sides c.loop-k.entries c.loop-k.opens) (omega (arith, count, end, past)) (c.loop-k.invariant c.requires.tree c.requires.sides) in
    record {
      long = all.entries_long;
      maps = filled_map c.args.self.now.graph.now c.args.self.now.tree.now c.requires.tree c.args.sides.now c.requires.sides c.loop-k.entries c.loop-k.opens all;
    }
