use Rattle.std.proofs.Common.{◌≡◌, ◌<◌, get_or, length, sym, inl, inr, ap, ◌∙◌, subst, arith}
use Rattle.std.proofs.lemmas.Bool.{cases_eq, cases_lt, false≢true}
use Rattle.map_lists.specs.Lists.{Lists}
use Rattle.graph_search.specs.Forests.{IsForestOf}
use Rattle.graph_search.specs.UnderWay.{KeepsNumbers}
use Rattle.graph_search.proofs.TableLemmas.{IsSearching-at_none, IsForestOf-finished, KeepsNumbers-chained, KeepsNumbers-set, all_seen}
use Rattle.graph_search.specs.Lows.{AreLows}
use Rattle.graph_search.proofs.LowsSoFar.{AreLows-found}
use Rattle.graph_search.proofs.search_forests.search_steps.Search.finish.Goals as goal

pub loop-v-preserved-then-not-is_unseen : goal.loop-v-preserved-then-not-is_unseen
loop-v-preserved-then-not-is_unseen c =
    let h = c.loop-v.invariant in
    let s = c.loop-v.self in
    record {
      lists = h.lists;
      keeps = h.keeps;
      none = h.none;
      seen = λ u l. elim (cases_eq u c.loop-v.v) [
        | inl e ↦ elim (cases_lt (get_or s.number.items u 0) (length s.lists.now)) [
          | inl less ↦ less
          | inr most ↦ absurd (false≢true (sym c.if-not-is_unseen.true ∙ c.is_unseen.ensures.1 (omega (arith, most, ap (λ x. get_or s.number.items x 0) e))))
        ]
        | inr ne ↦ h.seen u (omega arith)
      ];
    }

pub loop-v-preserved : goal.loop-v-preserved
loop-v-preserved c =
    let h = c.loop-v.invariant in
    let s = c.loop-v.self in
    let m = c.see.new.self in
    let n = c.search_on-in-loop-v.new.self in
    let first = c.see.ensures in
    let new = c.search_on-in-loop-v.ensures in
    let start = c.args.self.now in
    let same = ap length first.lists in
    let same' = ap length new.lists in
    let in_lists : c.loop-v.v < length s.lists.now = omega (arith, c.loop-v-test.true, c.loop-v.auto.v-end, c.len-v-end.ensures.is, ap length h.lists, ap length c.search_on.ensures.lists) in
    let here : get_or m.number.items c.loop-v.v 0 < length m.lists.now = subst (λ u. get_or m.number.items u 0 < length m.lists.now) first.current (m.searching.state.current_seen (omega (arith, first.current, in_lists, same))) in
    let kept : KeepsNumbers s.number.items m.number.items = KeepsNumbers-set s.number.items m.number.items c.loop-v.v s.count first.number (omega (arith, s.searching.numbers, c.is_unseen.ensures.0 c.if-not-is_unseen.false)) in
    let longer : length m.number.items ≡ length s.number.items = omega (arith, s.searching.numbers, m.searching.numbers, same) in
    let began : length s.number.items ≡ length start.number.items = omega (arith, s.searching.numbers, start.searching.numbers, ap length h.lists) in
    let on = KeepsNumbers-chained s.number.items m.number.items n.number.items longer kept new.keeps in
    record {
      lists = new.lists ∙ (first.lists ∙ h.lists);
      keeps = KeepsNumbers-chained start.number.items s.number.items n.number.items began h.keeps on;
      none = omega (arith, new.none, same, same');
      seen = λ u l. elim (cases_eq u c.loop-v.v) [
        | inl e ↦
            omega (arith, same', here, new.keeps c.loop-v.v (omega (arith, in_lists, longer, s.searching.numbers)) (omega (arith, here, m.searching.numbers)), ap (λ x. get_or n.number.items x 0) e)
        | inr ne ↦
            let old = h.seen u (omega arith) in
            omega (arith, old, same, same', on u (omega (arith, l, in_lists, s.searching.numbers)) (omega (arith, old, s.searching.numbers)))
      ];
    }

pub returns-clause-forest : goal.returns-clause-forest
returns-clause-forest c =
    let h = c.loop-v.invariant in
    let s = c.loop-v.self in
    subst (λ (ls : Lists). IsForestOf ls s.order.items s.number.items s.last.items s.parent.items) h.lists
    (IsForestOf-finished s.lists.now s.order.items s.number.items s.last.items s.parent.items s.cursor.items s.count (IsSearching-at_none s.lists.now s.order.items s.number.items s.last.items s.parent.items s.cursor.items s.count s.current h.none s.searching)
    (λ v l. h.seen v (omega (arith, l, c.loop-v-test.false, c.loop-v.auto.v-end, c.len-v-end.ensures.is, ap length h.lists, ap length c.search_on.ensures.lists))))

pub returns-clause-lows : goal.returns-clause-lows
returns-clause-lows c =
    let h = c.loop-v.invariant in
    let s = c.loop-v.self in
    subst (λ (ls : Lists). AreLows ls s.number.items s.last.items s.low.items) h.lists
    (AreLows-found s.lists.now s.in_range s.order.items s.number.items s.last.items s.parent.items s.cursor.items s.low.items
    (IsForestOf-finished s.lists.now s.order.items s.number.items s.last.items s.parent.items s.cursor.items s.count (IsSearching-at_none s.lists.now s.order.items s.number.items s.last.items s.parent.items s.cursor.items s.count s.current h.none s.searching)
    (λ v l. h.seen v (omega (arith, l, c.loop-v-test.false, c.loop-v.auto.v-end, c.len-v-end.ensures.is, ap length h.lists, ap length c.search_on.ensures.lists)))) s.lows)

pub returns-then-len-from-clause-forest : goal.returns-then-len-from-clause-forest
returns-then-len-from-clause-forest c =
    let s = c.search_on.new.self in
    let e = c.search_on.ensures in
    subst (λ (ls : Lists). IsForestOf ls s.order.items s.number.items s.last.items s.parent.items) e.lists
    (IsForestOf-finished s.lists.now s.order.items s.number.items s.last.items s.parent.items s.cursor.items s.count (IsSearching-at_none s.lists.now s.order.items s.number.items s.last.items s.parent.items s.cursor.items s.count s.current (omega (arith, e.none, ap length e.lists)) s.searching)
    (all_seen s.lists.now s.order.items s.number.items s.last.items s.parent.items s.cursor.items s.count s.current s.searching (omega (arith, c.if-len-from.true, c.len.ensures.is))))

pub returns-then-len-from-clause-lows : goal.returns-then-len-from-clause-lows
returns-then-len-from-clause-lows c =
    let s = c.search_on.new.self in
    let e = c.search_on.ensures in
    subst (λ (ls : Lists). AreLows ls s.number.items s.last.items s.low.items) e.lists
    (AreLows-found s.lists.now s.in_range s.order.items s.number.items s.last.items s.parent.items s.cursor.items s.low.items
    (IsForestOf-finished s.lists.now s.order.items s.number.items s.last.items s.parent.items s.cursor.items s.count (IsSearching-at_none s.lists.now s.order.items s.number.items s.last.items s.parent.items s.cursor.items s.count s.current (omega (arith, e.none, ap length e.lists)) s.searching)
    (all_seen s.lists.now s.order.items s.number.items s.last.items s.parent.items s.cursor.items s.count s.current s.searching (omega (arith, c.if-len-from.true, c.len.ensures.is)))) s.lows)
