use Rattle.std.proofs.Common.{◌≡◌, ℕ, List, length, get_or, set, sym, ◌∙◌, subst, arith}
use Rattle.std.proofs.lemmas.List.{get_or_default, take_at}
use Rattle.graph_search.specs.Lows.{IsLowered}
use Rattle.graph_search.specs.UnderWay.{IsSearching, AreLowsSoFar}
use Rattle.graph_search.proofs.LowsSoFar.{AreLowsSoFar-done}
use Rattle.graph_search.proofs.TableLemmas.{IsSearching-done, work_in-done}
use Rattle.graph_search.proofs.search_forests.search_steps.Search.end.Goals as goal

pub invariant_of-self-clause-searching : goal.invariant_of-self-clause-searching
invariant_of-self-clause-searching c =
    let s = c.args.self.now in
    let above = c.index-above.result.now in
    let is : above ≡ get_or s.parent.items s.current 0 = c.index-above.ensures ∙ get_or_default s.parent.items s.current above 0 (omega (arith, s.searching.parents, c.requires.vertex)) in
    subst (λ (x : ℕ). IsSearching s.lists.now s.order.items s.number.items (set s.last.items s.current s.count) s.parent.items s.cursor.items s.count x) (sym is) (IsSearching-done s.lists.now s.order.items s.number.items s.last.items s.parent.items s.cursor.items s.count s.current s.searching s.in_range c.requires.vertex c.requires.all)

pub returns-clause-less : goal.returns-clause-less
returns-clause-less c =
    let s = c.args.self.now in
    work_in-done s.lists.now s.order.items s.number.items s.last.items s.parent.items s.cursor.items s.count s.current s.searching s.in_range c.requires.vertex c.requires.all

pub invariant_of-self-clause-lows : goal.invariant_of-self-clause-lows
invariant_of-self-clause-lows c =
    let s = c.args.self.now in
    let above = c.index-above.result.now in
    let least = c.index-least.result.now in
    let new = c.lower.new.low in
    let is : above ≡ get_or s.parent.items s.current 0 = c.index-above.ensures ∙ get_or_default s.parent.items s.current above 0 (omega (arith, s.searching.parents, c.requires.vertex)) in
    let low : least ≡ get_or s.low.items s.current 0 = c.index-least.ensures ∙ get_or_default s.low.items s.current least 0 (omega (arith, s.lows.lows, c.requires.vertex)) in
    let lowered : IsLowered s.low.items new (get_or s.parent.items s.current 0) (get_or s.low.items s.current 0) =
    subst (λ (x : ℕ). IsLowered s.low.items new (get_or s.parent.items s.current 0) x) low
    (subst (λ (x : ℕ). IsLowered s.low.items new x least) is
    (subst (λ (xs : List ℕ). IsLowered xs new above least) c.deref_mut.ensures.value c.lower.ensures)) in
    let long : length new ≡ s.low.len = c.lower.ensures.count ∙ c.deref_mut.ensures.len in
    subst (λ (xs : List ℕ). AreLowsSoFar s.lists.now s.number.items (set s.last.items s.current s.count) s.parent.items s.cursor.items xs) (sym (take_at new _ s.low.len long))
    (AreLowsSoFar-done s.lists.now s.order.items s.number.items s.last.items s.parent.items s.cursor.items s.low.items s.count s.current s.searching s.lows new c.requires.vertex c.requires.all lowered)
