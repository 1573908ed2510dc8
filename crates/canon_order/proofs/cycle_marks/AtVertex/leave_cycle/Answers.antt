use Rattle.std.proofs.Common.{◌≡◌, ◌≢◌, ◌⊎◌, ◌↔◌, ◌<◌, ◌≤◌, ℕ, List, true, false, length, get_or, set, All, AllPairs, Contains, subst, sym, ◌∙◌, inl, inr, arith, length-set}
use Rattle.std.proofs.lemmas.List.Elements.{All-filter, filter_passes}
use Rattle.std.proofs.lemmas.List.Kept.{AllPairs-filter}
use Rattle.map_theory.proofs.EntryLemmas.{count_of}
use Rattle.canon_order.specs.Marks.{is_set, is_untouched}
use Rattle.canon_order.proofs.Marks.{list_within, some, marks-untouched, IsNoted-lowered, IsNoted-chained}
use Rattle.canon_order.proofs.cycle_marks.AtVertex.leave_cycle.Goals as goal

pub lower_noting-requires-clause-within : goal.lower_noting-requires-clause-within
lower_noting-requires-clause-within c =
    let n = c.requires.tally.counts_of_all in
    subst (λ (us : List ℕ). All (λ u. u < length c.args.near.now) us) (sym c.list-list.ensures) (λ k d l. let h = list_within c.args.self.now.lists.now c.facts.ensures c.args.self.now.v c.args.self.now.vertex k d l in omega arith)

pub lower_noting-requires-clause-marks : goal.lower_noting-requires-clause-marks
lower_noting-requires-clause-marks c =
    let n = c.requires.tally.marks_of_all in
    let same = length-set c.args.marked.now c.args.self.now.v false in
    subst (λ (us : List ℕ). All (λ u. u < length (set c.args.marked.now c.args.self.now.v false)) us) (sym c.list-list.ensures) (λ k d l. let h = list_within c.args.self.now.lists.now c.facts.ensures c.args.self.now.v c.args.self.now.vertex k d l in omega arith)

pub lower_noting-requires-clause-gone : goal.lower_noting-requires-clause-gone
lower_noting-requires-clause-gone c =
    let n = c.args.self.now.marks in
    subst (λ (us : List ℕ). All (λ u. u < length c.args.self.now.gone.now) us) (sym c.list-list.ensures) (λ k d l. let h = list_within c.args.self.now.lists.now c.facts.ensures c.args.self.now.v c.args.self.now.vertex k d l in omega arith)

pub lower_noting-requires-clause-some : goal.lower_noting-requires-clause-some
lower_noting-requires-clause-some c =
    subst (λ (us : List ℕ). (w : ℕ) → w < length c.args.near.now → count_of w us ≤ get_or c.args.near.now w 0) (sym c.list-list.ensures)
    (some c.args.self.now.lists.now c.facts.ensures c.args.marked.now c.args.near.now c.args.self.now.v c.args.self.now.vertex c.requires.tally c.requires.marked)

pub mark_each-requires-clause-tally : goal.mark_each-requires-clause-tally
mark_each-requires-clause-tally c =
    let lists = c.args.self.now.lists.now in
    let v = c.args.self.now.v in
    let less = c.in_ok-lower_noting.ensures in
    let off = IsNoted-lowered lists c.facts.ensures c.args.marked.now c.args.near.now c.args.stack.now.items v c.args.self.now.vertex c.requires.tally c.requires.vertices c.requires.marked c.list-list.result.now c.list-list.ensures c.lower_noting.new.counts c.lower_noting.new.stack.items c.lower_noting.auto.counts less.counts less.kept less.vertices less.noted in
    off.tally

pub mark_each-requires-clause-vertices : goal.mark_each-requires-clause-vertices
mark_each-requires-clause-vertices c =
    let lists = c.args.self.now.lists.now in
    let v = c.args.self.now.v in
    let less = c.in_ok-lower_noting.ensures in
    let off = IsNoted-lowered lists c.facts.ensures c.args.marked.now c.args.near.now c.args.stack.now.items v c.args.self.now.vertex c.requires.tally c.requires.vertices c.requires.marked c.list-list.result.now c.list-list.ensures c.lower_noting.new.counts c.lower_noting.new.stack.items c.lower_noting.auto.counts less.counts less.kept less.vertices less.noted in
    off.vertices

pub mark_each-requires-clause-within : goal.mark_each-requires-clause-within
mark_each-requires-clause-within c =
    let own = c.args.self.now in
    let within = subst (λ (us : List ℕ). All (λ u. u < length own.lists.now) us) (sym c.list-list.ensures) (list_within own.lists.now c.facts.ensures own.v own.vertex) in
    subst (λ (us : List ℕ). All (λ u. u < length own.lists.now) us) (sym (c.deref.ensures.value ∙ c.in_ok-lower_noting.ensures.fresh)) (All-filter _ (λ u. u < length own.lists.now) c.list-list.result.now within)

pub mark_each-requires-clause-distinct : goal.mark_each-requires-clause-distinct
mark_each-requires-clause-distinct c =
    let own = c.args.self.now in
    let distinct = subst (λ (us : List ℕ). AllPairs ◌≢◌ us) (sym c.list-list.ensures) (c.facts.ensures.no_repeat own.v own.vertex) in
    subst (λ (us : List ℕ). AllPairs ◌≢◌ us) (sym (c.deref.ensures.value ∙ c.in_ok-lower_noting.ensures.fresh)) (AllPairs-filter ◌≢◌ _ c.list-list.result.now distinct)

pub mark_each-requires-clause-untouched : goal.mark_each-requires-clause-untouched
mark_each-requires-clause-untouched c =
    let untouched = is_untouched (set c.args.marked.now c.args.self.now.v false) c.args.self.now.gone.now in
    subst (λ (us : List ℕ). All (λ u. untouched u ≡ true) us) (sym (c.deref.ensures.value ∙ c.in_ok-lower_noting.ensures.fresh)) (filter_passes untouched c.list-list.result.now)

pub returns-clause-noted : goal.returns-clause-noted
returns-clause-noted c =
    let lists = c.args.self.now.lists.now in
    let v = c.args.self.now.v in
    let less = c.in_ok-lower_noting.ensures in
    let off = IsNoted-lowered lists c.facts.ensures c.args.marked.now c.args.near.now c.args.stack.now.items v c.args.self.now.vertex c.requires.tally c.requires.vertices c.requires.marked c.list-list.result.now c.list-list.ensures c.lower_noting.new.counts c.lower_noting.new.stack.items c.lower_noting.auto.counts less.counts less.kept less.vertices less.noted in
    IsNoted-chained lists c.args.marked.now c.args.near.now c.args.stack.now.items (set c.args.marked.now v false) c.lower_noting.new.counts c.lower_noting.new.stack.items c.mark_each.new.marked c.mark_each.new.near c.mark_each.new.stack.items off c.in_ok-mark_each.ensures.noted

pub returns-clause-neighbours : goal.returns-clause-neighbours
returns-clause-neighbours c = λ u has on two.
    let h = c.in_ok-mark_each.ensures.noted in
    elim (h.noted u on two) [
      | inl c' ↦ c'
      | inr e ↦ h.kept u (c.in_ok-lower_noting.ensures.noted u (subst (λ (us : List ℕ). Contains us u) (sym c.list-list.ensures) has) e.0 (sym e.1 ∙ two))
    ]

pub returns-clause-marks : goal.returns-clause-marks
returns-clause-marks c =
    let off = set c.args.marked.now c.args.self.now.v false in
    let gone = c.args.self.now.gone.now in
    subst (λ (vs : List ℕ). (u : ℕ) → (is_set c.mark_each.new.marked u ≡ true) ↔ ((is_set off u ≡ true) ⊎ (Contains vs u × (is_set gone u ≡ false)))) c.list-list.ensures
    (marks-untouched off gone c.list-list.result.now c.deref.result.now (λ u. is_set c.mark_each.new.marked u ≡ true) (c.deref.ensures.value ∙ c.in_ok-lower_noting.ensures.fresh) c.in_ok-mark_each.ensures.marks)
