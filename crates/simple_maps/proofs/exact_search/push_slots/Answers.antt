use Rattle.std.proofs.Common.{◌≡◌, ◌+◌, ◌<◌, List, ℕ, length, get_or, ap, sym, subst, ◌∙◌, arith}
use Rattle.map_theory.specs.Maps.{list_of, darts_before, dart_number}
use Rattle.map_theory.proofs.DartLemmas.{HasDart-at, darts_before_more, darts_before_all}
use Rattle.simple_maps.proofs.TableLemmas.{AreSlotsTo, AreSlotsTo-none, AreSlotsTo-more, AreSlotsTo-all}
use Rattle.simple_maps.proofs.exact_search.push_slots.Goals as goal

pub loop-v-init : goal.loop-v-init
loop-v-init c = rw (c.requires.tails, c.requires.twins) (AreSlotsTo-none c.args.lists.now)

pub loop-u-init : goal.loop-u-init
loop-u-init c =
    let same : darts_before c.args.lists.now c.loop-v.v ≡ darts_before c.args.lists.now c.loop-v.v + 0 = omega arith in
    subst (AreSlotsTo c.args.lists.now c.loop-v.tails.items c.loop-v.twins.items) same c.loop-v.invariant

pub number_of-requires-clause-dart : goal.number_of-requires-clause-dart
number_of-requires-clause-dart c =
    let lists = c.args.lists.now in
    let v = c.loop-v.v in
    let i_in : c.loop-u.u-index < length (list_of lists v) = omega (arith, c.loop-u-test.true, ap (λ (us : List ℕ). length us) c.list-u-items.ensures) in
    let u = ap (λ (us : List ℕ). get_or us c.loop-u.u-index 0) c.list-u-items.ensures in
    rw u (c.requires.simple.both_ways v _ (HasDart-at lists v c.loop-u.u-index 0 (omega arith) i_in))

pub loop-u-preserved : goal.loop-u-preserved
loop-u-preserved c =
    let lists = c.args.lists.now in
    let v = c.loop-v.v in
    let i = c.loop-u.u-index in
    let i_in : i < length (list_of lists v) = omega (arith, c.loop-u-test.true, ap (λ (us : List ℕ). length us) c.list-u-items.ensures) in
    let t = c.number_of.ensures ∙ ap (λ (us : List ℕ). dart_number lists (get_or us i 0, v)) c.list-u-items.ensures in
    rw (c.in_ok-push.ensures.items, c.in_ok-push-2.ensures.items) (AreSlotsTo-more lists c.loop-u.tails.items c.loop-u.twins.items v i _ c.requires.simple (omega arith) i_in t c.loop-u.invariant)

pub loop-v-preserved : goal.loop-v-preserved
loop-v-preserved c =
    let lists = c.args.lists.now in
    let v = c.loop-v.v in
    let end : darts_before lists v + c.loop-u.u-index ≡ darts_before lists (v + 1) = omega (arith, darts_before_more lists v, c.loop-u-test.false, c.loop-u.auto.u-index-end, ap (λ (us : List ℕ). length us) c.list-u-items.ensures) in
    subst (AreSlotsTo lists c.loop-u.tails.items c.loop-u.twins.items) end c.loop-u.invariant

pub returns-clause-slots : goal.returns-clause-slots
returns-clause-slots c =
    AreSlotsTo-all c.args.lists.now _ _ _ c.requires.simple (darts_before_all c.args.lists.now c.loop-v.v (omega arith)) c.loop-v.invariant

pub returns-clause-count : goal.returns-clause-count
returns-clause-count c = c.loop-v.invariant.count ∙ sym c.loop-v.invariant.twins_are.count
