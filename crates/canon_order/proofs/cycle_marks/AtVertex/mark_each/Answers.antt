use Rattle.std.proofs.Common.{◌≡◌, ◌⊎◌, ◌↔◌, ℕ, List, true, false, length, get_or, take, Contains, subst, sym, ap, ◌∙◌, inl, inr, arith}
use Rattle.std.proofs.Math.Seq.{take-length}
use Rattle.std.proofs.lemmas.Bool.{cases_Bool, false≢true}
use Rattle.canon_order.specs.Marks.{is_set}
use Rattle.canon_order.proofs.Marks.{marks-none, marks-more, marks-one, not_before, untouched-unmarked, untouched-left, IsNoted-none, IsNoted-chained}
use Rattle.canon_order.proofs.cycle_marks.AtVertex.mark_each.Goals as goal

pub loop-u-init : goal.loop-u-init
loop-u-init c = record {
  noted = IsNoted-none c.args.self.now.lists.now c.args.marked.now c.args.near.now c.args.stack.now.items c.requires.tally c.requires.vertices;
  marks = marks-none (λ u. is_set c.args.marked.now u ≡ true) (λ u. is_set c.args.self.now.gone.now u ≡ false) c.args.fresh.now;
}

pub invariant_of-neighbour : goal.invariant_of-neighbour
invariant_of-neighbour c =
    let own = c.args.self.now in
    record { few = own.few; simple = own.simple; vertex = c.requires.within c.loop-u.u-index 0 c.loop-u-test.true; marks = own.marks }

pub mark_new-requires-clause-unmarked : goal.mark_new-requires-clause-unmarked
mark_new-requires-clause-unmarked c =
    let fresh = c.args.fresh.now in
    let i = c.loop-u.u-index in
    let v = get_or fresh i 0 in
    let untouched = c.requires.untouched i 0 c.loop-u-test.true in
    elim (cases_Bool (is_set c.loop-u.marked v)) [
      | inr off ↦ off
      | inl on ↦ elim ((c.loop-u.invariant.marks v).0 on) [
        | inl old ↦ absurd (false≢true (sym (untouched-unmarked c.args.marked.now c.args.self.now.gone.now v untouched) ∙ old))
        | inr before ↦ absurd (not_before fresh i c.loop-u-test.true c.requires.distinct before.0)
      ]
    ]

pub loop-u-preserved : goal.loop-u-preserved
loop-u-preserved c =
    let h = c.loop-u.invariant in
    let lists = c.args.self.now.lists.now in
    let gone = c.args.self.now.gone.now in
    let fresh = c.args.fresh.now in
    let i = c.loop-u.u-index in
    let v = get_or fresh i 0 in
    let vertex = c.requires.within i 0 c.loop-u-test.true in
    let more = marks-one c.loop-u.marked c.mark_new.new.marked v (λ u. is_set gone u ≡ false) (let n = h.noted.tally.marks_of_all in omega (arith, n, vertex)) c.mark_new.ensures.marks
    (untouched-left c.args.marked.now gone v (c.requires.untouched i 0 c.loop-u-test.true)) in
    record {
      noted = IsNoted-chained lists c.args.marked.now c.args.near.now c.args.stack.now.items c.loop-u.marked c.loop-u.near c.loop-u.stack.items c.mark_new.new.marked c.mark_new.new.near c.mark_new.new.stack.items h.noted c.in_ok-mark_new.ensures.noted;
      marks = marks-more (λ u. is_set c.args.marked.now u ≡ true) (λ u. is_set c.loop-u.marked u ≡ true) (λ u. is_set c.mark_new.new.marked u ≡ true) (λ u. is_set gone u ≡ false) fresh i c.loop-u-test.true h.marks more;
    }

pub returns-clause-marks : goal.returns-clause-marks
returns-clause-marks c =
    let us = c.args.fresh.now in
    let all : c.loop-u.u-index ≡ length us = omega arith in
    let whole = ap (λ k. take k us) all ∙ take-length us in
    subst (λ (vs : List ℕ). (u : ℕ) → (is_set c.loop-u.marked u ≡ true) ↔ ((is_set c.args.marked.now u ≡ true) ⊎ (Contains vs u × (is_set c.args.self.now.gone.now u ≡ false)))) whole c.loop-u.invariant.marks
