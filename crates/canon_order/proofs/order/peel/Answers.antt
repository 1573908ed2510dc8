use Rattle.std.proofs.Common.{◌≡◌, ◌↔◌, ◌-◌, ◌+◌, ℕ, List, true, [], ◌∷◌, length, drop, Contains, refl, sym, ap, ap₂, ◌∙◌, set, subst, arith, length-set}
use Rattle.std.proofs.lemmas.List.{length-map, length-drop, drop_all}
use Rattle.map_lists.specs.declared.ids.VertexId.{VertexId}
use Rattle.canon_order.specs.Marks.{is_set, IsTaken}
use Rattle.canon_order.specs.Contours.{IsContour}
use Rattle.canon_order.specs.Orders.{IsCanonicalOrder}
use Rattle.canon_order.proofs.Contours.{IsPrepared-noted, IsContour-begin, some_looks_removable, IsContour-taken, IsContour-three}
use Rattle.canon_order.proofs.PlaceLemmas.{numbers, numbers_put}
use Rattle.canon_order.proofs.order.peel.Goals as goal

pub loop-k-init : goal.loop-k-init
loop-k-init c =
    let lists = c.args.base.now.lists.now in
    let marks = subst (λ w. (u : ℕ) → (is_set c.mark_base.new.marked u ≡ true) ↔ Contains (c.args.base.now.s ∷ w ∷ c.args.base.now.t ∷ []) u) c.args.base.now.left c.mark_base.ensures.marked in
    let all = length-map c.args.at.now (λ v. v.0) in
    record {
      gone_count = c.requires.gone;
      prepared = c.in_ok-mark_base.ensures.prepared;
      low = let some = c.facts.ensures.triangulation.some in omega (arith, c.len-k.ensures.is);
      contour = subst (λ (us : List ℕ). IsContour lists c.args.base.now.t c.args.base.now.s c.args.gone.now c.mark_base.new.marked us) (sym (drop_all _ (numbers c.args.at.now) (omega (arith, all, c.requires.places, c.len-k.ensures.is))))
          (IsContour-begin lists c.args.base.now.t c.args.base.now.s c.facts.ensures.triangulation c.facts.ensures.base c.args.gone.now c.mark_base.new.marked c.requires.gone c.requires.all_left marks);
    }

pub removable_vertex-v-requires-clause-some : goal.removable_vertex-v-requires-clause-some
removable_vertex-v-requires-clause-some c =
    let h = c.loop-k.invariant in
    some_looks_removable c.args.base.now.lists.now c.args.base.now.t c.args.base.now.s c.facts.ensures.triangulation c.loop-k.gone c.loop-k.marked _ h.contour c.loop-k.near h.prepared.tally

pub invariant_of-off : goal.invariant_of-off
invariant_of-off c = record {
  few = c.args.base.now.few;
  simple = ∣ c.facts.ensures.triangulation.simple ∣₁;
  vertex = c.removable_vertex-v.ensures.vertex;
  marks = length-set c.loop-k.gone c.removable_vertex-v.result true ∙ c.loop-k.invariant.gone_count;
}

pub loop-k-preserved : goal.loop-k-preserved
loop-k-preserved c =
    let h = c.loop-k.invariant in
    let lists = c.args.base.now.lists.now in
    let at = c.loop-k.at in
    let k = c.loop-k.k - 1 in
    let v = c.removable_vertex-v.result in
    let gone = set c.loop-k.gone v true in
    let taken : IsTaken lists v c.loop-k.marked c.loop-k.gone c.leave_cycle.new.marked gone = record { gone_is = refl; marks = c.in_ok-leave_cycle.ensures.marks } in
    let test = c.loop-k-test.true in
    let high = c.loop-k.auto.k in
    let same = c.loop-k.auto.at in
    let places = c.requires.places in
    let is = c.len-k.ensures.is in
    let all = length-map at (λ (u : VertexId). u.0) in
    let rest = length-drop c.loop-k.k (numbers at) in
    let one : c.loop-k.k ≡ k + 1 = omega arith in
    let contour = IsContour-taken lists c.args.base.now.t c.args.base.now.s c.facts.ensures.triangulation c.loop-k.gone c.loop-k.marked _ h.contour c.loop-k.near h.prepared.tally v c.removable_vertex-v.ensures.removable
    (omega arith) h.gone_count c.leave_cycle.new.marked gone taken in
    record {
      gone_count = ap length taken.gone_is ∙ (length-set c.loop-k.gone v true ∙ h.gone_count);
      prepared = IsPrepared-noted lists c.args.base.now.t c.args.base.now.s c.loop-k.marked c.loop-k.near c.removable_vertex-v.new.stack.items c.leave_cycle.new.marked c.leave_cycle.new.near c.leave_cycle.new.stack.items c.in_ok-leave_cycle.ensures.noted c.removable_vertex-v.ensures.prepared;
      low = let test = c.loop-k-test.true in omega arith;
      contour = subst (λ (us : List ℕ). IsContour lists c.args.base.now.t c.args.base.now.s gone c.leave_cycle.new.marked us)
          (ap (λ j. v ∷ drop j (numbers at)) one ∙ sym (numbers_put at k (record { 0 = v }) (omega arith))) contour;
    }

pub returns : goal.returns
returns c =
    let h = c.loop-k.invariant in
    let base = c.args.base.now in
    let at = c.loop-k.at in
    let test = c.loop-k-test.false in
    let low = h.low in
    let all = length-map at (λ (v : VertexId). v.0) in
    let rest = length-drop c.loop-k.k (numbers at) in
    let last : 3 ≡ c.loop-k.k = omega arith in
    let done = IsContour-three base.lists.now base.t base.s c.facts.ensures.triangulation c.loop-k.gone c.loop-k.marked _ h.contour (omega (arith, c.loop-k.auto.at, c.requires.places, c.facts.ensures.triangulation.some)) in
    subst (λ (us : List ℕ). IsCanonicalOrder base.lists.now (base.t, base.s) us)
    (sym (c.put_first.ensures ∙ ap₂ (λ (x j : ℕ). base.s ∷ base.t ∷ x ∷ drop j (numbers at)) base.right last)) done
