use Rattle.std.proofs.Common.{ℕ, List, [], ◌∷◌, length, reverse, subst, sym, ap, ◌∙◌, refl, arith}
use Rattle.std.proofs.lemmas.List.{reverse-append, length-append, length-reverse}
use Rattle.std.proofs.lemmas.Result.{IfOk-weaker}
use Rattle.rect_orders.specs.Orders.{IsRectOrder}
use Rattle.rect_orders.specs.Contours.{IsContour, IsOrderAt}
use Rattle.rect_orders.proofs.Notes.{IsPrepared-begin, IsStacked-prepared, IsPrepared-stacked}
use Rattle.rect_orders.proofs.Beginning.{IsFramedIn-class}
use Rattle.rect_orders.proofs.Contours.{same_length, on_left, some_removable, right_marked, IsContour-begin, IsContour-taken, IsContour-three}
use Rattle.rect_orders.proofs.rect_order.vertex_removal.Closed.take_all.Goals as goal

pub invariant_of-three : goal.invariant_of-three
invariant_of-three c =
    let f = c.args.self.now.frame in
    let (map, k) = c.requires.class in
    let four = IsFramedIn-class c.args.self.now.lists.now map f.left.0 f.top.0 f.right.0 f.bottom.0 f.inner.0 k in
    record { first_in = four.s_in; second_in = four.d_in; third_in = four.t_in; first_second = four.s_d; first_third = four.s_t; second_third = four.d_t }

pub take_off-requires-clause-prepared : goal.take_off-requires-clause-prepared
take_off-requires-clause-prepared c = IsPrepared-begin c.args.self.now.lists.now c.args.self.now.frame.bottom.0 c.args.self.now.frame.left.0 c.mark_all.new.marks c.mark_all.new.counts c.args.gone.now c.args.away.now c.args.stack.now.items c.mark_all.ensures.tally c.requires.fresh.all_left c.requires.fresh.empty

pub take_off-requires-clause-marked : goal.take_off-requires-clause-marked
take_off-requires-clause-marked c = (c.mark_all.ensures.marks c.args.self.now.frame.top.0).1 (1, omega arith, refl)

pub take_off-requires-clause-left : goal.take_off-requires-clause-left
take_off-requires-clause-left c = c.requires.fresh.all_left.none c.args.self.now.frame.top.0

pub take_off-requires-2-clause-marked : goal.take_off-requires-2-clause-marked
take_off-requires-2-clause-marked c =
    let f = c.args.self.now.frame in
    (right_marked c.requires.class.0 f.left.0 f.top.0 f.right.0 f.bottom.0 f.inner.0 c.args.self.now.lists.now c.requires.class.1 c.mark_all.new.marks c.args.gone.now c.take_off.new.marked c.take_off.new.gone c.requires.fresh.all_left.marks_of_all c.requires.fresh.all_left.none c.in_ok-take_off.ensures.taken).0

pub take_off-requires-2-clause-left : goal.take_off-requires-2-clause-left
take_off-requires-2-clause-left c =
    let f = c.args.self.now.frame in
    (right_marked c.requires.class.0 f.left.0 f.top.0 f.right.0 f.bottom.0 f.inner.0 c.args.self.now.lists.now c.requires.class.1 c.mark_all.new.marks c.args.gone.now c.take_off.new.marked c.take_off.new.gone c.requires.fresh.all_left.marks_of_all c.requires.fresh.all_left.none c.in_ok-take_off.ensures.taken).1

pub loop-init : goal.loop-init
loop-init c =
    let f = c.args.self.now.frame in
    let lists = c.args.self.now.lists.now in
    let left = c.requires.fresh.all_left in
    record {
      prepared = c.in_ok-take_off-2.ensures.prepared;
      contour = λ map k. subst (λ (us : List ℕ). IsContour map f.left.0 f.top.0 f.right.0 f.bottom.0 c.take_off-2.new.gone c.take_off-2.new.marked (reverse us)) (sym c.requires.begun)
          (IsContour-begin map f.left.0 f.top.0 f.right.0 f.bottom.0 f.inner.0 lists k c.mark_all.new.marks c.args.gone.now c.take_off.new.marked c.take_off.new.gone c.take_off-2.new.marked c.take_off-2.new.gone c.mark_all.ensures.tally.marks_of_all left.marks_of_all left.none c.mark_all.ensures.marks c.in_ok-take_off.ensures.taken c.in_ok-take_off.ensures.prepared.tally.marks_of_all c.in_ok-take_off-2.ensures.taken);
      place = let two = ap length c.requires.begun in omega arith;
    }

pub removable_vertex-v-requires-clause-stacked : goal.removable_vertex-v-requires-clause-stacked
removable_vertex-v-requires-clause-stacked c =
    let f = c.args.self.now.frame in
    IsStacked-prepared c.args.self.now.lists.now f.bottom.0 f.left.0 c.loop.marked c.loop.near c.loop.gone c.loop.away c.loop.stack.items c.loop.invariant.prepared

pub removable_vertex-v-requires-clause-some : goal.removable_vertex-v-requires-clause-some
removable_vertex-v-requires-clause-some c =
    let f = c.args.self.now.frame in
    some_removable c.requires.class.0 f.left.0 f.top.0 f.right.0 f.bottom.0 f.inner.0 c.args.self.now.lists.now c.requires.class.1 c.loop.gone c.loop.marked (reverse c.loop.taken.items) (c.loop.invariant.contour c.requires.class.0 c.requires.class.1) c.loop.near c.loop.away c.loop.stack.items c.loop.invariant.prepared

pub take_off-requires-in-loop-clause-prepared : goal.take_off-requires-in-loop-clause-prepared
take_off-requires-in-loop-clause-prepared c =
    let f = c.args.self.now.frame in
    IsPrepared-stacked c.args.self.now.lists.now f.bottom.0 f.left.0 c.loop.marked c.loop.near c.loop.gone c.loop.away c.loop.stack.items c.removable_vertex-v.new.stack.items c.loop.invariant.prepared c.removable_vertex-v.ensures.stacked

pub take_off-requires-in-loop-clause-marked : goal.take_off-requires-in-loop-clause-marked
take_off-requires-in-loop-clause-marked c = c.removable_vertex-v.ensures.removable.marked_is

pub take_off-requires-in-loop-clause-left : goal.take_off-requires-in-loop-clause-left
take_off-requires-in-loop-clause-left c =
    let f = c.args.self.now.frame in
    (on_left c.requires.class.0 f.left.0 f.top.0 f.right.0 f.bottom.0 f.inner.0 c.args.self.now.lists.now c.requires.class.1 c.loop.gone c.loop.marked (reverse c.loop.taken.items) (c.loop.invariant.contour c.requires.class.0 c.requires.class.1) c.removable_vertex-v.result c.removable_vertex-v.ensures.removable.marked_is).1

pub loop-preserved : goal.loop-preserved
loop-preserved c =
    let f = c.args.self.now.frame in
    let h = c.loop.invariant in
    let us = c.loop.taken.items in
    let v = c.removable_vertex-v.result in
    let items = c.in_ok-push.ensures.items in
    let len = length-reverse us in
    record {
      prepared = c.in_ok-take_off-3.ensures.prepared;
      contour = λ map k.
          let taken = IsContour-taken map f.left.0 f.top.0 f.right.0 f.bottom.0 f.inner.0 c.args.self.now.lists.now k c.loop.gone c.loop.marked (reverse us) (h.contour map k) c.loop.near c.loop.away c.removable_vertex-v.new.stack.items (IsPrepared-stacked c.args.self.now.lists.now f.bottom.0 f.left.0 c.loop.marked c.loop.near c.loop.gone c.loop.away c.loop.stack.items c.removable_vertex-v.new.stack.items h.prepared c.removable_vertex-v.ensures.stacked) v c.removable_vertex-v.ensures.removable
          (omega (arith, c.len-end.ensures.is, c.loop-test.true, h.place)) c.take_off-in-loop.new.marked c.take_off-in-loop.new.gone c.in_ok-take_off-3.ensures.taken in
          subst (λ (r : List ℕ). IsContour map f.left.0 f.top.0 f.right.0 f.bottom.0 c.take_off-in-loop.new.gone c.take_off-in-loop.new.marked r) (sym (ap reverse items ∙ reverse-append us (v ∷ []))) taken;
      place = let more = ap length items in let push = length-append us (v ∷ []) in let place = h.place in omega arith;
    }

pub returns : goal.returns
returns c =
    let f = c.args.self.now.frame in
    let h = c.loop.invariant in
    let us = c.loop.taken.items in
    let len = length-reverse us in
    let n = same_length c.requires.class.0 f.left.0 f.top.0 f.right.0 f.bottom.0 f.inner.0 c.args.self.now.lists.now c.requires.class.1 in
    let large = c.requires.class.1.class.large in
    IfOk-weaker c.push_three.result _ (λ _. IsOrderAt c.args.self.now.lists.now c.args.self.now.frame (reverse c.push_three.new.taken.items))
    (λ _ e map k.
    let done = IsContour-three map f.left.0 f.top.0 f.right.0 f.bottom.0 f.inner.0 c.args.self.now.lists.now k c.loop.gone c.loop.marked (reverse us) (h.contour map k) (omega (arith, c.len-end.ensures.is, c.loop-test.false, c.loop.auto.counter-end, h.place, n, large)) in
    subst (λ (r : List ℕ). IsRectOrder map f.left.0 f.top.0 f.right.0 f.bottom.0 r) (sym (ap reverse e ∙ reverse-append us (f.inner.0 ∷ f.bottom.0 ∷ f.left.0 ∷ []))) done) c.push_three.ensures
