use Rattle.std.proofs.Common.{◌<◌, ℕ, List, length, get_or, Contains, ap, sym, ◌∙◌, subst, inl, inr, arith}
use Rattle.std.proofs.lemmas.Bool.{cases_lt}
use Rattle.std.proofs.lemmas.List.Elements.{Contains-get_or}
use Rattle.map_theory.specs.Maps.{list_of}
use Rattle.rect_class.specs.Corners.{IsClosedOver, ComesBefore}
use Rattle.rect_class.proofs.CornerLemmas.{AreClosed-before}
use Rattle.rect_class.proofs.separation_by_corners.are_closed.Goals as goal

pub stamp_all-requires : goal.stamp_all-requires
stamp_all-requires c = λ j d l.
    let w = get_or c.list.result.now j d in
    let v = c.loop-v.v in
    let below = c.requires.simple.in_range v w (omega (arith, c.loop-v-test.true, c.len-v-end.ensures.is), subst (λ (us : List ℕ). Contains us w) (c.list.ensures ∙ ap (list_of c.args.lists.now) c.from.ensures) (Contains-get_or {X = ℕ} c.list.result.now j d l)) in
    omega (arith, below, c.loop-v.invariant.0)

pub loop-v-preserved : goal.loop-v-preserved
loop-v-preserved c =
    let lists = c.args.lists.now in
    let degrees = c.in_ok-degrees.degrees.items in
    let v = c.loop-v.v in (
      c.stamp_all.ensures.length ∙ c.loop-v.invariant.0,
      λ x l.
          elim (cases_lt x v) [
            | inl m ↦ c.loop-v.invariant.1 x m
            | inr m ↦ subst (λ y. (k : ℕ) → k < length (list_of lists y) → ComesBefore degrees (get_or (list_of lists y) k 0) y → IsClosedOver lists y (get_or (list_of lists y) k 0)) (omega arith)
                (λ k h b. c.if-not-is_closed.ensures k h (subst (λ (ds : List ℕ). ComesBefore ds (get_or (list_of lists v) k 0) v) (sym c.deref.ensures.value) b))
          ],
    )

pub returns : goal.returns
returns c = AreClosed-before c.args.lists.now c.in_ok-degrees.degrees.items c.requires.simple (λ x l. c.loop-v.invariant.1 x (omega (arith, l, c.loop-v-test.false, c.len-v-end.ensures.is)))
