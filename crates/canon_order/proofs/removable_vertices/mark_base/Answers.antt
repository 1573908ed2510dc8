use Rattle.std.proofs.Common.{◌≡◌, ℕ, ◌++◌, ◌<◌, [], ◌∷◌, length, sym, subst, ap, ◌∙◌, arith}
use Rattle.map_lists.specs.Lists.{Lists}
use Rattle.map_theory.specs.Maps.{HasDart, IsSimpleMap, follows}
use Rattle.map_theory.proofs.DartLemmas.{HasDart-follows}
use Rattle.canon_order.proofs.Contours.{base_apart, IsPrepared-begin}
use Rattle.canon_order.proofs.removable_vertices.mark_base.Goals as goal

-- the third vertex of the base's face
third_in : (lists : Lists) (t s : ℕ) → IsSimpleMap lists → HasDart lists t s → (third : ℕ) → third ≡ follows lists s t → third < length lists
third_in lists t s simple base third left = subst (λ w. w < length lists) (sym left) (simple.in_range s (follows lists s t) (HasDart-follows lists s t (simple.both_ways t s base)))

pub invariant_of-three : goal.invariant_of-three
invariant_of-three c =
    let lists = c.args.base.now.lists.now in
    let t = c.args.base.now.t in
    let s = c.args.base.now.s in
    let h = c.facts.ensures in
    let apart = base_apart lists t s h.triangulation h.base in
    record {
      first_in = h.triangulation.simple.in_range t s h.base;
      second_in = third_in lists t s h.triangulation.simple h.base c.args.base.now.third c.args.base.now.left;
      third_in = h.base.0;
      first_second = λ e. apart 0 1 0 (omega arith) (omega arith) (e ∙ c.args.base.now.left);
      first_third = λ e. apart 0 2 0 (omega arith) (omega arith) e;
      second_third = λ e. apart 1 2 0 (omega arith) (omega arith) (sym c.args.base.now.left ∙ e);
    }

pub returns-clause-prepared : goal.returns-clause-prepared
returns-clause-prepared c =
    let lists = c.args.base.now.lists.now in
    let t = c.args.base.now.t in
    let s = c.args.base.now.s in
    let third = third_in lists t s c.facts.ensures.triangulation.simple c.facts.ensures.base c.args.base.now.third c.args.base.now.left in
    IsPrepared-begin lists t s c.args.base.now.third c.mark_all.new.marks c.mark_all.new.counts c.push.new.self.items third c.mark_all.ensures.tally c.mark_all.ensures.marks
    (c.in_ok-push.ensures.items ∙ ap (λ us. us ++ c.args.base.now.third ∷ []) c.requires.empty)
