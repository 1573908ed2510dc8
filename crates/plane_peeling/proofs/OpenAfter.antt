-- What is taken off still lies around what is left when one vertex more is taken off.
use Rattle.std.proofs.Common.{◌≡◌, ◌≢◌, ℕ, Bool, false, not, eqb, List, ◌∷◌, ◌++◌, AllPairs, Contains, sym, ap, ◌∙◌, subst, inl, inr}
use Rattle.std.proofs.lemmas.Bool.{cases_Bool, cases_eq, and_left, true≢false}
use Rattle.std.proofs.lemmas.List.Elements.{Contains-append_right}
use Rattle.map_lists.specs.Lists.{Lists}
use Rattle.map_theory.specs.Maps.{HasDart, IsSimpleMap, follows, entry_after}
use Rattle.map_theory.proofs.EntryLemmas.{Contains-here, head_apart, AllPairs-right}
use Rattle.plane_peeling.specs.Restricted.{restricted, kept_but, IsFaceOfThree}
use Rattle.plane_peeling.specs.Peeled.{IsPeeled, IsTakenOff}
use Rattle.plane_peeling.specs.TwoGone.{IsOpenOutside}
use Rattle.plane_peeling.proofs.Rings.{Leads, Leads-part, Leads-in, entry_after-inside}
use Rattle.plane_peeling.proofs.RestrictedMaps.{kept_but-new, kept_but-itself}
use Rattle.plane_peeling.proofs.OuterCycles.{IsFaceOfThree-turned, round}
use Rattle.plane_peeling.proofs.Covers.{new_or_old}

module _ (lists : Lists) (kept : ℕ → Bool) (s t : ℕ) (ws : List ℕ) (v : ℕ) (front : List ℕ) (p : ℕ) (mid : List ℕ) (q : ℕ) (back : List ℕ) (whole : IsSimpleMap lists) (peeled : IsPeeled lists kept s t ws) (outside : IsOpenOutside lists kept t ws) (off : IsTakenOff lists kept s t ws v front p mid q back) where
  abbrev after : List ℕ
  after = front ++ (p ∷ mid ++ q ∷ back)

  abbrev step' : ℕ → ℕ
  step' x = entry_after x after

  but_gone : (u : ℕ) → kept u ≡ false → kept_but kept v u ≡ false
  but_gone u e = and_left (kept u) (not (eqb u v)) e

  was_distinct : AllPairs ◌≢◌ (front ++ p ∷ v ∷ q ∷ back)
  was_distinct = subst (AllPairs ◌≢◌) off.before peeled.near.cycle.distinct

  on_p : Contains ws p
  on_p = subst (λ l. Contains l p) (sym off.before) (Contains-append_right front (p ∷ v ∷ q ∷ back) p (Contains-here p (v ∷ q ∷ back)))

  leads_p : entry_after p ws ≡ v
  leads_p = ap (entry_after p) off.before ∙ entry_after-inside front p v (q ∷ back) was_distinct

  -- the vertex before v is not the last
  p_not_last : p ≢ t
  p_not_last e =
      let step : ℕ → ℕ = λ x. entry_after x ws in
      let way = Leads-part step t front (p ∷ v ∷ q ∷ back) t (subst (λ l. Leads step t l t) off.before (round (restricted kept lists) s t ws peeled.near.simple peeled.near.cycle)) in
      head_apart p (v ∷ q ∷ back) (AllPairs-right front (p ∷ v ∷ q ∷ back) was_distinct) (subst (Contains (v ∷ q ∷ back)) (sym e) (Leads-in step v (q ∷ back) t way.2.1.1))

  -- v has a neighbour that is taken off
  company_v : (y : ℕ) × HasDart lists v y × (kept y ≡ false)
  company_v =
      let f = subst (λ y. IsFaceOfThree lists p y (follows lists y p)) leads_p (outside.triangles p on_p p_not_last) in
      (follows lists v p, (IsFaceOfThree-turned lists p v (follows lists v p) whole f).dart, subst (λ y. kept (follows lists y p) ≡ false) leads_p (outside.beyond p on_p))

  pub open_here : IsOpenOutside lists (kept_but kept v) t after
  open_here =
      record {
        beyond = λ x c.
            elim (new_or_old lists kept s t ws v front p mid q back peeled off whole x c) [
              | inl f ↦ ap (kept_but kept v) f.second ∙ kept_but-itself kept v
              | inr o ↦ but_gone (follows lists (step' x) x) (subst (λ y. kept (follows lists y x) ≡ false) o.1 (outside.beyond x o.0))
            ];
        triangles = λ x c n.
            elim (new_or_old lists kept s t ws v front p mid q back peeled off whole x c) [
              | inl f ↦ subst (IsFaceOfThree lists x (step' x)) (sym f.second) f
              | inr o ↦ subst (λ y. IsFaceOfThree lists x y (follows lists y x)) o.1 (outside.triangles x o.0 n)
            ];
        company = λ z l out.
            elim (cases_Bool (kept z)) [
              | inr e ↦ let old = outside.company z l e in (old.0, old.1, but_gone old.0 old.2)
              | inl k ↦
                  elim (cases_eq z v) [
                    | inl e ↦ (company_v.0, subst (λ w. HasDart lists w company_v.0) (sym e) company_v.1, but_gone company_v.0 company_v.2)
                    | inr n ↦ absurd (true≢false (sym (kept_but-new kept v z k n) ∙ out))
                  ]
            ];
      }

-- And the outside stays open when a vertex is taken off.
pub open_after : (lists : Lists) (kept : ℕ → Bool) (s t : ℕ) (ws : List ℕ) (v : ℕ) (front : List ℕ) (p : ℕ) (mid : List ℕ) (q : ℕ) (back : List ℕ) → IsSimpleMap lists → IsPeeled lists kept s t ws → IsOpenOutside lists kept t ws → IsTakenOff lists kept s t ws v front p mid q back → IsOpenOutside lists (kept_but kept v) t (front ++ (p ∷ mid ++ q ∷ back))
open_after lists kept s t ws v front p mid q back whole peeled outside off = open_here lists kept s t ws v front p mid q back whole peeled outside off
