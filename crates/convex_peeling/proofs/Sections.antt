-- Between two places of a face that has not all edges of the contour there, an edge is taken off: else these edges were all of one face that is taken off, with two vertices in common.
use Rattle.std.proofs.Common.{◌≡◌, ◌≢◌, ◌⊎◌, ℕ, zero, suc, ◌+◌, ◌-◌, ◌<◌, ◌≤◌, Bool, true, false, refl, sym, ap, ◌∙◌, subst, inl, inr, arith, ap₂}
use Rattle.std.proofs.lemmas.Bool.{cases_Bool, cases_eq, cases_lt, true≢false}
use Rattle.map_lists.specs.Lists.{Lists}
use Rattle.map_theory.specs.Maps.{HasDart, IsSimpleMap, follows}
use Rattle.map_theory.proofs.DartLemmas.{HasDart-follows}
use Rattle.convex_peeling.specs.Polyhedral.{IsPolyhedral}
use Rattle.convex_peeling.specs.Contours.{face_of, IsRim, IsContour, IsOpen, IsBegun}
use Rattle.convex_peeling.proofs.Contours.{IsGap}
use Rattle.convex_peeling.proofs.Faces.{SameFace-labels, labels-SameFace, some_or_none, some_dart, cases_both, face_of-step, before_once}
use Rattle.convex_peeling.proofs.Kept.{rim_at}

pub cases_is : (a b : Bool) → (a ≡ b) ⊎ (¬ (a ≡ b))
cases_is x0 x1 = grind (arith, true≢false)

module _ (lists : Lists) (alive : ℕ → Bool) (simple : IsSimpleMap lists) where
  pub cases_IsOpen : (v : ℕ) → IsOpen lists alive v ⊎ (¬ IsOpen lists alive v)
  cases_IsOpen v =
      elim (some_dart lists simple v (λ x. (alive (face_of lists v x) ≡ false) × (alive (face_of lists x v) ≡ false)) (λ x has. cases_both (alive (face_of lists v x) ≡ false) (alive (face_of lists x v) ≡ false) (cases_is (alive (face_of lists v x)) false) (cases_is (alive (face_of lists x v)) false))) [
        | inl o ↦ inl (o.0, o.1, o.2.0, o.2.1)
        | inr none ↦ inr (λ o. none o.0 o.1 (o.2, o.3))
      ]

  -- once: in a polyhedral map a face leaves a vertex along one dart
  pub leaves_once : IsPolyhedral lists → (x y z : ℕ) → HasDart lists x y → HasDart lists x z → face_of lists x y ≡ face_of lists x z → y ≡ z
  leaves_once polyhedral x y z has has' e = polyhedral.once x y z has has' (SameFace-labels lists x y x z e)

  module _ (w : ℕ → ℕ) (r : ℕ) (contour : IsContour lists alive w r) where
    -- where no edge is taken off, the face that is taken off goes on along the contour
    pub goes_on : (i : ℕ) → i < r → ¬ IsOpen lists alive (w (suc i)) → follows lists (w (suc i)) (w i) ≡ w (suc (suc i))
    goes_on i l closed =
        let rim = contour.edge i (omega arith) in
        let z = follows lists (w (suc i)) (w i) in
        let has : HasDart lists (w (suc i)) z = HasDart-follows lists (w (suc i)) (w i) (simple.both_ways (w i) (w (suc i)) rim.dart) in
        let dead : alive (face_of lists (w (suc i)) z) ≡ false = ap alive (face_of-step lists simple (w i) (w (suc i)) rim.dart) ∙ rim.outside in
        rim_at lists alive simple w r contour (suc i) (omega arith) z (record {
          dart = has;
          outside = dead;
          inside = grind (arith, cases_Bool, face_of);
        })

    -- and so it does along a stretch of such vertices
    pub goes_along : (a n : ℕ) → a + n ≤ r → ((j : ℕ) → a < j → j < a + n → ¬ IsOpen lists alive (w j)) → (i : ℕ) → i < n → face_of lists (w (a + i)) (w (suc (a + i))) ≡ face_of lists (w a) (w (suc a))
    goes_along a n l closed zero m = let z : a + 0 ≡ a = omega arith in ap (λ t. face_of lists (w t) (w (suc t))) z
    goes_along a n l closed (suc i) m =
        let s : a + suc i ≡ suc (a + i) = omega arith in
        ap (λ t. face_of lists (w t) (w (suc t))) s
        ∙ (ap (face_of lists (w (suc (a + i)))) (sym (goes_on (a + i) (omega arith) (closed (suc (a + i)) (omega arith) (omega arith))))
        ∙ (face_of-step lists simple (w (a + i)) (w (suc (a + i))) (contour.edge (a + i) (omega arith)).dart ∙ goes_along a n l closed i (omega arith)))

    -- the base alone leads back from a later place
    pub rim_back : (a b : ℕ) → a < b → b ≤ r → IsRim lists alive (w b) (w a) → (a ≡ 0) × (b ≡ r)
    rim_back a b l m rim =
        let e = rim_at lists alive simple w r contour b m (w a) rim in
        elim (cases_eq b r) [
          | inl q ↦
              (contour.distinct a 0 (omega arith) (omega arith) (e ∙ (ap (λ t. w (suc t)) q ∙ contour.round)), q)
          | inr nq ↦ let z : a ≡ suc b = contour.distinct a (suc b) (omega arith) (omega arith) e in absurd (omega arith)
        ]

    -- the face of the base is not that of the last dart of the contour, once the removals have begun
    begun_apart : IsPolyhedral lists → IsBegun lists alive w r → (i : ℕ) → suc i ≡ r → face_of lists (w i) (w r) ≢ face_of lists (w r) (w 0)
    begun_apart polyhedral begun i q e =
        let base : HasDart lists (w r) (w 0) = subst (HasDart lists (w r)) contour.round (contour.edge r (omega arith)).dart in
        let rim = contour.edge i (omega arith) in
        let dart : HasDart lists (w i) (w r) = subst (λ t. HasDart lists (w i) (w t)) q rim.dart in
        let to_base : (p : ℕ) → HasDart lists p (w r) → face_of lists p (w r) ≡ face_of lists (w r) (w 0) → follows lists (w r) p ≡ w 0 = λ p has on.
        leaves_once polyhedral (w r) (follows lists (w r) p) (w 0) (HasDart-follows lists (w r) p (simple.both_ways p (w r) has)) base (face_of-step lists simple p (w r) has ∙ on) in
        let same : w i ≡ begun.0 = before_once lists simple (w i) (w r) begun.0 dart begun.1 (to_base (w i) dart e ∙ sym (to_base begun.0 begun.1 begun.2)) in
        true≢false (sym (ap (λ t. alive (face_of lists (w t) (w i))) (sym q) ∙ rim.inside) ∙ (ap (λ t. alive (face_of lists (w r) t)) same ∙ begun.3))

-- In a polyhedral map, where a face does not have all edges of the contour between two of its places, an edge is taken off at some vertex strictly between.
pub section_open_law : (lists : Lists) (alive : ℕ → Bool) (w : ℕ → ℕ) (r face a i b : ℕ) → IsSimpleMap lists → IsPolyhedral lists → IsContour lists alive w r → IsBegun lists alive w r → IsGap lists alive w r face a i b → (j : ℕ) × (a < j) × (j < b) × IsOpen lists alive (w j)
section_open_law lists alive w r face a i b simple polyhedral contour begun gap =
    elim (some_or_none (λ j. (a < j) × IsOpen lists alive (w j)) b (λ j n. cases_both (a < j) (IsOpen lists alive (w j)) (cases_less a j) (cases_IsOpen lists alive simple (w j)))) [
      | inl found ↦ (found.0, found.2.0, found.1, found.2.1)
      | inr none ↦
          let along = goes_along lists alive simple w r contour a (b - a) (omega arith) (λ j p q o. none j (omega arith) (p, o)) in
          let h : ℕ = b - suc a in
          let e : suc (a + h) ≡ b = omega arith in
          let H = face_of lists (w a) (w (suc a)) in
          let rim = contour.edge a (omega arith) in
          let last_rim = contour.edge (a + h) (omega arith) in
          let last_dart : HasDart lists (w (a + h)) (w b) = subst (λ t. HasDart lists (w (a + h)) (w t)) e last_rim.dart in
          let last_face : face_of lists (w (a + h)) (w b) ≡ H = ap (λ t. face_of lists (w (a + h)) (w t)) (sym e) ∙ along h (omega arith) in
          let c = follows lists (w b) (w (a + h)) in
          let has_c : HasDart lists (w b) c = HasDart-follows lists (w b) (w (a + h)) (simple.both_ways (w (a + h)) (w b) last_dart) in
          let on_c : face_of lists (w b) c ≡ H = face_of-step lists simple (w (a + h)) (w b) last_dart ∙ last_face in
          let x = gap.first in
          let apart : w a ≢ w b = λ q. (let z : a ≡ b = contour.distinct a b (omega arith) (omega arith) q in absurd (omega arith)) in
          let shared = polyhedral.share (w a) (w b) x.0 gap.last.0 (w (suc a)) c apart x.1 gap.last.1 rim.dart has_c
          (SameFace-labels lists (w a) x.0 (w b) gap.last.0 (x.2 ∙ sym gap.last.2)) (SameFace-labels lists (w a) (w (suc a)) (w b) c (sym on_c))
          (λ q. true≢false (sym gap.living ∙ (ap alive (sym x.2 ∙ labels-SameFace lists (w a) x.0 (w a) (w (suc a)) q) ∙ rim.outside))) in
          elim shared.1 [
            | inl s ↦
                let h_on : H ≡ face_of lists (w b) (w a) = labels-SameFace lists (w a) (w (suc a)) (w b) (w a) s.1 in
                let back = rim_back lists alive simple w r contour a b (omega arith) gap.within (record {
                  dart = simple.both_ways (w a) (w b) shared.0;
                  outside = ap alive (sym h_on) ∙ rim.outside;
                  inside = ap alive (sym (labels-SameFace lists (w a) x.0 (w a) (w b) s.0) ∙ x.2) ∙ gap.living;
                }) in
                let q : suc (a + h) ≡ r = e ∙ back.1 in
                absurd (begun_apart lists alive simple w r contour polyhedral begun (a + h) q (ap (λ t. face_of lists (w (a + h)) (w t)) (sym back.1) ∙ (last_face ∙ (h_on ∙ ap₂ (λ s t. face_of lists (w s) (w t)) back.1 back.0))))
            | inr s ↦
                let f_on : face_of lists (w b) (w a) ≡ face = sym (labels-SameFace lists (w a) x.0 (w b) (w a) s.0) ∙ x.2 in
                let at = rim_at lists alive simple w r contour a (omega arith) (w b) (record {
                  dart = shared.0;
                  outside = ap alive (sym (labels-SameFace lists (w a) (w (suc a)) (w a) (w b) s.1)) ∙ rim.outside;
                  inside = ap alive f_on ∙ gap.living;
                }) in
                let q : b ≡ suc a = contour.distinct b (suc a) gap.within (omega arith) at in
                let z : i ≡ a = omega arith in
                absurd (gap.gap (ap₂ (λ s t. face_of lists (w s) (w t)) (ap suc z ∙ sym q) z ∙ f_on))
          ]
    ]
  where
    cases_less : (p q : ℕ) → (p < q) ⊎ (¬ (p < q))
    cases_less p q = elim (cases_lt p q) [ inl t ↦ inl t | inr t ↦ inr (λ s. omega arith) ]
