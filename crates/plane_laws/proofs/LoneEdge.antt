-- An edge taken off both its vertices, where nothing is missing from the Euler bound: nothing is missing after it, and the edge, which is now a class of its own, may be left out.
use Rattle.std.proofs.Common.{◌≡◌, ◌≢◌, ◌⊎◌, ℕ, ◌+◌, ◌<◌, Bool, true, false, not, eqb, List, sym, ap, ◌∙◌, inl, inr, arith}
use Rattle.std.proofs.lemmas.Bool.{cases_Bool, cases_eq, eq-eqb, false≢true, not-true}
use Rattle.classes.specs.Classes.{label, merge_all, class_count}
use Rattle.classes.proofs.Counting.{one_if}
use Rattle.classes.proofs.Classes.{Together, Together-label, same_class-from, apart-from}
use Rattle.classes.proofs.Orbits.{StaysBelow, steps, orbits_of, IsLabels-orbits_of, orbits_of-step, IsPermuting, marks_back}
use Rattle.classes.proofs.Swap.{swapped, exchange, swapped_first, swapped_other, IsPermuting-exchange, exchange_orbits, orbits_of-same}
use Rattle.classes.proofs.Bound.{joint, IsPairing, IsPermuting-pairing, IsPermuting-after, after, after-exchange, cut_orbits, Balances}
use Rattle.plane_laws.proofs.PlaneCuts.{fixed_alone, plane_cut, lone, lone_before, lone_other, lone_together}
use Rattle.map_theory.proofs.Transfer.{class_count-transfer}
use Rattle.plane_laws.proofs.Generated.{IsGenerated, IsGenerated-orbits, IsGenerated-joint, IsRenumbering, GoesOver, GoesOver-after, IsTransfer-renumbered, neither, neither_first, neither_second, neither_cases, left_out, left_out_one}

-- exchanging an image with itself changes nothing
pub swapped_itself : (a i : ℕ) → swapped a a i ≡ i
swapped_itself a i = elim (cases_eq i a) [ inl e ↦ ap (swapped a a) e ∙ (swapped_first a a ∙ sym e) | inr ne ↦ swapped_other a a i ne ne ]

-- one dart taken off
pub lone_balances : (f g : ℕ → ℕ) (k m p d : ℕ) → k ≡ m + m → IsPermuting f k → IsPairing g k → p < k → d < k → f p ≡ d → Balances f g k m 0 → Balances (exchange f p d) g k m 0
lone_balances f g k m p d double w v lp ld e plane =
    elim (cases_eq p d) [
      | inl q ↦
          let same : (i : ℕ) → i < k → exchange f p d i ≡ f i = λ i l. ap (λ x. f (swapped x d i)) q ∙ ap f (swapped_itself d i) in
          let first = orbits_of-same (exchange f p d) f k same in
          let second = orbits_of-same (after (exchange f p d) g) (after f g) k (λ i l. same (g i) (v.within i l)) in
          omega (arith, plane, ap class_count first, ap class_count second, ap class_count (ap (λ o. merge_all o (steps g k)) first))
      | inr ne ↦ plane_cut f g k m p d double w v lp ld ne (lone_together f k p d w lp e) plane
    ]

-- A dart taken off: where its two faces are one, orbits and faces rise alike, and where they are two, these are made one.
module _ (f g : ℕ → ℕ) (k p d : ℕ) (w : IsPermuting f k) (v : IsPairing g k) (lp : p < k) (ld : d < k) (e : f p ≡ d) where
  same_images : p ≡ d → (i : ℕ) → exchange f p d i ≡ f i
  same_images q i = ap (λ x. f (swapped x d i)) q ∙ ap f (swapped_itself d i)

  turned : orbits_of (after (exchange f p d) g) k ≡ orbits_of (exchange (after f g) (g p) (g d)) k
  turned = orbits_of-same (after (exchange f p d) g) (exchange (after f g) (g p) (g d)) k (after-exchange f g k p d v lp ld)

  pub off_alike : Together (orbits_of (after f g) k) (g p) (g d) → class_count (orbits_of (after (exchange f p d) g) k) + class_count (orbits_of f k) ≡ class_count (orbits_of (after f g) k) + class_count (orbits_of (exchange f p d) k)
  off_alike face =
      let gw = IsPermuting-pairing g k v in
      elim (cases_eq p d) [
        | inl q ↦
            let faces = orbits_of-same (after (exchange f p d) g) (after f g) k (λ i l. same_images q (g i)) in
            omega (arith, ap class_count (orbits_of-same (exchange f p d) f k (λ i l. same_images q i)), ap class_count faces)
        | inr ne ↦
            let apart : g p ≢ g d = λ q. ne (gw.apart p d lp ld q) in
            let faces = ((exchange_orbits (after f g) k (g p) (g d) (IsPermuting-after f g k w gw) (v.within p lp) (v.within d ld) apart).cut (same_class-from (orbits_of (after f g) k) (g p) (g d) face)).fewer in
            omega (arith, (cut_orbits f g k p d w v.within lp ld ne (lone_together f k p d w lp e)).fewer, faces, ap class_count turned)
      ]

  pub off_joined : (Together (orbits_of (after f g) k) (g p) (g d) → ⊥) → class_count (orbits_of (after (exchange f p d) g) k) + class_count (orbits_of f k) + 2 ≡ class_count (orbits_of (after f g) k) + class_count (orbits_of (exchange f p d) k)
  off_joined face =
      let gw = IsPermuting-pairing g k v in
      let ne : p ≢ d = λ q. face (ap (λ x. label (orbits_of (after f g) k) (g x)) q) in
      let apart : g p ≢ g d = λ q. ne (gw.apart p d lp ld q) in
      let faces = ((exchange_orbits (after f g) k (g p) (g d) (IsPermuting-after f g k w gw) (v.within p lp) (v.within d ld) apart).joined (apart-from (orbits_of (after f g) k) (g p) (g d) face)).fewer in
      omega (arith, (cut_orbits f g k p d w v.within lp ld ne (lone_together f k p d w lp e)).fewer, faces, ap class_count turned)

-- What two orbits, one face and one class more make of one pair of permutations another.
pub record IsLeftOut (f g : ℕ → ℕ) (k : ℕ) (f' g' : ℕ → ℕ) (k' : ℕ) : Type 0 where
  pub orbits : class_count (orbits_of f k) ≡ class_count (orbits_of f' k') + 2
  pub faces : class_count (orbits_of (after f g) k) ≡ class_count (orbits_of (after f' g') k') + 1
  pub classes : class_count (joint f g k) ≡ class_count (joint f' g' k') + 1

-- Let p lead to d, and then q to the partner e of d; and let d and e not lead to one another.
module _ (f g : ℕ → ℕ) (k m d p q : ℕ) (double : k ≡ m + m) (w : IsPermuting f k) (v : IsPairing g k) (ld : d < k) (lp : p < k) (lq : q < k) (fp : f p ≡ d) (fq : exchange f p d q ≡ g d) (apart : f d ≢ g d) (apart' : f (g d) ≢ d) where
  -- d and e made fixed points
  abbrev pub lone_edge : ℕ → ℕ
  lone_edge = exchange (exchange f p d) q (g d)

  pub le : g d < k
  le = v.within d ld

  pub d_not_e : d ≢ g d
  d_not_e e = v.other d ld (sym e)

  pub w1 : IsPermuting (exchange f p d) k
  w1 = IsPermuting-exchange f k p d lp ld w

  pub IsPermuting-lone_edge : IsPermuting lone_edge k
  IsPermuting-lone_edge = IsPermuting-exchange (exchange f p d) k q (g d) lq le w1

  pub p_not_e : p ≢ g d
  p_not_e e = apart' (ap f (sym e) ∙ fp)

  -- e leads where it led
  pub one_e : exchange f p d (g d) ≡ f (g d)
  one_e = lone_other f p d (g d) (λ e. p_not_e (sym e)) (λ e. d_not_e (sym e))

  pub lone_edge-first : lone_edge d ≡ d
  lone_edge-first =
      let one = lone f p d fp in
      let not_q : d ≢ q = λ e. d_not_e (sym one ∙ (ap (exchange f p d) e ∙ fq)) in
      lone_other (exchange f p d) q (g d) d not_q d_not_e ∙ one

  pub lone_edge-second : lone_edge (g d) ≡ g d
  lone_edge-second = lone (exchange f p d) q (g d) fq

  -- what led to d leads on
  pub lone_edge-skip : (i : ℕ) → i < k → i ≢ d → i ≢ g d → f i ≡ d → lone_edge i ≡ f d
  lone_edge-skip i l nd ne h =
      let one : exchange f p d i ≡ f d = ap (exchange f p d) (w.apart i p l lp (h ∙ sym fp)) ∙ lone_before f p d in
      let not_q : i ≢ q = λ e. apart (sym one ∙ (ap (exchange f p d) e ∙ fq)) in
      lone_other (exchange f p d) q (g d) i not_q ne ∙ one

  -- and so does what led to e
  pub lone_edge-skip_second : (i : ℕ) → i < k → i ≢ d → i ≢ g d → f i ≡ g d → lone_edge i ≡ f (g d)
  lone_edge-skip_second i l nd ne h =
      let not_p : i ≢ p = λ e. d_not_e (sym fp ∙ (ap f (sym e) ∙ h)) in
      ap lone_edge (w1.apart i q l lq ((lone_other f p d i not_p nd ∙ h) ∙ sym fq)) ∙ (lone_before (exchange f p d) q (g d) ∙ one_e)

  -- the rest is as it was
  pub lone_edge-other : (i : ℕ) → i < k → i ≢ d → i ≢ g d → f i ≢ d → f i ≢ g d → lone_edge i ≡ f i
  lone_edge-other i l nd ne hd he =
      let not_p : i ≢ p = λ e. hd (ap f e ∙ fp) in
      let one : exchange f p d i ≡ f i = lone_other f p d i not_p nd in
      let not_q : i ≢ q = λ e. he (sym one ∙ (ap (exchange f p d) e ∙ fq)) in
      lone_other (exchange f p d) q (g d) i not_q ne ∙ one

  -- nothing is missing after it
  pub lone_edge-balances : Balances f g k m 0 → Balances lone_edge g k m 0
  lone_edge-balances plane =
      lone_balances (exchange f p d) g k m q (g d) double w1 v lq le fq (lone_balances f g k m p d double w v lp ld fp plane)

  -- the second dart's faces are one, since the first has been taken off
  pub second_alike : class_count (orbits_of (after lone_edge g) k) + class_count (orbits_of (exchange f p d) k) ≡ class_count (orbits_of (after (exchange f p d) g) k) + class_count (orbits_of lone_edge k)
  second_alike =
      let f1 = exchange f p d in
      let step = orbits_of-step (after f1 g) k (IsPermuting-after f1 g k w1 (IsPermuting-pairing g k v)).within in
      let L = label (orbits_of (after f1 g) k) in
      off_alike f1 g k q (g d) w1 v lq le fq
      (step (g q) (v.within q lq) ∙ (ap L (ap f1 (v.back q lq) ∙ fq) ∙ (step (g d) le ∙ ap L (ap f1 (v.back d ld) ∙ (lone f p d fp ∙ sym (v.back d ld))))))

  -- a label that is d or its partner
  pub out_label : (labels : List ℕ) (h h' : ℕ → ℕ) → IsGenerated labels h h' k → ((y : ℕ) → y < k → neither d (g d) y ≡ neither d (g d) (h y)) → ((y : ℕ) → y < k → neither d (g d) y ≡ neither d (g d) (h' y)) → (label labels d ≡ d) ⊎ (label labels d ≡ g d)
  out_label labels h h' made same same' =
      let u = made.known in
      let keeps = made.least (λ y. one_if (neither d (g d) y)) (λ y l. ap one_if (same y l)) (λ y l. ap one_if (same' y l)) d (label labels d) ld (omega arith) (Together-label labels u d) in
      neither_cases d (g d) (label labels d) (elim (cases_Bool (neither d (g d) (label labels d))) [
        | inl t ↦ absurd (omega (arith, keeps, ap one_if t, ap one_if (neither_first d (g d))))
        | inr t ↦ t
      ])

  -- a bijection that leaves d and its partner among themselves keeps the rest
  pub neither_kept : (h : ℕ → ℕ) → IsPermuting h k → neither d (g d) (h d) ≡ false → neither d (g d) (h (g d)) ≡ false → (y : ℕ) → y < k → neither d (g d) y ≡ neither d (g d) (h y)
  neither_kept h hw at_d at_e y l = grind (arith, not, neither, neither_cases, not-true, cases_Bool, false≢true, marks_back)

  -- d and its partner are two orbits
  pub lone_points : one_if (eqb (label (orbits_of lone_edge k) d) d) + one_if (eqb (label (orbits_of lone_edge k) (g d)) (g d)) ≡ 2
  lone_points = grind (arith, orbits_of, lone_edge, IsLabels-orbits_of, IsPermuting-lone_edge, label, fixed_alone, Together-label, one_if, eq-eqb, lone_edge-first, le, lone_edge-second)

  pub twin_out : neither d (g d) (g d) ≡ false
  twin_out = neither_second d (g d)

  pub back_out : neither d (g d) (g (g d)) ≡ false
  back_out = ap (neither d (g d)) (v.back d ld) ∙ neither_first d (g d)

  pub GoesOver-out : (to : ℕ → ℕ) (k' : ℕ) (f' g' : ℕ → ℕ) → ((i : ℕ) → i < k' → lone_edge (to i) ≡ to (f' i)) → ((i : ℕ) → i < k' → g (to i) ≡ to (g' i)) → GoesOver to (neither d (g d)) k k' lone_edge f' × GoesOver to (neither d (g d)) k k' g g'
  GoesOver-out to k' f' g' h h' = grind (arith, neither_cases, neither, lone_edge, lone_edge-first, neither_first, lone_edge-second, twin_out, back_out)

  -- Left out, the edge takes two orbits, one face and one class with it.
  pub lone_edge_counts : (to new : ℕ → ℕ) (k' : ℕ) (f' g' : ℕ → ℕ) → StaysBelow f' k' → StaysBelow g' k' → IsRenumbering to new (neither d (g d)) k k' → ((i : ℕ) → i < k' → lone_edge (to i) ≡ to (f' i)) → ((i : ℕ) → i < k' → g (to i) ≡ to (g' i)) → IsLeftOut lone_edge g k f' g' k'
  lone_edge_counts to new k' f' g' stays stays' r h h' =
      let kept = neither d (g d) in
      let e = g d in
      let hw = IsPermuting-lone_edge in
      let gw = IsPermuting-pairing g k v in
      let over = GoesOver-out to k' f' g' h h' in
      let O = orbits_of lone_edge k in
      let O' = orbits_of f' k' in
      let A = orbits_of (after lone_edge g) k in
      let A' = orbits_of (after f' g') k' in
      let J = joint lone_edge g k in
      let J' = joint f' g' k' in
      let aw = IsPermuting-after lone_edge g k hw gw in
      let made_O = IsGenerated-orbits lone_edge k hw.within in
      let made_A = IsGenerated-orbits (after lone_edge g) k aw.within in
      let made_J = IsGenerated-joint lone_edge g k hw.within v.within in
      let part_O = IsGenerated-orbits f' k' stays in
      let part_A = IsGenerated-orbits (after f' g') k' (λ i l. stays (g' i) (stays' i l)) in
      let part_J = IsGenerated-joint f' g' k' stays stays' in
      let over_A = GoesOver-after to kept k k' lone_edge f' g g' v.within stays' over.0 over.1 in
      let count_O = class_count-transfer O' O to new kept part_O.known made_O.known (IsTransfer-renumbered to new kept k k' r O O' lone_edge lone_edge f' f' made_O part_O over.0 over.0) in
      let count_A = class_count-transfer A' A to new kept part_A.known made_A.known (IsTransfer-renumbered to new kept k k' r A A' (after lone_edge g) (after lone_edge g) (after f' g') (after f' g') made_A part_A over_A over_A) in
      let count_J = class_count-transfer J' J to new kept part_J.known made_J.known (IsTransfer-renumbered to new kept k k' r J J' lone_edge g f' g' made_J part_J over.0 over.1) in
      let kept_f = neither_kept lone_edge hw (ap kept lone_edge-first ∙ neither_first d e) (ap kept lone_edge-second ∙ twin_out) in
      let kept_g = neither_kept g gw twin_out back_out in
      let face_d : after lone_edge g d ≡ e = lone_edge-second in
      let face_e : after lone_edge g e ≡ d = ap lone_edge (v.back d ld) ∙ lone_edge-first in
      let kept_A = neither_kept (after lone_edge g) aw (ap kept face_d ∙ twin_out) (ap kept face_e ∙ neither_first d e) in
      let one_A = left_out_one A d e made_A.known d_not_e (made_A.first d ld ∙ ap (label A) face_d) (out_label A (after lone_edge g) (after lone_edge g) made_A kept_A kept_A) in
      let one_J = left_out_one J d e made_J.known d_not_e (made_J.second d ld) (out_label J lone_edge g made_J kept_f kept_g) in
      record {
        orbits = omega (arith, count_O, left_out O d e d_not_e (omega arith) (omega arith), lone_points);
        faces = omega (arith, count_A, left_out A d e d_not_e (omega arith) (omega arith), one_A);
        classes = omega (arith, count_J, left_out J d e d_not_e (omega arith) (omega arith), one_J);
      }
