-- What a cut does where nothing is missing from the Euler bound, as in a map of genus zero.
use Rattle.std.proofs.Common.{◌≡◌, ◌≢◌, ◌⊎◌, ℕ, zero, suc, ◌+◌, ◌<◌, false, eqb, refl, sym, ap, ◌∙◌, subst, inl, inr, arith}
use Rattle.std.proofs.lemmas.Bool.{cases_eq, eq-eqb, ne_eqb}
use Rattle.classes.specs.Classes.{label, class_count, merge_all}
use Rattle.classes.proofs.Counting.{one_if, count_below_none, count_below_same, count_below_more}
use Rattle.classes.proofs.Classes.{Together, merge-joined, merge-keeps, joined-merge, merge-within, same_class-from, apart-from}
use Rattle.classes.proofs.Orbits.{steps, orbits_of, length-orbits_of, IsLabels-orbits_of, orbits_of-step, orbits_of-marked, IsPermuting, count_below-images}
use Rattle.classes.proofs.Swap.{orbits_of-same, swapped, exchange, swapped_first, swapped_second, swapped_other, IsPermuting-exchange, exchange_orbits}
use Rattle.classes.proofs.Bound.{joint, joint-first, length-joint, IsLabels-joint, IsPairing, IsPermuting-pairing, IsPermuting-after, after, after-exchange, Balances, Balances-cut, cut_orbits, joint-cut, euler_bound_at}

-- two numbers that both balance are one
pub Balances-one : (f g : ℕ → ℕ) (k m d d' : ℕ) → Balances f g k m d → Balances f g k m d' → d ≡ d'
Balances-one f g k m d d' b b' = omega arith

-- Let x and y lie in one orbit of f, and let nothing be missing.
module _ (f g : ℕ → ℕ) (k m x y : ℕ) (double : k ≡ m + m) (w : IsPermuting f k) (v : IsPairing g k) (lx : x < k) (ly : y < k) (ne : x ≢ y) (one : Together (orbits_of f k) x y) (plane : Balances f g k m 0) where
  -- after the cut nothing is missing either
  pub plane_cut : Balances (exchange f x y) g k m 0
  plane_cut =
      let h = exchange f x y in
      let found = euler_bound_at h g k m double (IsPermuting-exchange f k x y lx ly w) v in
      elim (Balances-cut f g k m x y w v lx ly ne one found.0 found.1) [
        | inl b ↦ let e = Balances-one f g k m found.0 0 b plane in subst (Balances h g k m) e found.1
        | inr b ↦ absurd (omega (arith, Balances-one f g k m (found.0 + 1) 0 b plane))
      ]

  -- the orbits of f after g, once x and y are cut
  turned : orbits_of (after (exchange f x y) g) k ≡ orbits_of (exchange (after f g) (g x) (g y)) k
  turned = orbits_of-same (after (exchange f x y) g) (exchange (after f g) (g x) (g y)) k (after-exchange f g k x y v lx ly)

  -- where the partners of x and y lie in one orbit of f after g, the cut parts x from y
  pub plane_cut-apart : Together (orbits_of (after f g) k) (g x) (g y) → Together (joint (exchange f x y) g k) x y → ⊥
  plane_cut-apart face t =
      let h = exchange f x y in
      let gw = IsPermuting-pairing g k v in
      let hw = IsPermuting-exchange f k x y lx ly w in
      let K = joint h g k in
      let kn = length-joint h g k hw.within v.within in
      let apart : g x ≢ g y = λ e. ne (gw.apart x y lx ly e) in
      let law = exchange_orbits (after f g) k (g x) (g y) (IsPermuting-after f g k w gw) (v.within x lx) (v.within y ly) apart in
      let faces = ap class_count turned ∙ (law.cut (same_class-from (orbits_of (after f g) k) (g x) (g y) face)).fewer in
      let same : class_count (joint f g k) ≡ class_count K =
      ap class_count (joint-cut f g k x y w v.within lx ly ne one ∙ merge-within K x y (IsLabels-joint h g k hw.within v.within) (omega arith) (omega arith) t) in
      omega (arith, plane, plane_cut, faces, (cut_orbits f g k x y w v.within lx ly ne one).fewer, same)

  -- nor are their images then in one class
  pub plane_cut-images_apart : Together (orbits_of (after f g) k) (g x) (g y) → Together (joint (exchange f x y) g k) (f x) (f y) → ⊥
  plane_cut-images_apart face t =
      let h = exchange f x y in
      let L = label (joint h g k) in
      let step = joint-first h g k (IsPermuting-exchange f k x y lx ly w).within v.within in
      plane_cut-apart face (step x lx ∙ (ap L (ap f (swapped_first x y)) ∙ (sym t ∙ sym (step y ly ∙ ap L (ap f (swapped_second x y))))))

-- Let x and y lie in one orbit of f, and z and w in another; let x and z, and y and w, lead to the same two faces. Cut both pairs: then neither's images are in one class.
module _ (f g : ℕ → ℕ) (k m x y z w : ℕ) (double : k ≡ m + m) (p : IsPermuting f k) (v : IsPairing g k) (lx : x < k) (ly : y < k) (lz : z < k) (lw : w < k) (x_y : x ≢ y) (z_w : z ≢ w) (one : Together (orbits_of f k) x y) (two : Together (orbits_of f k) z w) (far : Together (orbits_of f k) x z → ⊥) (plane : Balances f g k m 0) (first : Together (orbits_of (after f g) k) (g x) (g z)) (second : Together (orbits_of (after f g) k) (g y) (g w)) (faces : Together (orbits_of (after f g) k) (g x) (g y) → ⊥) where
  p1 : IsPermuting (exchange f x y) k
  p1 = IsPermuting-exchange f k x y lx ly p

  -- the first cut keeps z and w in one orbit
  still_one : Together (orbits_of (exchange f x y) k) z w
  still_one =
      let O = orbits_of f k in
      let O1 = orbits_of (exchange f x y) k in
      let known = IsLabels-orbits_of (exchange f x y) k p1.within in
      let n = length-orbits_of (exchange f x y) k in
      let e = (cut_orbits f g k x y p v.within lx ly x_y one).joined in
      let wider : (i j : ℕ) → Together O1 i j → Together O i j = λ i j t. rw e (merge-keeps O1 x y known (omega arith) (omega arith) i j t) in
      elim (merge-joined O1 x y known (omega arith) (omega arith) z w (rw e at two)) [
        | inl t ↦ t
        | inr r ↦ elim r [
          | inl t ↦ absurd (far (sym (wider z x t.0)))
          | inr t ↦ absurd (far (one ∙ sym (wider z y t.0)))
        ]
      ]

  -- and makes their two faces one
  now_one_face : Together (orbits_of (after (exchange f x y) g) k) (g z) (g w)
  now_one_face =
      let F = orbits_of (after f g) k in
      let gw = IsPermuting-pairing g k v in
      let fw = IsPermuting-after f g k p gw in
      let n = length-orbits_of (after f g) k in
      let lgy = v.within y ly in
      let ne : g x ≢ g y = λ e. x_y (gw.apart x y lx ly e) in
      let joined = ((exchange_orbits (after f g) k (g x) (g y) fw (v.within x lx) lgy ne).joined (apart-from F (g x) (g y) faces)).joined in
      let same = orbits_of-same (after (exchange f x y) g) (exchange (after f g) (g x) (g y)) k (after-exchange f g k x y v lx ly) in
      rw (same, joined) (joined-merge F (g x) (g y) (IsLabels-orbits_of (after f g) k fw.within) (omega arith) (omega arith) (g z) (g w) (inr (inl (sym first, second))))

  pub two_cuts_apart : Together (joint (exchange (exchange f x y) z w) g k) (f z) (f w) → ⊥
  two_cuts_apart t =
      let O = orbits_of f k in
      let L = label (joint (exchange (exchange f x y) z w) g k) in
      let at_z : exchange f x y z ≡ f z = ap f (swapped_other x y z (λ e. far (ap (label O) (sym e))) (λ e. far (one ∙ ap (label O) (sym e)))) in
      let at_w : exchange f x y w ≡ f w = ap f (swapped_other x y w (λ e. far (ap (label O) (sym e) ∙ sym two)) (λ e. far (one ∙ (ap (label O) (sym e) ∙ sym two)))) in
      let plane1 = plane_cut f g k m x y double p v lx ly x_y one plane in
      plane_cut-images_apart (exchange f x y) g k m z w double p1 v lz lw z_w still_one plane1 now_one_face (ap L at_z ∙ (t ∙ sym (ap L at_w)))

-- exchanges of two pairs that share no number come in any order
pub swapped_commute : (x y z w : ℕ) → x ≢ z → x ≢ w → y ≢ z → y ≢ w → (i : ℕ) → swapped x y (swapped z w i) ≡ swapped z w (swapped x y i)
swapped_commute x y z w xz xw yz yw i = grind (arith, cases_eq, swapped, swapped_other, swapped_first, swapped_second)

-- the joint classes depend on the images alone
pub joint-same : (f f' g : ℕ → ℕ) (k : ℕ) → ((i : ℕ) → i < k → f i ≡ f' i) → joint f g k ≡ joint f' g k
joint-same f f' g k h = ap (λ o. merge_all o (steps g k)) (orbits_of-same f f' k h)

-- ---- one dart taken off its orbit
find_image : (f : ℕ → ℕ) (d n : ℕ) → ((p : ℕ) × (p < n) × (f p ≡ d)) ⊎ ((i : ℕ) → i < n → f i ≢ d)
find_image f d zero = inr (λ i l. absurd (omega arith))
find_image f d (suc n) =
    elim (cases_eq (f n) d) [
      | inl e ↦ inl (n, omega arith, e)
      | inr ne ↦
          elim (find_image f d n) [
            | inl r ↦ inl (r.0, omega arith, r.2)
            | inr h ↦ inr (λ i l. elim (cases_eq i n) [ inl q ↦ (λ e. ne (ap f (sym q) ∙ e)) | inr q ↦ h i (omega arith) ])
          ]
    ]

-- each number is the image of one
pub image_of_some : (f : ℕ → ℕ) (k : ℕ) → IsPermuting f k → (d : ℕ) → d < k → (p : ℕ) × (p < k) × (f p ≡ d)
image_of_some f k w d l =
    elim (find_image f d k) [
      | inl r ↦ r
      | inr h ↦
          let none = count_below_same (λ i. eqb (f i) d) (λ i. false) k (λ i l. ne_eqb (f i) d (h i l)) in
          let some = count_below_more (λ i. false) (λ i. eqb i d) k d l refl (eq-eqb d d refl) (λ i l ne. sym (ne_eqb i d ne)) in
          absurd (omega (arith, count_below-images f k w (λ i. eqb i d), none, some, count_below_none k))
    ]

-- d, the image of p, made a fixed point, and p led to where d led: the rest is as it was
pub lone : (f : ℕ → ℕ) (p d : ℕ) → f p ≡ d → exchange f p d d ≡ d
lone f p d e = ap f (swapped_second p d) ∙ e

pub lone_before : (f : ℕ → ℕ) (p d : ℕ) → exchange f p d p ≡ f d
lone_before f p d = ap f (swapped_first p d)

pub lone_other : (f : ℕ → ℕ) (p d i : ℕ) → i ≢ p → i ≢ d → exchange f p d i ≡ f i
lone_other f p d i ne ne' = ap f (swapped_other p d i ne ne')

-- p and its image lie in one orbit, so this is a cut
pub lone_together : (f : ℕ → ℕ) (k p d : ℕ) → IsPermuting f k → p < k → f p ≡ d → Together (orbits_of f k) p d
lone_together f k p d w l e = orbits_of-step f k w.within p l ∙ ap (label (orbits_of f k)) e

-- a fixed point is alone on its orbit
pub fixed_alone : (f : ℕ → ℕ) (k : ℕ) → IsPermuting f k → (x : ℕ) → x < k → f x ≡ x → (i : ℕ) → i < k → Together (orbits_of f k) i x → i ≡ x
fixed_alone f k w x lx fixed i l t =
    let step : (y : ℕ) → y < k → one_if (eqb y x) ≡ one_if (eqb (f y) x) = λ y n.
    elim (cases_eq y x) [
      | inl e ↦ ap one_if (eq-eqb y x e ∙ sym (eq-eqb (f y) x (ap f e ∙ fixed)))
      | inr ne ↦ ap one_if (ne_eqb y x ne ∙ sym (ne_eqb (f y) x (λ e. ne (w.apart y x n lx (e ∙ sym fixed)))))
    ] in
    let same = orbits_of-marked (λ y. one_if (eqb y x)) f k w.within step i x l lx t in
    elim (cases_eq i x) [
      | inl e ↦ e
      | inr ne ↦ absurd (omega (arith, same, ap one_if (eq-eqb x x refl), ap one_if (ne_eqb i x ne)))
    ]
