-- How often a ray meets a triangle: the sides that it meets from below, less those from above, are one or none, by signs alone.
use Rattle.std.proofs.Common.{◌≡◌, ℕ, ◌+◌, Bool, true, false, not, ◌&&◌, ltb, ℤ, pos, ◌+ℤ◌, ◌*ℤ◌, ◌≤ℤ◌, ◌<ℤ◌, ◌⊎◌, inl, inr, refl, sym, ◌∙◌, arith}
use Rattle.std.proofs.lemmas.Int.{ints, by_lt_z}
use Rattle.std.proofs.lemmas.Bool.{false≢true}
use lib.Signed.{lt_z}
use borrow.Author.Differences.{true_is_lt, false_is_lt}
use Rattle.classes.proofs.Counting.{one_if}
use Rattle.pg_plane.proofs.Ring.{product_signs, sums}

-- Three corners by their heights over a point, and the areas of the point with the sides opposite them: the triangle is counterclockwise.
pub record IsLeftTurn (h1 h2 h3 s1 s2 s3 : ℤ) : Type 0 where
  pub total : pos 0 <ℤ ((s1 +ℤ s2) +ℤ s3)
  pub balance : ((s1 *ℤ h1) +ℤ (s2 *ℤ h2)) +ℤ (s3 *ℤ h3) ≡ pos 0
  pub not_flat : h1 ≡ h2 → h2 ≡ h3 → ⊥

-- with one corner above, the third
module _ (h1 h2 h3 s1 s2 s3 : ℤ) (t : IsLeftTurn h1 h2 h3 s1 s2 s3) (l1 : h1 ≤ℤ pos 0) (l2 : h2 ≤ℤ pos 0) (g3 : pos 0 <ℤ h3) where
  one_up : s1 ≤ℤ pos 0 → pos 0 ≤ℤ s2
  one_up a =
      by_lt_z s2 (pos 0)
      (λ b.
      let total = t.total in
      let balance = t.balance in
      let x = (product_signs s1 h1).both_down a l1 in
      let y = (product_signs s2 h2).both_down (omega (arith, ints)) l2 in
      let z = (product_signs s3 h3).both_above (omega (arith, ints)) g3 in
      absurd (omega (arith, sums)))
      (λ b. b)

  one_in : pos 0 <ℤ s1 → pos 0 ≤ℤ s2 → pos 0 ≤ℤ s3
  one_in a b =
      by_lt_z s3 (pos 0)
      (λ c.
      let balance = t.balance in
      let x = (product_signs s1 h1).up_down (omega (arith, ints)) l1 in
      let y = (product_signs s2 h2).up_down b l2 in
      let z = (product_signs s3 h3).below_above c g3 in
      absurd (omega (arith, sums)))
      (λ c. c)

-- with one corner not above, the third
module _ (h1 h2 h3 s1 s2 s3 : ℤ) (t : IsLeftTurn h1 h2 h3 s1 s2 s3) (g1 : pos 0 <ℤ h1) (g2 : pos 0 <ℤ h2) (l3 : h3 ≤ℤ pos 0) where
  two_up : s2 ≤ℤ pos 0 → pos 0 ≤ℤ s1
  two_up a =
      by_lt_z s1 (pos 0)
      (λ b.
      let total = t.total in
      let balance = t.balance in
      let x = (product_signs s1 h1).below_above b g1 in
      let y = (product_signs s2 h2).down_up a (omega (arith, ints)) in
      let z = (product_signs s3 h3).up_down (omega (arith, ints)) l3 in
      absurd (omega (arith, sums)))
      (λ b. b)

  two_in : pos 0 <ℤ s2 → pos 0 ≤ℤ s1 → pos 0 ≤ℤ s3
  two_in a b =
      by_lt_z s3 (pos 0)
      (λ c.
      let balance = t.balance in
      let x = (product_signs s1 h1).both_up b (omega (arith, ints)) in
      let y = (product_signs s2 h2).both_above a g2 in
      let z = (product_signs s3 h3).both_down (omega (arith, ints)) l3 in
      absurd (omega (arith, sums)))
      (λ c. c)

-- a point strictly inside is not below all corners, nor above or level with all
module _ (h1 h2 h3 s1 s2 s3 : ℤ) (t : IsLeftTurn h1 h2 h3 s1 s2 s3) (a : pos 0 <ℤ s1) (b : pos 0 <ℤ s2) (c : pos 0 <ℤ s3) where
  not_all_up : pos 0 <ℤ h1 → pos 0 <ℤ h2 → pos 0 <ℤ h3 → ⊥
  not_all_up g1 g2 g3 =
      let balance = t.balance in
      let x = (product_signs s1 h1).both_above a g1 in
      let y = (product_signs s2 h2).both_above b g2 in
      let z = (product_signs s3 h3).both_above c g3 in
      omega (arith, sums)

  not_all_down : h1 ≤ℤ pos 0 → h2 ≤ℤ pos 0 → h3 ≤ℤ pos 0 → ⊥
  not_all_down l1 l2 l3 =
      let balance = t.balance in
      let x = (product_signs s1 h1).up_down (omega (arith, ints)) l1 in
      let y = (product_signs s2 h2).up_down (omega (arith, ints)) l2 in
      let z = (product_signs s3 h3).up_down (omega (arith, ints)) l3 in
      let level : (s h : ℤ) → pos 0 <ℤ s → h ≤ℤ pos 0 → pos 0 ≤ℤ (s *ℤ h) → h ≡ pos 0 =
      λ s h g l p. by_lt_z h (pos 0) (λ m. absurd (let n = (product_signs s h).above_below g m in omega (arith, ints))) (λ m. omega (arith, ints)) in
      let e1 = level s1 h1 a l1 (omega (arith, sums)) in
      let e2 = level s2 h2 b l2 (omega (arith, sums)) in
      let e3 = level s3 h3 c l3 (omega (arith, sums)) in
      t.not_flat (e1 ∙ sym e2) (e2 ∙ sym e3)

-- a side is met from below: it begins not above the point and ends above, with the point to its left
abbrev pub rises : Bool → Bool → Bool → Bool
rises begin end left = not begin && (end && left)

-- how many of the three sides are met from below, walked one way and the other
abbrev pub met : Bool → Bool → Bool → Bool → Bool → Bool → ℕ
met u1 u2 u3 l1 l2 l3 = one_if (rises u1 u2 l3) + one_if (rises u2 u3 l1) + one_if (rises u3 u1 l2)

abbrev pub met_back : Bool → Bool → Bool → Bool → Bool → Bool → ℕ
met_back u1 u2 u3 r1 r2 r3 = one_if (rises u2 u1 r3) + one_if (rises u3 u2 r1) + one_if (rises u1 u3 r2)

-- The triangle holds the point, by the count: once where it is strictly inside, never where it is strictly outside.
pub record IsMet (s1 s2 s3 : ℤ) (there back : ℕ) : Type 0 where
  pub once : there ≡ back + one_if (ltb back there)
  pub inside : pos 0 <ℤ s1 → pos 0 <ℤ s2 → pos 0 <ℤ s3 → ltb back there ≡ true
  pub outside : (s1 <ℤ pos 0) ⊎ ((s2 <ℤ pos 0) ⊎ (s3 <ℤ pos 0)) → ltb back there ≡ false

none_met : (s1 s2 s3 : ℤ) (there back : ℕ) → there ≡ 0 → back ≡ 0 → (pos 0 <ℤ s1 → pos 0 <ℤ s2 → pos 0 <ℤ s3 → ⊥) → IsMet s1 s2 s3 there back
none_met s1 s2 s3 there back e f never = rw (e, f) (record { once = omega arith; inside = λ a b c. absurd (never a b c); outside = λ o. refl })

pair_met : (s1 s2 s3 : ℤ) (l r : Bool) (there back : ℕ) → there ≡ one_if l → back ≡ one_if r → (l ≡ false → r ≡ true → ⊥) → (pos 0 <ℤ s1 → pos 0 <ℤ s2 → pos 0 <ℤ s3 → (l ≡ true) × (r ≡ false)) → (l ≡ true → r ≡ false → (pos 0 ≤ℤ s1) × (pos 0 ≤ℤ s2) × (pos 0 ≤ℤ s3)) → IsMet s1 s2 s3 there back
pair_met s1 s2 s3 true true there back e f never held out = rw (e, f) (record { once = omega arith; inside = λ a b c. absurd (false≢true (sym (held a b c).1)); outside = λ o. refl })
pair_met s1 s2 s3 true false there back e f never held out = grind (arith, ints)
pair_met s1 s2 s3 false true there back e f never held out = absurd (never refl refl)
pair_met s1 s2 s3 false false there back e f never held out = rw (e, f) (record { once = omega arith; inside = λ a b c. absurd (false≢true (held a b c).0); outside = λ o. refl })

turned : (h1 h2 h3 s1 s2 s3 : ℤ) → IsLeftTurn h1 h2 h3 s1 s2 s3 → IsLeftTurn h2 h3 h1 s2 s3 s1
turned h1 h2 h3 s1 s2 s3 t =
    let total = t.total in
    let balance = t.balance in
    record { total = omega (arith, ints); balance = omega (arith, sums); not_flat = λ e f. t.not_flat (sym (e ∙ f)) e }

met_turned : (s1 s2 s3 : ℤ) (there back : ℕ) → IsMet s2 s3 s1 there back → IsMet s1 s2 s3 there back
met_turned s1 s2 s3 there back m = record {
  once = m.once;
  inside = λ a b c. m.inside b c a;
  outside = λ o. m.outside (elim o [ inl x ↦ inr (inr x) | inr y ↦ elim y [ inl x ↦ inl x | inr x ↦ inr (inl x) ] ]);
}

-- with just the third corner above
third_above : (h1 h2 h3 s1 s2 s3 : ℤ) (there back : ℕ) → IsLeftTurn h1 h2 h3 s1 s2 s3 → lt_z (pos 0) h1 ≡ false → lt_z (pos 0) h2 ≡ false → lt_z (pos 0) h3 ≡ true → there ≡ one_if (lt_z (pos 0) s1) → back ≡ one_if (lt_z s2 (pos 0)) → IsMet s1 s2 s3 there back
third_above h1 h2 h3 s1 s2 s3 there back t e1 e2 e3 is is_back =
    pair_met s1 s2 s3 (lt_z (pos 0) s1) (lt_z s2 (pos 0)) there back is is_back
    (λ l r. let z = one_up h1 h2 h3 s1 s2 s3 t (omega (arith, ints)) (omega (arith, ints)) (omega (arith, ints)) (omega (arith, ints)) in omega (arith, ints))
    (λ a b c. (sym (true_is_lt (pos 0) s1 (omega (arith, ints))), sym (false_is_lt s2 (pos 0) (omega (arith, ints)))))
    (λ l r. let a : pos 0 <ℤ s1 = omega (arith, ints) in let b : pos 0 ≤ℤ s2 = omega (arith, ints) in (omega (arith, ints), b, one_in h1 h2 h3 s1 s2 s3 t (omega (arith, ints)) (omega (arith, ints)) (omega (arith, ints)) a b))

-- with just the third corner not above
third_below : (h1 h2 h3 s1 s2 s3 : ℤ) (there back : ℕ) → IsLeftTurn h1 h2 h3 s1 s2 s3 → lt_z (pos 0) h1 ≡ true → lt_z (pos 0) h2 ≡ true → lt_z (pos 0) h3 ≡ false → there ≡ one_if (lt_z (pos 0) s2) → back ≡ one_if (lt_z s1 (pos 0)) → IsMet s1 s2 s3 there back
third_below h1 h2 h3 s1 s2 s3 there back t e1 e2 e3 is is_back =
    pair_met s1 s2 s3 (lt_z (pos 0) s2) (lt_z s1 (pos 0)) there back is is_back
    (λ l r. let z = two_up h1 h2 h3 s1 s2 s3 t (omega (arith, ints)) (omega (arith, ints)) (omega (arith, ints)) (omega (arith, ints)) in omega (arith, ints))
    (λ a b c. (sym (true_is_lt (pos 0) s2 (omega (arith, ints))), sym (false_is_lt s1 (pos 0) (omega (arith, ints)))))
    (λ l r. let a : pos 0 <ℤ s2 = omega (arith, ints) in let b : pos 0 ≤ℤ s1 = omega (arith, ints) in (b, omega (arith, ints), two_in h1 h2 h3 s1 s2 s3 t (omega (arith, ints)) (omega (arith, ints)) (omega (arith, ints)) a b))

module _ (h1 h2 h3 s1 s2 s3 : ℤ) (t : IsLeftTurn h1 h2 h3 s1 s2 s3) where
  abbrev pub there : Bool → Bool → Bool → ℕ
  there u1 u2 u3 = met u1 u2 u3 (lt_z (pos 0) s1) (lt_z (pos 0) s2) (lt_z (pos 0) s3)

  abbrev pub back : Bool → Bool → Bool → ℕ
  back u1 u2 u3 = met_back u1 u2 u3 (lt_z s1 (pos 0)) (lt_z s2 (pos 0)) (lt_z s3 (pos 0))

  t2 : IsLeftTurn h2 h3 h1 s2 s3 s1
  t2 = turned h1 h2 h3 s1 s2 s3 t

  t3 : IsLeftTurn h3 h1 h2 s3 s1 s2
  t3 = turned h2 h3 h1 s2 s3 s1 t2

  by_cases : (u1 u2 u3 : Bool) → lt_z (pos 0) h1 ≡ u1 → lt_z (pos 0) h2 ≡ u2 → lt_z (pos 0) h3 ≡ u3 → IsMet s1 s2 s3 (there u1 u2 u3) (back u1 u2 u3)
  by_cases true true true e1 e2 e3 =
      none_met s1 s2 s3 (there true true true) (back true true true) (omega arith) (omega arith)
      (λ a b c. not_all_up h1 h2 h3 s1 s2 s3 t a b c (omega (arith, ints)) (omega (arith, ints)) (omega (arith, ints)))
  by_cases false false false e1 e2 e3 =
      none_met s1 s2 s3 (there false false false) (back false false false) (omega arith) (omega arith)
      (λ a b c. not_all_down h1 h2 h3 s1 s2 s3 t a b c (omega (arith, ints)) (omega (arith, ints)) (omega (arith, ints)))
  by_cases false false true e1 e2 e3 = third_above h1 h2 h3 s1 s2 s3 (there false false true) (back false false true) t e1 e2 e3 (omega arith) (omega arith)
  by_cases true false false e1 e2 e3 = met_turned s1 s2 s3 (there true false false) (back true false false) (third_above h2 h3 h1 s2 s3 s1 (there true false false) (back true false false) t2 e2 e3 e1 (omega arith) (omega arith))
  by_cases false true false e1 e2 e3 = met_turned s1 s2 s3 (there false true false) (back false true false) (met_turned s2 s3 s1 (there false true false) (back false true false) (third_above h3 h1 h2 s3 s1 s2 (there false true false) (back false true false) t3 e3 e1 e2 (omega arith) (omega arith)))
  by_cases true true false e1 e2 e3 = third_below h1 h2 h3 s1 s2 s3 (there true true false) (back true true false) t e1 e2 e3 (omega arith) (omega arith)
  by_cases false true true e1 e2 e3 = met_turned s1 s2 s3 (there false true true) (back false true true) (third_below h2 h3 h1 s2 s3 s1 (there false true true) (back false true true) t2 e2 e3 e1 (omega arith) (omega arith))
  by_cases true false true e1 e2 e3 = met_turned s1 s2 s3 (there true false true) (back true false true) (met_turned s2 s3 s1 (there true false true) (back true false true) (third_below h3 h1 h2 s3 s1 s2 (there true false true) (back true false true) t3 e3 e1 e2 (omega arith) (omega arith)))

  -- a counterclockwise triangle is met once or not at all
  pub left_turn_met : IsMet s1 s2 s3 (there (lt_z (pos 0) h1) (lt_z (pos 0) h2) (lt_z (pos 0) h3)) (back (lt_z (pos 0) h1) (lt_z (pos 0) h2) (lt_z (pos 0) h3))
  left_turn_met = by_cases (lt_z (pos 0) h1) (lt_z (pos 0) h2) (lt_z (pos 0) h3) refl refl refl
