-- The classes of two lists of labels, side by side, with a class of the one and a class of the other made one.
use Rattle.std.proofs.Common.{◌≡◌, ◌≢◌, ◌&&◌, ℕ, zero, suc, ◌+◌, ◌-◌, ◌<◌, ◌≤◌, Bool, true, false, not, cond, eqb, ltb, List, length, refl, ap, ◌∙◌, inl, inr, arith, lt-ltb, le-ltb}
use Rattle.std.proofs.lemmas.Bool.{cases_eq, eq-eqb, ne_eqb, cond-true, cond-false, and_from, and_right}
use Rattle.classes.specs.Classes.{count_below, label, class_count}
use Rattle.classes.proofs.Counting.{count_below_same, count_below_more}
use Rattle.classes.proofs.Classes.{IsLabels, label-lt}

-- the numbers below a sum, in two parts
pub count_below-sum : (p : ℕ → Bool) (m n : ℕ) → count_below p (m + n) ≡ count_below p m + count_below (λ j. p (m + j)) n
count_below-sum p m zero = let e : m + 0 ≡ m = omega arith in ap (count_below p) e ∙ omega arith
count_below-sum p m (suc n) = let e : m + suc n ≡ suc (m + n) = omega arith in ap (count_below p) e ∙ omega (arith, count_below-sum p m n)

and_true : (a b : Bool) → b ≡ true → (a && b) ≡ a
and_true true b e = e
and_true false b e = refl

module _ (A B : List ℕ) (wA : IsLabels A) (wB : IsLabels B) (za zb : ℕ) where
  abbrev own : List ℕ → ℕ → Bool
  own labels i = eqb (label labels i) i

  -- a class of the one has its label, and a class of the other a number behind those of the one, but for that of zb
  pub test : ℕ → Bool
  test j = cond (ltb j (length A)) (own A j) (own B (j - length A) && not (eqb (j - length A) zb))

  pub value : ℕ → ℕ
  value l = cond (eqb l zb) za (length A + l)

  pub value_zb : (l : ℕ) → l ≡ zb → value l ≡ za
  unfolding value
  value_zb l e = cond-true (eqb l zb) za (length A + l) (eq-eqb l zb e)

  pub value_else : (l : ℕ) → l ≢ zb → value l ≡ length A + l
  unfolding value
  value_else l n = cond-false (eqb l zb) za (length A + l) (ne_eqb l zb n)

  pub test_first : (j : ℕ) → j < length A → test j ≡ own A j
  unfolding test
  test_first j l = cond-true (ltb j (length A)) (own A j) (own B (j - length A) && not (eqb (j - length A) zb)) (lt-ltb j (length A) l)

  pub test_second : (j : ℕ) → test (length A + j) ≡ (own B j && not (eqb j zb))
  unfolding test
  test_second j = grind (arith, length, cond-false, ltb, own, not, eqb, le-ltb)

  count_first : count_below test (length A) ≡ class_count A
  count_first = count_below_same test (own A) (length A) test_first

  count_second : count_below (λ j. test (length A + j)) (length B) ≡ count_below (λ j. own B j && not (eqb j zb)) (length B)
  count_second = count_below_same (λ j. test (length A + j)) (λ j. own B j && not (eqb j zb)) (length B) (λ j l. test_second j)

  -- with one class of each made one
  pub counted_joined : zb < length B → own B zb ≡ true → count_below test (length A + length B) + 1 ≡ class_count A + class_count B
  counted_joined l o =
      let more = count_below_more (λ j. own B j && not (eqb j zb)) (own B) (length B) zb l (and_right (own B zb) (not (eqb zb zb)) (ap not (eq-eqb zb zb refl))) o (λ j m ne. and_true (own B j) (not (eqb j zb)) (ap not (ne_eqb j zb ne))) in
      omega (arith, count_below-sum test (length A) (length B), count_first, count_second, more)

  -- and with none
  pub counted_apart : length B ≤ zb → count_below test (length A + length B) ≡ class_count A + class_count B
  counted_apart l =
      let same = count_below_same (λ j. own B j && not (eqb j zb)) (own B) (length B) (λ j m. and_true (own B j) (not (eqb j zb)) (ap not (ne_eqb j zb (λ e. omega arith)))) in
      omega (arith, count_below-sum test (length A) (length B), count_first, count_second, same)

  -- labels pass
  pub first_passes : (i : ℕ) → i < length A → (label A i < length A + length B) × (test (label A i) ≡ true)
  first_passes i l =
      (omega arith, test_first (label A i) (label-lt A wA i l) ∙ eq-eqb (label A (label A i)) (label A i) (wA.own i))

  pub second_passes : (i : ℕ) → i < length B → (label B i ≡ zb → (za < length A) × (label A za ≡ za)) → (value (label B i) < length A + length B) × (test (value (label B i)) ≡ true)
  second_passes i m ok =
      elim (cases_eq (label B i) zb) [
        | inl e ↦ let v = value_zb (label B i) e in let h = ok e in let l = h.0 in (omega arith, ap test v ∙ (test_first za l ∙ eq-eqb (label A za) za h.1))
        | inr ne ↦ grind (arith, value_else, label, test, test_second, and_from, own, not, eqb, eq-eqb, ne_eqb)
      ]
