-- Tests that pass at few or many numbers.
use Rattle.std.proofs.Common.{◌≡◌, ◌≢◌, ℕ, zero, suc, ◌+◌, ◌<◌, ◌≤◌, Bool, true, false, cond, eqb, refl, sym, ap, ◌∙◌, inl, inr, arith, eq-eqb, ne_eqb}
use Rattle.std.proofs.lemmas.Bool.{cases_Bool, cases_eq}
use Rattle.classes.specs.Classes.{count_below}
use Rattle.classes.proofs.Counting.{one_if, count_below_same, count_below_more}

-- a test without one number
abbrev pub but : (ℕ → Bool) → ℕ → ℕ → Bool
but p m i = cond (eqb i m) false (p i)

pub but-here : (p : ℕ → Bool) (m : ℕ) → but p m m ≡ false
but-here p m = rw (eq-eqb m m refl) refl

pub but-other : (p : ℕ → Bool) (m i : ℕ) → i ≢ m → but p m i ≡ p i
but-other p m i n = rw (ne_eqb i m n) refl

pub count_but : (p : ℕ → Bool) (n m : ℕ) → m < n → p m ≡ true → count_below p n ≡ count_below (but p m) n + 1
count_but p n m l e = count_below_more (but p m) p n m l (but-here p m) e (λ i h d. but-other p m i d)

pub count_but-le : (p : ℕ → Bool) (n m : ℕ) → m < n → count_below p n ≤ count_below (but p m) n + 1
count_but-le p n m l = grind (arith, cases_Bool, count_but, count_below_same, but, cases_eq, but-here, but-other)

pub count_none : (p : ℕ → Bool) (n : ℕ) → ((i : ℕ) → i < n → p i ≡ false) → count_below p n ≡ 0
count_none p zero h = refl
count_none p (suc n) h = omega (arith, count_none p n (λ i l. h i (omega arith)), ap one_if (h n (omega arith)))

-- four numbers that pass
pub count_four : (p : ℕ → Bool) (n a b c d : ℕ) → a < n → b < n → c < n → d < n → p a ≡ true → p b ≡ true → p c ≡ true → p d ≡ true → b ≢ a → c ≢ a → c ≢ b → d ≢ a → d ≢ b → d ≢ c → 4 ≤ count_below p n
count_four p n a b c d la lb lc ld pa pb pc pd ba ca cb da db dc =
    let p1 = but p a in
    let p2 = but p1 b in
    let three = count_but p2 n c lc (but-other p1 b c cb ∙ but-other p a c ca ∙ pc) in
    let four = count_but (but p2 c) n d ld (but-other p2 c d dc ∙ but-other p1 b d db ∙ but-other p a d da ∙ pd) in
    omega (arith, count_but p1 n b lb (but-other p a b ba ∙ pb), count_but p n a la pa)

-- a test that passes at three numbers at most
pub count_three-le : (p : ℕ → Bool) (n a b c : ℕ) → a < n → b < n → c < n → ((i : ℕ) → i < n → i ≢ a → i ≢ b → i ≢ c → p i ≡ false) → count_below p n ≤ 3
count_three-le p n a b c la lb lc h =
    let p1 = but p a in
    let p2 = but p1 b in
    let three = count_but-le p2 n c lc in
    let rest = count_none (but p2 c) n (λ i l. elim (cases_eq i c) [
      | inl e ↦ rw e (but-here p2 c)
      | inr dc ↦ but-other p2 c i dc ∙ elim (cases_eq i b) [
        | inl e ↦ rw e (but-here p1 b)
        | inr db ↦ but-other p1 b i db ∙ elim (cases_eq i a) [ inl e ↦ rw e (but-here p a) | inr da ↦ but-other p a i da ∙ h i l da db dc ]
      ]
    ]) in
    omega (arith, count_but-le p1 n b lb, count_but-le p n a la)

pub count_one : (p : ℕ → Bool) (n a : ℕ) → a < n → p a ≡ true → 1 ≤ count_below p n
count_one p n a l e = let h = count_but p n a l e in omega arith

-- an equation at each number, summed
pub count_sums : (a b c d e f p q : ℕ → Bool) (n : ℕ) → ((i : ℕ) → i < n → one_if (a i) + one_if (b i) + one_if (c i) + one_if (q i) ≡ one_if (d i) + one_if (e i) + one_if (f i) + one_if (p i)) → count_below a n + count_below b n + count_below c n + count_below q n ≡ count_below d n + count_below e n + count_below f n + count_below p n
count_sums a b c d e f p q zero h = refl
count_sums a b c d e f p q (suc n) h = omega (arith, count_sums a b c d e f p q n (λ i l. h i (omega arith)), h n (omega arith))
