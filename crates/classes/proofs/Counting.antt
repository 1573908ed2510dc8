-- Counting the numbers below n that pass a test.
use Rattle.std.proofs.Common.{◌≡◌, ◌≢◌, ℕ, zero, suc, ◌+◌, ◌<◌, ◌≤◌, Bool, true, false, not, ◌&&◌, cond, eqb, refl, sym, ap, inl, inr, arith}
use Rattle.std.proofs.lemmas.Bool.{cases_Bool, cases_eq, eq-eqb, ne_eqb}
use Rattle.classes.specs.Classes.{count_below}

-- one for a number that passes
abbrev pub one_if : Bool → ℕ
one_if b = cond b 1 0

-- a test that fails everywhere, and one that passes everywhere
pub count_below_none : (n : ℕ) → count_below (λ i. false) n ≡ 0
count_below_none zero = refl
count_below_none (suc n) = omega (arith, count_below_none n)

pub count_below_all : (n : ℕ) → count_below (λ i. true) n ≡ n
count_below_all zero = refl
count_below_all (suc n) = omega (arith, count_below_all n)

-- a count is at most what is counted
pub count_below-le : (p : ℕ → Bool) (n : ℕ) → count_below p n ≤ n
count_below-le p zero = omega arith
count_below-le p (suc n) = let h = count_below-le p n in elim (p n) as (λ v. count_below p n + cond v 1 0 ≤ suc n) [ true ↦ omega arith | false ↦ omega arith ]

one_if_le : (x y : Bool) → (x ≡ true → y ≡ true) → one_if x ≤ one_if y
one_if_le true y h = rw (h refl) (omega arith)
one_if_le false y h = omega arith

-- a weaker test passes at least as often
pub count_below_weaker : (p q : ℕ → Bool) (n : ℕ) → ((i : ℕ) → i < n → p i ≡ true → q i ≡ true) → count_below p n ≤ count_below q n
count_below_weaker p q zero h = omega arith
count_below_weaker p q (suc n) h =
    let below = count_below_weaker p q n (λ i l e. h i (omega arith) e) in
    omega (arith, one_if_le (p n) (q n) (h n (omega arith)))

-- tests that agree pass equally often
pub count_below_same : (p q : ℕ → Bool) (n : ℕ) → ((i : ℕ) → i < n → p i ≡ q i) → count_below p n ≡ count_below q n
count_below_same p q zero h = refl
count_below_same p q (suc n) h = cc (count_below_same p q n (λ i l. h i (omega arith)), ap one_if (h n (omega arith)))

-- one number more that passes raises the count by one
pub count_below_more : (p q : ℕ → Bool) (n m : ℕ) → m < n → p m ≡ false → q m ≡ true → ((i : ℕ) → i < n → i ≢ m → p i ≡ q i) → count_below q n ≡ count_below p n + 1
count_below_more p q zero m l fails passes h = absurd (omega arith)
count_below_more p q (suc n) m l fails passes h =
    elim (cases_eq m n) [
      | inl e ↦
          let here : p n ≡ false = rw e at fails in
          let there : q n ≡ true = rw e at passes in
          omega (arith, count_below_same p q n (λ i k. h i (omega arith) (omega arith)), ap one_if here, ap one_if there)
      | inr ne ↦
          let here : p n ≡ q n = h n (omega arith) (omega arith) in
          omega (arith, count_below_more p q n m (omega arith) fails passes (λ i k d. h i (omega arith) d), ap one_if here)
    ]

one_if_not : (x : Bool) → one_if x + one_if (not x) ≡ 1
one_if_not true = refl
one_if_not false = refl

-- each number passes a test or its negation
pub count_below_not : (p : ℕ → Bool) (n : ℕ) → count_below p n + count_below (λ i. not (p i)) n ≡ n
count_below_not p zero = refl
count_below_not p (suc n) = omega (arith, count_below_not p n, one_if_not (p n))

one_if_back : (x y : Bool) → one_if y ≤ one_if x → y ≡ true → x ≡ true
one_if_back true y h e = refl
one_if_back false true h e = absurd (omega arith)
one_if_back false false h e = e

-- a weaker test that passes equally often passes at the same numbers
pub weaker_test_back : (p q : ℕ → Bool) (n : ℕ) → ((i : ℕ) → i < n → p i ≡ true → q i ≡ true) → count_below p n ≡ count_below q n → (i : ℕ) → i < n → q i ≡ true → p i ≡ true
weaker_test_back p q zero h e i l t = absurd (omega arith)
weaker_test_back p q (suc n) h e i l t =
    let below = count_below_weaker p q n (λ j k. h j (omega arith)) in
    let here = one_if_le (p n) (q n) (h n (omega arith)) in
    elim (cases_eq i n) [
      | inl at ↦ let t' : q n ≡ true = rw at at t in let back = one_if_back (p n) (q n) (omega arith) t' in rw at back
      | inr ne ↦ weaker_test_back p q n (λ j k. h j (omega arith)) (omega arith) i (omega arith) t
    ]

-- no number below n passes twice at images of numbers below k that are different and below n
pub count_below_images_le : (f : ℕ → ℕ) (p : ℕ → Bool) (k n : ℕ) → ((i : ℕ) → i < k → f i < n) → ((i j : ℕ) → i < k → j < k → f i ≡ f j → i ≡ j) → count_below (λ i. p (f i)) k ≤ count_below p n
count_below_images_le f p zero n within apart = omega arith
count_below_images_le f p (suc k) n within apart =
    elim (cases_Bool (p (f k))) [
      | inl passes ↦
          let less : ℕ → Bool = λ i. cond (eqb i (f k)) false (p i) in
          let rest = count_below_images_le f less k n (λ i l. within i (omega arith)) (λ i j l m. apart i j (omega arith) (omega arith)) in
          let same = count_below_same (λ i. p (f i)) (λ i. less (f i)) k (λ i l. let ne : f i ≢ f k = λ e. absurd (omega (arith, apart i k (omega arith) (omega arith) e)) in rw (ne_eqb (f i) (f k) ne) refl) in
          let fails : less (f k) ≡ false = rw (eq-eqb (f k) (f k) refl) refl in
          let more = count_below_more less p n (f k) (within k (omega arith)) fails passes (λ i l ne. rw (ne_eqb i (f k) ne) refl) in
          omega (arith, rest, same, more, ap one_if passes)
      | inr fails ↦
          let rest = count_below_images_le f p k n (λ i l. within i (omega arith)) (λ i j l m. apart i j (omega arith) (omega arith)) in
          omega (arith, rest, ap one_if fails)
    ]

-- two tests that agree but at m: the counts differ by what they answer there
pub count_below_but_one : (p q : ℕ → Bool) (n m : ℕ) → m < n → ((i : ℕ) → i < n → i ≢ m → p i ≡ q i) → count_below p n + one_if (q m) ≡ count_below q n + one_if (p m)
count_below_but_one p q zero m l h = absurd (omega arith)
count_below_but_one p q (suc n) m l h =
    elim (cases_eq m n) [
      | inl e ↦
          omega (arith, count_below_same p q n (λ i k. h i (omega arith) (omega arith)), ap (λ i. one_if (p i)) e, ap (λ i. one_if (q i)) e)
      | inr ne ↦
          omega (arith, count_below_but_one p q n m (omega arith) (λ i k d. h i (omega arith) d), ap one_if (h n (omega arith) (omega arith)))
    ]

-- the same for two tests that agree but at a and b
pub count_below_but_two : (p q : ℕ → Bool) (n a b : ℕ) → a < n → b < n → a ≢ b → ((i : ℕ) → i < n → i ≢ a → i ≢ b → p i ≡ q i) → count_below p n + (one_if (q a) + one_if (q b)) ≡ count_below q n + (one_if (p a) + one_if (p b))
count_below_but_two p q n a b la lb ne h =
    let mixed : ℕ → Bool = λ i. cond (eqb i a) (q i) (p i) in
    let at_a : mixed a ≡ q a = rw (eq-eqb a a refl) refl in
    let at_b : mixed b ≡ p b = rw (ne_eqb b a (λ e. ne (sym e))) refl in
    let agree : (i : ℕ) → i < n → i ≢ b → mixed i ≡ q i =
    λ i l d. elim (cases_eq i a) [ inl e ↦ rw (eq-eqb i a e) refl | inr d' ↦ rw (ne_eqb i a d') (h i l d' d) ] in
    let second = count_below_but_one mixed q n b lb agree in
    omega (arith, count_below_but_one p mixed n a la (λ i l d. rw (ne_eqb i a d) refl), second, ap one_if at_a, ap one_if at_b)

-- Numbers below k that pass one test go to different numbers below n that pass another: so the first test passes no more often.
pub count_below_into : (f : ℕ → ℕ) (p q : ℕ → Bool) (k n : ℕ) → ((i : ℕ) → i < k → p i ≡ true → (f i < n) × (q (f i) ≡ true)) → ((i j : ℕ) → i < k → j < k → p i ≡ true → p j ≡ true → f i ≡ f j → i ≡ j) → count_below p k ≤ count_below q n
count_below_into f p q zero n into apart = omega arith
count_below_into f p q (suc k) n into apart =
    elim (cases_Bool (p k)) [
      | inl passes ↦
          let at = into k (omega arith) passes in
          let less : ℕ → Bool = λ i. cond (eqb i (f k)) false (q i) in
          let rest = count_below_into f p less k n
          (λ i l t. let old = into i (omega arith) t in let ne : f i ≢ f k = λ e. absurd (omega (arith, apart i k (omega arith) (omega arith) t passes e)) in (old.0, rw (ne_eqb (f i) (f k) ne) old.1))
          (λ i j l m. apart i j (omega arith) (omega arith)) in
          let fails : less (f k) ≡ false = rw (eq-eqb (f k) (f k) refl) refl in
          omega (arith, rest, count_below_more less q n (f k) at.0 fails at.1 (λ i l ne. rw (ne_eqb i (f k) ne) refl), ap one_if passes)
      | inr fails ↦
          let rest = count_below_into f p q k n (λ i l t. into i (omega arith) t) (λ i j l m. apart i j (omega arith) (omega arith)) in
          omega (arith, rest, ap one_if fails)
    ]

one_if_split : (x y : Bool) → one_if x ≡ one_if (y && x) + one_if (not y && x)
one_if_split x true = omega arith
one_if_split x false = omega arith

-- what passes is what passes with a second test and what passes without it
pub count_below_split : (p q : ℕ → Bool) (n : ℕ) → count_below p n ≡ count_below (λ i. q i && p i) n + count_below (λ i. not (q i) && p i) n
count_below_split p q zero = refl
count_below_split p q (suc n) = omega (arith, count_below_split p q n, one_if_split (p n) (q n))
