-- Counting by labels: where each class that passes a test has g numbers, there are g times as many numbers as such classes.
use Rattle.std.proofs.Common.{◌≡◌, ◌&&◌, ◌||◌, ◌==◌, ℕ, zero, suc, ◌*◌, ◌<◌, ◌≤◌, nat_lt, not, Bool, true, false, cond, refl, sym, ap, ap₂, ◌∙◌, inl, inr, arith}
use Rattle.std.proofs.lemmas.Bool.{cases_Bool, cases_eq, true≢false, or_cases, or_left, or_right}
use Rattle.std.proofs.lemmas.Bool.Decides.{nat_tests}
use Rattle.std.specs.Cmp.{second_so}
use Rattle.classes.specs.Classes.{count_below}
use Rattle.classes.proofs.Counting.{one_if, count_below_all, count_below_into, count_below_weaker, count_below_same, count_below_split}

-- g different numbers below k pass a test
pub record HasMany (k g : ℕ) (q : ℕ → Bool) : Type 0 where
  pub pick : ℕ → ℕ
  pub within : (j : ℕ) → j < g → pick j < k
  pub passes : (j : ℕ) → j < g → q (pick j) ≡ true
  pub apart : (i j : ℕ) → i < g → j < g → pick i ≡ pick j → i ≡ j

pub count-many : (k g : ℕ) (q : ℕ → Bool) → HasMany k g q → g ≤ count_below q k
count-many k g q h =
    let into = count_below_into h.pick (λ i. true) q g k (λ i l t. (h.within i l, h.passes i l)) (λ i j l m t s e. h.apart i j l m e) in
    omega (arith, count_below_all g)

-- the numbers of classes below s
abbrev below_label : (ℕ → ℕ) → (ℕ → Bool) → ℕ → ℕ → Bool
below_label label p s i = nat_lt (label i) s && p i

one_label : (l s : ℕ) (b : Bool) → ((l == s) && (nat_lt l (suc s) && b)) ≡ ((l == s) && b)
one_label l s b = grind (arith, nat_tests)

other_label : (l s : ℕ) (b : Bool) → (not (l == s) && (nat_lt l (suc s) && b)) ≡ (nat_lt l s && b)
other_label l s b = grind (arith, nat_tests)

tally_below : (label : ℕ → ℕ) (t p : ℕ → Bool) (g k s : ℕ) → ((r : ℕ) → r < s → t r ≡ true → HasMany k g (λ i. (label i == r) && p i)) → g * count_below t s ≤ count_below (below_label label p s) k
tally_below label t p g k zero h = omega arith
tally_below label t p g k (suc s) h =
    let split = count_below_split (below_label label p (suc s)) (λ i. label i == s) k in
    let here = count_below_same (λ i. (label i == s) && below_label label p (suc s) i) (λ i. (label i == s) && p i) k (λ i l. one_label (label i) s (p i)) in
    let below = count_below_same (λ i. not (label i == s) && below_label label p (suc s) i) (below_label label p s) k (λ i l. other_label (label i) s (p i)) in
    grind (arith, tally_below label t p g k s (λ r l. h r (omega arith)), cases_Bool, count-many, one_if, count_below)

pub tally : (label : ℕ → ℕ) (t p : ℕ → Bool) (g k : ℕ) → ((r : ℕ) → r < k → t r ≡ true → HasMany k g (λ i. (label i == r) && p i)) → g * count_below t k ≤ count_below p k
tally label t p g k h =
    omega (arith, count_below_weaker (below_label label p k) p k (λ i l e. second_so (nat_lt (label i) k) (p i) e), tally_below label t p g k k h)

-- ---- a test of some number below n
abbrev pub some_below : (ℕ → Bool) → ℕ → Bool
some_below p zero = false
some_below p (suc n) = p n || some_below p n

pub some_below-gives : (p : ℕ → Bool) (n : ℕ) → some_below p n ≡ true → (i : ℕ) × (i < n) × (p i ≡ true)
some_below-gives p zero e = absurd (true≢false (sym e))
some_below-gives p (suc n) e = elim (or_cases (p n) (some_below p n) e) [
  | inl t ↦ (n, omega arith, t)
  | inr t ↦ let r = some_below-gives p n t in (r.0, omega arith, r.2)
]

pub some_below-from : (p : ℕ → Bool) (n i : ℕ) → i < n → p i ≡ true → some_below p n ≡ true
some_below-from p zero i l e = absurd (omega arith)
some_below-from p (suc n) i l e = elim (cases_eq i n) [
  | inl q ↦ or_left (p n) (some_below p n) (ap p (sym q) ∙ e)
  | inr ne ↦ or_right (p n) (some_below p n) (some_below-from p n i (omega arith) e)
]

pub some_below-same : (p q : ℕ → Bool) (n : ℕ) → ((i : ℕ) → i < n → p i ≡ q i) → some_below p n ≡ some_below q n
some_below-same p q zero h = refl
some_below-same p q (suc n) h = ap₂ ◌||◌ (h n (omega arith)) (some_below-same p q n (λ i l. h i (omega arith)))

-- a number below n that passes, or 0
abbrev pub one_below : (ℕ → Bool) → ℕ → ℕ
one_below p zero = 0
one_below p (suc n) = cond (p n) n (one_below p n)

pub one_below-passes : (p : ℕ → Bool) (n : ℕ) → some_below p n ≡ true → (one_below p n < n) × (p (one_below p n) ≡ true)
one_below-passes p zero e = absurd (true≢false (sym e))
one_below-passes p (suc n) e = elim (cases_Bool (p n)) [
  | inl t ↦ let c : one_below p (suc n) ≡ n = ap (λ b. cond b n (one_below p n)) t in (omega arith, ap p c ∙ t)
  | inr f ↦
      let c : one_below p (suc n) ≡ one_below p n = ap (λ b. cond b n (one_below p n)) f in
      let r = one_below-passes p n (sym (ap (λ b. b || some_below p n) f) ∙ e) in
      (omega (arith, c, r), ap p c ∙ r.1)
]
