-- Sums and counts of the numbers below n, taken apart.
use Rattle.std.proofs.Common.{◌≡◌, ℕ, zero, suc, ◌+◌, ◌≤◌, Bool, refl, ap, inl, inr, arith}
use Rattle.std.specs.Prelude.{if◌then◌else◌}
use Rattle.std.proofs.lemmas.Bool.{cases_eq}
use Rattle.classes.specs.Classes.{count_below}
use Rattle.map_theory.proofs.DartCounts.{sum_below}

-- up to a, and then b more
pub sum_below-parts : (f : ℕ → ℕ) (a b : ℕ) → sum_below f (a + b) ≡ sum_below f a + sum_below (λ k. f (a + k)) b
sum_below-parts f a zero = let z : a + 0 ≡ a = omega arith in omega (arith, ap (sum_below f) z)
sum_below-parts f a (suc b) =
    let z : a + suc b ≡ suc (a + b) = omega arith in
    omega (arith, ap (sum_below f) z, sum_below-parts f a b)

pub sum_below-three : (f : ℕ → ℕ) (a m b n : ℕ) → a + m + b ≡ n → sum_below f n ≡ sum_below f a + sum_below (λ k. f (a + k)) m + sum_below (λ k. f (a + m + k)) b
sum_below-three f a m b n e = omega (arith, ap (sum_below f) e, sum_below-parts f (a + m) b, sum_below-parts f a m)

pub sum_below-mono : (f : ℕ → ℕ) (a n : ℕ) → a ≤ n → sum_below f a ≤ sum_below f n
sum_below-mono f a zero l = let z : a ≡ 0 = omega arith in omega (arith, ap (sum_below f) z)
sum_below-mono f a (suc n) l = elim (cases_eq a (suc n)) [
  | inl e ↦ omega (arith, ap (sum_below f) e)
  | inr ne ↦ omega (arith, sum_below-mono f a n (omega arith))
]

-- a count is a sum
pub count_below-sum : (p : ℕ → Bool) (n : ℕ) → count_below p n ≡ sum_below (λ i. if p i then 1 else 0) n
count_below-sum p zero = refl
count_below-sum p (suc n) = omega (arith, count_below-sum p n)

pub count_below-three : (p : ℕ → Bool) (a m b n : ℕ) → a + m + b ≡ n → count_below p n ≡ count_below p a + count_below (λ k. p (a + k)) m + count_below (λ k. p (a + m + k)) b
count_below-three p a m b n e =
    let f : ℕ → ℕ = λ i. if p i then 1 else 0 in
    omega (arith, count_below-sum p n, sum_below-three f a m b n e, count_below-sum p a, count_below-sum (λ k. p (a + k)) m, count_below-sum (λ k. p (a + m + k)) b)

pub count_below-mono : (p : ℕ → Bool) (a n : ℕ) → a ≤ n → count_below p a ≤ count_below p n
count_below-mono p a n l = omega (arith, count_below-sum p a, count_below-sum p n, sum_below-mono (λ i. if p i then 1 else 0) a n l)
