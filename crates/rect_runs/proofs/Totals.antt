-- Sums over the numbers below a bound, and how often a number lies in a stretch.
use Rattle.std.proofs.Common.{◌≡◌, ◌≢◌, ℕ, zero, suc, ◌+◌, ◌*◌, ◌-◌, ◌<◌, ◌≤◌, ◌&&◌, if◌then◌else◌, leb, ltb, refl, sym, ap, ap₂, ◌∙◌, inl, inr, arith}
use Rattle.std.proofs.Math.Nat.{suc-mul}
use Rattle.std.proofs.lemmas.Bool.{cases_eq, cases_lt, cond-true, cond-false, le-leb, lt-leb, lt-ltb, le-ltb, and_from, and_left, and_right}

abbrev pub total : (ℕ → ℕ) → ℕ → ℕ
total f zero = 0
total f (suc m) = total f m + f m

pub total-same : (f h : ℕ → ℕ) (m : ℕ) → ((k : ℕ) → k < m → f k ≡ h k) → total f m ≡ total h m
total-same f h zero e = refl
total-same f h (suc m) e = ap₂ (λ a b. a + b) (total-same f h m (λ k l. e k (omega arith))) (e m (omega arith))

total-add : (f h : ℕ → ℕ) (m : ℕ) → total (λ k. f k + h k) m ≡ total f m + total h m
total-add f h zero = refl
total-add f h (suc m) = omega (arith, total-add f h m)

pub total-const : (size m : ℕ) → total (λ k. size) m ≡ m * size
total-const size zero = omega arith
total-const size (suc m) = omega (arith, total-const size m, suc-mul m size)

total-none : (f : ℕ → ℕ) (m : ℕ) → ((k : ℕ) → k < m → f k ≡ 0) → total f m ≡ 0
total-none f zero e = refl
total-none f (suc m) e = omega (arith, total-none f m (λ k l. e k (omega arith)), e m (omega arith))

-- two sums may be exchanged
pub total-swap : (f : ℕ → ℕ → ℕ) (m p : ℕ) → total (λ v. total (f v) p) m ≡ total (λ a. total (λ v. f v a) m) p
total-swap f zero p = sym (total-none (λ a. 0) p (λ k l. refl))
total-swap f (suc m) p = ap (λ x. x + total (f m) p) (total-swap f m p) ∙ sym (total-add (λ a. total (λ v. f v a) m) (f m) p)

-- just one of them is 1
pub total-one : (f : ℕ → ℕ) (m v : ℕ) → v < m → f v ≡ 1 → ((u : ℕ) → u < m → u ≢ v → f u ≡ 0) → total f m ≡ 1
total-one f zero v l e h = absurd (omega arith)
total-one f (suc m) v l e h = elim (cases_eq v m) [
  | inl same ↦ omega (arith, total-none f m (λ k o. h k (omega arith) (λ x. omega arith)), ap f same)
  | inr ne ↦ omega (arith, total-one f m v (omega arith) e (λ u o d. h u (omega arith) d), h m (omega arith) (λ x. omega arith))
]

-- a size at each number of a stretch, and 0 elsewhere
unfoldable pub stretch : ℕ → ℕ → ℕ → ℕ → ℕ
stretch lo hi size a = if leb lo a && ltb a hi then size else 0

pub stretch-in : (lo hi size a : ℕ) → lo ≤ a → a < hi → stretch lo hi size a ≡ size
unfolding stretch
stretch-in lo hi size a l m = cond-true _ size 0 (and_from (leb lo a) (ltb a hi) (le-leb lo a l) (lt-ltb a hi m))

pub stretch-below : (lo hi size a : ℕ) → a < lo → stretch lo hi size a ≡ 0
unfolding stretch
stretch-below lo hi size a l = cond-false _ size 0 (and_left (leb lo a) (ltb a hi) (lt-leb lo a l))

pub stretch-above : (lo hi size a : ℕ) → hi ≤ a → stretch lo hi size a ≡ 0
unfolding stretch
stretch-above lo hi size a l = cond-false _ size 0 (and_right (leb lo a) (ltb a hi) (le-ltb a hi l))

-- sums over a stretch
total-within : (lo hi size d : ℕ) → lo + d ≤ hi → total (stretch lo hi size) (lo + d) ≡ d * size
total-within lo hi size zero l =
    let e : lo + 0 ≡ lo = omega arith in
    ap (total (stretch lo hi size)) e ∙ total-none (stretch lo hi size) lo (λ k m. stretch-below lo hi size k m) ∙ omega arith
total-within lo hi size (suc d) l =
    let e : lo + suc d ≡ suc (lo + d) = omega arith in
    ap (total (stretch lo hi size)) e ∙ omega (arith, total-within lo hi size d (omega arith), stretch-in lo hi size (lo + d) (omega arith) (omega arith), suc-mul d size)

total-beyond : (lo hi size d : ℕ) → lo ≤ hi → total (stretch lo hi size) (hi + d) ≡ (hi - lo) * size
total-beyond lo hi size zero l = let e : hi + 0 ≡ lo + (hi - lo) = omega arith in ap (total (stretch lo hi size)) e ∙ total-within lo hi size (hi - lo) (omega arith)
total-beyond lo hi size (suc d) l =
    let e : hi + suc d ≡ suc (hi + d) = omega arith in
    ap (total (stretch lo hi size)) e ∙ omega (arith, total-beyond lo hi size d l, stretch-above lo hi size (hi + d) (omega arith))

pub total-stretch : (lo hi size m : ℕ) → lo ≤ hi → hi ≤ m → total (stretch lo hi size) m ≡ (hi - lo) * size
total-stretch lo hi size m l o = let e : m ≡ hi + (m - hi) = omega arith in ap (total (stretch lo hi size)) e ∙ total-beyond lo hi size (m - hi) l

-- a sum within a stretch
pub stretch-total : (lo hi : ℕ) (f : ℕ → ℕ) (a m : ℕ) → total (λ c. stretch lo hi (f c) a) m ≡ stretch lo hi (total f m) a
stretch-total lo hi f a m = grind (arith, cases_lt, total-none, stretch-below, total, total-same, stretch-in, stretch-above)
