-- Sums over numbers that are named anew.
use Rattle.std.proofs.Common.{◌≡◌, ◌≢◌, ℕ, zero, suc, ◌*◌, ◌-◌, ◌<◌, sym, ap, ◌∙◌, inl, inr, arith}
use Rattle.std.proofs.lemmas.Bool.{cases_eq, cases_lt}
use Rattle.rect_runs.proofs.Totals.{total, total-same, total-const, total-swap, total-stretch, stretch, stretch-in, stretch-below, stretch-above}

-- just one of them is not 0
total-single : (f : ℕ → ℕ) (m v : ℕ) → v < m → ((u : ℕ) → u < m → u ≢ v → f u ≡ 0) → total f m ≡ f v
total-single f zero v l h = absurd (omega arith)
total-single f (suc m) v l h = elim (cases_eq v m) [
  | inl e ↦
      omega (arith, total-same f (λ k. 0) m (λ k o. h k (omega arith) (λ q. omega arith)), total-const 0 m, ap f e)
  | inr ne ↦ omega (arith, total-single f m v (omega arith) (λ u o d. h u (omega arith) d), h m (omega arith) (λ q. omega arith))
]

-- A sum depends on no names: where each number below m is the name of one number.
pub total-renamed : (f name back : ℕ → ℕ) (m : ℕ) → ((v : ℕ) → v < m → name v < m) → ((i : ℕ) → i < m → back i < m) → ((i : ℕ) → i < m → name (back i) ≡ i) → ((v : ℕ) → v < m → back (name v) ≡ v) → total (λ v. f (name v)) m ≡ total f m
total-renamed f name back m within within' there here =
    total-same (λ v. f (name v)) (λ v. total (λ i. at v i) m) m
    (λ v l.
    let size : suc (name v) - name v ≡ 1 = omega arith in
    sym (total-stretch (name v) (suc (name v)) (f (name v)) m (omega arith) (omega arith) ∙ (ap (λ c. c * f (name v)) size ∙ omega arith)))
    ∙ total-swap (λ v i. at v i) m m
    ∙ total-same (λ i. total (λ v. at v i) m) f m
    (λ i l.
    total-single (λ v. at v i) m (back i) (within' i l) (λ u o ne. off u i (λ q. ne (sym (here u o) ∙ ap back q)))
    ∙ stretch-in (name (back i)) (suc (name (back i))) (f (name (back i))) i (omega arith) (omega arith) ∙ ap f (there i l))
  where
    at : ℕ → ℕ → ℕ
    at v i = stretch (name v) (suc (name v)) (f (name v)) i

    off : (v i : ℕ) → name v ≢ i → at v i ≡ 0
    off v i ne = elim (cases_lt i (name v)) [
      | inl l ↦ stretch-below (name v) (suc (name v)) (f (name v)) i l
      | inr l ↦ stretch-above (name v) (suc (name v)) (f (name v)) i (omega (arith, l, ne))
    ]
