-- What each later stage keeps.
use Rattle.std.proofs.Common.{◌≡◌, ℕ, zero, suc, ◌<◌, ◌≤◌, subst, inl, inr, arith}
use Rattle.std.proofs.lemmas.Bool.{cases_lt}

pub upward : (P : ℕ → Type 0) (m n : ℕ) → m ≤ n → P m → ((k : ℕ) → m ≤ k → k < n → P k → P (suc k)) → P n
upward P m zero l p more = let e : m ≡ zero = omega arith in subst P e p
upward P m (suc n) l p more = elim (cases_lt m (suc n)) [
  | inr top ↦ let e : m ≡ suc n = omega arith in subst P e p
  | inl below ↦ more n (omega arith) (omega arith) (upward P m n (omega arith) p (λ k a b. more k a (omega arith)))
]
