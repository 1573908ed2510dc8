-- A table of zeros in three parts.
use Rattle.std.proofs.Common.{◌≡◌, ◌≤◌, ◌-◌, ℕ, List, take, drop, replicate, get_or, ap, ◌∙◌, inl, inr, arith}
use Rattle.std.proofs.lemmas.Bool.{cases_lt}
use Rattle.std.proofs.lemmas.List.{take-replicate, drop-replicate, get_or-replicate, get_or_past, length-replicate}

zero_at : (n x : ℕ) → get_or {A = ℕ} (replicate n 0) x 0 ≡ 0
zero_at n x =
    let zeros : List ℕ = replicate n 0 in
    elim (cases_lt x n) [ inl l ↦ get_or-replicate {A = ℕ} n x 0 0 l | inr past ↦ get_or_past zeros x 0 (omega (arith, past, length-replicate {A = ℕ} n 0)) ]

-- the first n of k zeros and more
pub first_zeros : (n k : ℕ) (all part : List ℕ) → all ≡ replicate k 0 → n ≤ k → part ≡ take n all → part ≡ replicate n 0
first_zeros n k all part e few is = is ∙ (ap (λ (xs : List ℕ). take n xs) e ∙ take-replicate n k 0 few)

-- those of k zeros that are behind the first n
pub last_zeros : (n k : ℕ) (all part : List ℕ) → all ≡ replicate k 0 → part ≡ drop n all → part ≡ replicate (k - n) 0
last_zeros n k all part e is = is ∙ (ap (λ (xs : List ℕ). drop n xs) e ∙ drop-replicate n k 0)

pub zero_in : (n : ℕ) (part : List ℕ) → part ≡ replicate n 0 → (u : ℕ) → get_or part u 0 ≡ 0
zero_in n part e u = ap (λ (xs : List ℕ). get_or xs u 0) e ∙ zero_at n u
