-- The inverse of a bijection of the numbers below k.
use Rattle.std.proofs.Common.{◌≡◌, ◌⊎◌, ℕ, ◌<◌, Bool, true, false, eqb, refl, inl, inr, arith, eq-eqb, eqb-true}
use Rattle.classes.proofs.Orbits.{IsPermuting, count_below-images}
use Rattle.pg_plane.proofs.Counts.{count_none, count_one}
use Rattle.pg_plane.proofs.Round.{find_below}

-- by a search
abbrev pub found_or : (k : ℕ) (p : ℕ → Bool) → ((i : ℕ) × (i < k) × (p i ≡ true)) ⊎ ((i : ℕ) → i < k → p i ≡ false) → ℕ
found_or k p (inl found) = found.0
found_or k p (inr none) = 0

pub inverse : (ℕ → ℕ) → ℕ → ℕ → ℕ
inverse f k i = found_or k (λ j. eqb (f j) i) (find_below (λ j. eqb (f j) i) k)

pub inverse-is : (f : ℕ → ℕ) (k : ℕ) → IsPermuting f k → (i : ℕ) → i < k → (inverse f k i < k) × (f (inverse f k i) ≡ i)
unfolding inverse
inverse-is f k w i l = by_cases (find_below (λ j. eqb (f j) i) k)
  where
    by_cases : (c : ((j : ℕ) × (j < k) × (eqb (f j) i ≡ true)) ⊎ ((j : ℕ) → j < k → eqb (f j) i ≡ false)) → (found_or k (λ j. eqb (f j) i) c < k) × (f (found_or k (λ j. eqb (f j) i) c) ≡ i)
    by_cases (inl found) = (found.1, eqb-true (f found.0) i found.2)
    by_cases (inr none) =
        let one = count_one (λ j. eqb j i) k i l (eq-eqb i i refl) in
        absurd (omega (arith, count_below-images f k w (λ j. eqb j i), count_none (λ j. eqb (f j) i) k none))
