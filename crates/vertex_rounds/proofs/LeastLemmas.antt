-- The least of the entries of a list, entry by entry.
use Rattle.std.proofs.Common.{◌≡◌, ℕ, ◌+◌, ◌<◌, List, length, Contains, get_or, sym, ap, subst, ◌∙◌, inl, inr, arith}
use Rattle.std.proofs.lemmas.Bool.{cases_lt}
use Rattle.map_theory.specs.Maps.{place_of}
use Rattle.map_theory.proofs.DartLemmas.{place_of-lt-length, get_or-place_of}
use Rattle.vertex_rounds.specs.Least.{IsLeastPair}

-- what holds of the entries before k, and of entry k, holds of those before k + 1
pub entries_more : (Q : ℕ → Type 0) (us : List ℕ) (k b : ℕ) → get_or us k 0 ≡ b → ((i : ℕ) → i < k → Q (get_or us i 0)) → Q b → (i : ℕ) → i < k + 1 → Q (get_or us i 0)
entries_more Q us k b e below here i l =
    elim (cases_lt i k) [
      | inl less ↦ below i less
      | inr more ↦ (let same : i ≡ k = omega arith in subst Q (sym (ap (λ n. get_or us n 0) same ∙ e)) here)
    ]

-- where an element of a list stands
pub place_in : (us : List ℕ) (x : ℕ) → Contains us x → (i : ℕ) × (i < length us) × (get_or us i 0 ≡ x)
place_in us x c = (place_of x us, place_of-lt-length x us c, get_or-place_of x us 0 (place_of-lt-length x us c))

-- the least two of one property are the least two of another that holds where it does
pub IsLeastPair-alike : (P Q : ℕ → ℕ → Type 0) → ((x y : ℕ) → P x y → Q x y) → ((x y : ℕ) → Q x y → P x y) → (x y : ℕ) → IsLeastPair P x y → IsLeastPair Q x y
IsLeastPair-alike P Q from to x y h = record {
  before = λ s t less q. h.before s t less (to s t q);
  rest = record { here = from x y h.rest.here; before = λ t less q. h.rest.before t less (to x t q) };
}
