-- Marks that are set one after another, and what a number tells that has its mark already.
use Rattle.std.specs.Prelude.{ℕ, ◌<◌, ◌≤◌, ◌≡◌, List, slice_index}

-- The numbers in Z got the mark u; neither u nor one of them that had it before is less than `result`. Those that had it have it still.
pub record IsStamped (u : ℕ) (Z : ℕ → Type 0) (old : List ℕ) (best : ℕ) (new : List ℕ) (result : ℕ) : Type 0 where
  pub lower : result ≤ best
  pub again : (z : ℕ) → Z z → slice_index old z ≡ u → (result ≤ u) × (result ≤ z)
  pub set : (z : ℕ) → Z z → slice_index new z ≡ u
  pub kept : (z : ℕ) → slice_index old z ≡ u → slice_index new z ≡ u

-- `IsStamped` for all numbers in the sets of k steps. Where two sets have a number in common, neither it nor u is less than `result`.
pub record AreStamped (u k : ℕ) (Z : ℕ → ℕ → Type 0) (old : List ℕ) (best : ℕ) (new : List ℕ) (result : ℕ) : Type 0 where
  pub all : IsStamped u (λ z. (i : ℕ) × (i < k) × Z i z) old best new result
  pub apart : (i j z : ℕ) → i < j → j < k → Z i z → Z j z → (result ≤ u) × (result ≤ z)
