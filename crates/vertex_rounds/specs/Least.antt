-- The least ids with a property: by the first, then by the second, and so on.
use Rattle.std.specs.Prelude.{ℕ, ◌<◌}

-- the least number with a property
pub record IsLeast (P : ℕ → Type 0) (x : ℕ) : Type 0 where
  pub here : P x
  pub before : (y : ℕ) → y < x → ¬ P y

-- the least two numbers
pub record IsLeastPair (P : ℕ → ℕ → Type 0) (x y : ℕ) : Type 0 where
  pub before : (z w : ℕ) → z < x → ¬ P z w
  pub rest : IsLeast (P x) y

-- the least three numbers
pub record IsLeastTriple (P : ℕ → ℕ → ℕ → Type 0) (x y z : ℕ) : Type 0 where
  pub before : (w s t : ℕ) → w < x → ¬ P w s t
  pub rest : IsLeastPair (P x) y z

-- the least four numbers
pub record IsLeastFour (P : ℕ → ℕ → ℕ → ℕ → Type 0) (x y z w : ℕ) : Type 0 where
  pub before : (r s t u : ℕ) → r < x → ¬ P r s t u
  pub rest : IsLeastTriple (P x) y z w
