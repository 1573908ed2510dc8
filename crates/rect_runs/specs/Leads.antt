-- Vertices of the contour that lead: their left sides are behind those of all before them, or their lower sides above those of all behind them.
use Rattle.std.specs.Prelude.{ℕ, ◌<◌, ◌≤◌, ◌≡◌, Bool, true, false}
use Rattle.contour_runs.specs.Runs.{Stage}

-- Just those are marked whose number is greater than those of all vertices before them; another one has before it a vertex whose number is no less.
pub record AreLeft (g : Stage) (x : ℕ → ℕ) (lead : ℕ → Bool) : Type 0 where
  pub yes : (i j : ℕ) → i < g.width → lead (g.vertex i) ≡ true → j < i → x (g.vertex j) < x (g.vertex i)
  pub no : (i : ℕ) → i < g.width → lead (g.vertex i) ≡ false → (j : ℕ) × (j < i) × (x (g.vertex i) ≤ x (g.vertex j))

-- Exactly those are marked whose number is greater than those of all vertices after them; another one has after it a vertex whose number is no less.
pub record AreLower (g : Stage) (y : ℕ → ℕ) (lead : ℕ → Bool) : Type 0 where
  pub yes : (i j : ℕ) → j < g.width → lead (g.vertex i) ≡ true → i < j → y (g.vertex j) < y (g.vertex i)
  pub no : (i : ℕ) → i < g.width → lead (g.vertex i) ≡ false → (j : ℕ) × (i < j) × (j < g.width) × (y (g.vertex i) ≤ y (g.vertex j))
