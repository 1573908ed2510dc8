-- The least and the greatest number of a row, and lists of them as whole numbers.
use Rattle.std.specs.Prelude.{ℕ, ◌<◌, ◌≤◌, ◌≡◌, List, length, slice_index, slice_index_or, ℤ, pos}
use Rattle.graph_search.specs.Arcs.{arcs_of}

-- x is the least number of a row
pub record IsLeastOf (row : List ℕ) (x : ℕ) : Type 0 where
  pub most : (i : ℕ) → i < length row → x ≤ slice_index row i
  pub one : (i : ℕ) × (i < length row) × (slice_index row i ≡ x)

-- x is the greatest number of a row
pub record IsGreatestOf (row : List ℕ) (x : ℕ) : Type 0 where
  pub least : (i : ℕ) → i < length row → slice_index row i ≤ x
  pub one : (i : ℕ) × (i < length row) × (slice_index row i ≡ x)

-- for each row such a number
pub record AreEnds (rows : List (List ℕ)) (IsEnd : List ℕ → ℕ → Type 0) (ends : List ℤ) : Type 0 where
  pub count : length ends ≡ length rows
  pub each : (v : ℕ) → v < length rows → (x : ℕ) × IsEnd (arcs_of rows v) x × (slice_index_or ends v (pos 0) ≡ pos x)
