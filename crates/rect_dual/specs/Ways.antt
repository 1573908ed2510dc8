-- Ways along a table of links, and what is marked along them.
use Rattle.std.specs.Prelude.{ℕ, suc, ◌<◌, ◌≤◌, ◌≡◌, Bool, true, false, List, slice_index, slice_index_or}

-- the mark of v, in a list of marks
abbrev pub is_marked : List Bool → ℕ → Bool
is_marked marks v = slice_index_or marks v false

-- m links lead from each place of a way to the next
abbrev pub IsWay : List ℕ → (ℕ → ℕ) → ℕ → Type 0
IsWay links way m = (j : ℕ) → j < m → slice_index links (way j) ≡ way (suc j)

-- v is the first that is marked along a way, up to its place m
pub record IsFirstAlong (marks : List Bool) (way : ℕ → ℕ) (m v : ℕ) : Type 0 where
  pub place : ℕ
  pub within : place ≤ m
  pub vertex : v ≡ way place
  pub here : is_marked marks (way place) ≡ true
  pub before : (j : ℕ) → j < place → is_marked marks (way j) ≡ false
