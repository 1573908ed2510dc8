-- The turns of a run as tables, and what is kept while they are filled.
use Rattle.std.specs.Prelude.{ℕ, ◌+◌, ◌<◌, ◌≤◌, ◌≡◌, ◌⊎◌, Bool, true, false, List, length, slice_index}
use Rattle.contour_runs.specs.Runs.{Step}
use Rattle.rect_runs.specs.Numbers.{turn_of, turns_at_run}
use Rattle.canon_order.specs.Marks.{is_set}

-- c is the first place of a row whose vertex has a run behind it, or else the last but one
pub record IsTurnIn (row : List ℕ) (runs : List Bool) (c : ℕ) : Type 0 where
  pub high : c + 2 ≤ length row
  pub rises : (j : ℕ) → j < c → is_set runs (slice_index row j) ≡ false
  pub end : (c + 2 ≡ length row) ⊎ (is_set runs (slice_index row c) ≡ true)

-- for each of the first n steps the place of its turn, counted from the step's first, and whether it is a run
pub record AreTurns (steps : ℕ → Step) (n : ℕ) (places : List ℕ) (at_runs : List Bool) : Type 0 where
  pub count : length places ≡ n
  pub count_runs : length at_runs ≡ n
  pub place : (k : ℕ) → k < n → (steps k).first + slice_index places k ≡ turn_of steps k
  pub run : (k : ℕ) → k < n → is_set at_runs k ≡ turns_at_run steps k
