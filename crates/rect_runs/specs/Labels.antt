-- Labels of the edges of a contour. Edge i joins the places i and i + 1. It is a run, which leads to the later place, or a rise, which leads to the earlier one.
use Rattle.std.specs.Prelude.{ℕ, zero, suc, ◌+◌, ◌-◌, ◌<◌, ◌≤◌, ◌≡◌, ◌==◌, nat_lt, if◌then◌else◌, Bool, true, false}
use Rattle.contour_runs.specs.Runs.{Step, IsRun}

-- the labels after a step, true for a run: a run leads to the new vertex, and behind it a rise
unfoldable pub labels_after : Step → (ℕ → Bool) → ℕ → Bool
labels_after s label i = if nat_lt i s.first then label i else if i == s.first then true else if i == suc s.first then false else label (i + s.last - (s.first + 2))

-- the labels after the first k steps; the base is a rise
abbrev pub labels : (ℕ → Step) → ℕ → ℕ → Bool
labels steps zero = λ i. false
labels steps (suc k) = labels_after (steps k) (labels steps k)

-- the first of d edges from i on that is a run, or else the edge behind them
abbrev pub first_run : (ℕ → Bool) → ℕ → ℕ → ℕ
first_run label i zero = i
first_run label i (suc d) = if label i then i else first_run label (suc i) d

-- The turn of a step: the first edge under it that is a run, or else the last. What stands up to place `turn` is left of the new vertex, what stands behind it is below.
abbrev pub turn : (ℕ → Bool) → Step → ℕ
turn label s = first_run label s.first (s.last - suc s.first)

-- under a step no run is followed by a rise
abbrev pub IsSorted : (ℕ → Bool) → Step → Type 0
IsSorted label s = (i : ℕ) → s.first ≤ i → suc i < s.last → label i ≡ true → label (suc i) ≡ true

-- a run of n steps of which each is so
pub record IsLabelledRun (steps : ℕ → Step) (n : ℕ) : Type 0 where
  pub run : IsRun steps n
  pub sorted : (k : ℕ) → k < n → IsSorted (labels steps k) (steps k)
