-- When no run comes before a rise under a step: where each covered vertex has two later neighbours.
use Rattle.std.specs.Prelude.{ℕ, ◌+◌, ◌<◌, ◌≤◌, ◌≡◌}
use Rattle.contour_runs.specs.Runs.{Step, stage_after, IsRun, IsCovered}
use Rattle.rect_runs.specs.Labels.{IsLabelledRun}

-- Step k puts v on over the vertex u of the contour, whether or not it covers it.
pub record StandsOver (steps : ℕ → Step) (k u v : ℕ) : Type 0 where
  pub new : v ≡ k + 2
  pub place : ℕ
  pub low : (steps k).first ≤ place
  pub high : place ≤ (steps k).last
  pub vertex : (stage_after steps k).vertex place ≡ u

-- each vertex that one of n steps covers was under an earlier step too
abbrev pub HaveTwoLater : (ℕ → Step) → ℕ → Type 0
HaveTwoLater steps n = (k v : ℕ) → k < n → IsCovered steps k v → (m : ℕ) × (m < k) × StandsOver steps m v (m + 2)

-- A run of steps in which each covered vertex has two later neighbours is labelled.
abbrev pub TwoLaterSort : Type 0
TwoLaterSort = (steps : ℕ → Step) (n : ℕ) → IsRun steps n → HaveTwoLater steps n → IsLabelledRun steps n
