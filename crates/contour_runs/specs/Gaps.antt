-- The coordinates by differences, all of which are naturals: what a step does, told by differences along the row of the contour under it.
use Rattle.std.specs.Prelude.{ℕ, suc, ◌+◌, ◌<◌, ◌≡◌}
use Rattle.contour_runs.specs.Runs.{Step, stage_after, IsRun}
use Rattle.contour_runs.specs.Wood.{Coordinates, coordinates}

-- v stands to u as before
pub record KeepsDifferences (before after : Coordinates) (u v : ℕ) : Type 0 where
  pub one : after.one u + before.one v ≡ before.one u + after.one v
  pub two : after.two u + before.two v ≡ before.two u + after.two v

-- Vertices of one place keep their differences over a step.
abbrev pub DifferencesKept : Type 0
DifferencesKept =
    (steps : ℕ → Step) (n u v : ℕ) → IsRun steps (suc n) → u < n + 2 → v < n + 2 → (stage_after steps n).place u ≡ (stage_after steps n).place v → KeepsDifferences (coordinates steps n) (coordinates steps (suc n)) u v
