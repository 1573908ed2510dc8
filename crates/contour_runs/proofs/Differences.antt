-- What a step does to differences.
use Rattle.std.proofs.Common.{◌≡◌, ℕ, suc, ◌+◌, ◌<◌, ap, arith}
use Rattle.contour_runs.specs.Runs.{Step, stage_after, IsRun}
use Rattle.contour_runs.proofs.Stages.{count-stage_after}
use Rattle.contour_runs.specs.Wood.{one_gain, two_gain, coordinates}
use Rattle.contour_runs.specs.Gaps.{KeepsDifferences}
use Rattle.contour_runs.proofs.Steps.{one_after-older, two_after-older}

pub differences_kept : (steps : ℕ → Step) (n u v : ℕ) → IsRun steps (suc n) → u < n + 2 → v < n + 2 → (stage_after steps n).place u ≡ (stage_after steps n).place v → KeepsDifferences (coordinates steps n) (coordinates steps (suc n)) u v
differences_kept steps n u v run l m e = grind (arith, stage_after, coordinates, count-stage_after, two_after-older, one_after-older, one_gain, two_gain)
