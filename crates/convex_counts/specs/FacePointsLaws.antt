-- The laws of points by counts of faces.
use Rattle.std.specs.Prelude.{ℕ, suc, ◌<◌, ◌≤◌, ◌≡◌}
use Rattle.contour_runs.specs.FaceRuns.{Step, stage_after}
use Rattle.convex_counts.specs.Counts.{face_counts, IsLeft, IsRight, IsTurnedRun}

-- A whole run turns well, and its last contour goes right up to the last vertex, and left from it on.
pub record IsWholeRun (steps : ℕ → Step) (n : ℕ) : Type 0 where
  pub turned : IsTurnedRun steps n
  pub top : ℕ
  pub within : top < (stage_after steps n).width
  pub last : suc ((stage_after steps n).vertex top) ≡ (stage_after steps n).count
  pub right : (j : ℕ) → j < top → IsRight (stage_after steps n) (face_counts steps n) j
  pub left : (j : ℕ) → top ≤ j → suc j < (stage_after steps n).width → IsLeft (stage_after steps n) (face_counts steps n) j
