-- Darts that are those of a run: each leaves a vertex of the run, and is on a face that it makes or outside.
use Rattle.std.specs.Prelude.{ℕ, ◌+◌, ◌<◌, ◌≡◌, ◌⊎◌}
use Rattle.contour_runs.specs.FaceRuns.{Step, stage_after, IsDartOf, faces_made}
use Rattle.contour_runs.specs.FaceRunsLaws.{GoesAlong}

-- The dart from x to y is on face i of the step s. Faces are numbered in the order in which they are made.
pub record IsMadeDart (steps : ℕ → Step) (n x y face : ℕ) : Type 0 where
  pub step : ℕ
  pub place : ℕ
  pub earlier : step < n
  pub dart : IsDartOf (stage_after steps step) (steps step) place x y
  pub number : face ≡ faces_made steps step + place

-- It is on the outer face, which has the number after theirs: along the last contour, or the base, from the second vertex to the first.
pub record IsOuterDart (steps : ℕ → Step) (n x y face : ℕ) : Type 0 where
  pub place : ℕ
  pub along : GoesAlong (stage_after steps n) x y place
  pub number : face ≡ faces_made steps n

-- the dart of the base itself, which is on the face with the last number
pub record IsBaseDart (steps : ℕ → Step) (n x y face : ℕ) : Type 0 where
  pub tail : x ≡ 1
  pub head : y ≡ 0
  pub number : face ≡ faces_made steps n

-- the dart (x, y) is on the face with this number: one that the run makes, or the outer one, which has the last number
abbrev pub IsRunDart : (ℕ → Step) → ℕ → ℕ → ℕ → ℕ → Type 0
IsRunDart steps n x y face = IsMadeDart steps n x y face ⊎ (IsOuterDart steps n x y face ⊎ IsBaseDart steps n x y face)
