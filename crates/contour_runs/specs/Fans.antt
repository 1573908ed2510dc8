-- A run of insertions as one that makes faces of any size: each step joins its vertex to all places from the first to the last.
use Rattle.std.specs.Prelude.{ℕ, ◌+◌, ◌-◌, ◌<◌, ◌≡◌, ◌↔◌}
use Rattle.contour_runs.specs.Runs.{Step, Stage, stage_after, IsRun, IsDartOf}
use Rattle.contour_runs.specs.FaceRuns as face_runs

-- a face lies over each place of the contour and the next, and turns at the first of these
abbrev pub fan : Step → face_runs.Step
fan s = record { first = s.first; last = s.last; vertices = 1; faces = s.last - s.first; cut = λ i. s.first + i; turn = λ i. s.first + i }

-- the steps as steps that make faces of any size
abbrev pub fans : (ℕ → Step) → ℕ → face_runs.Step
fans steps k = fan (steps k)

-- two stages with one contour, and one place for each placed vertex
pub record AreOneStage (g h : Stage) : Type 0 where
  pub width : g.width ≡ h.width
  pub count : g.count ≡ h.count
  pub vertex : (i : ℕ) → g.vertex i ≡ h.vertex i
  pub place : (v : ℕ) → v < g.count → g.place v ≡ h.place v

-- It is such a run, with the same stages and the same faces, which are counted from the first place of their step.
pub record IsRunOfFans (steps : ℕ → Step) (n : ℕ) : Type 0 where
  pub run : face_runs.IsRun (fans steps) n
  pub stage : AreOneStage (stage_after steps n) (face_runs.stage_after (fans steps) n)
  pub darts : (k i x y : ℕ) → k < n → IsDartOf steps k ((steps k).first + i) x y ↔ face_runs.IsDartOf (face_runs.stage_after (fans steps) k) (fan (steps k)) i x y

-- Each run of insertions is a run that makes faces of any size.
abbrev pub RunOfFans : Type 0
RunOfFans = (steps : ℕ → Step) (n : ℕ) → IsRun steps n → IsRunOfFans steps n
