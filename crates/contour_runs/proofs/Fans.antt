-- A step of insertion as one that makes faces of any size.
use Rattle.std.proofs.Common.{◌≡◌, ℕ, zero, suc, ◌+◌, ◌-◌, ◌<◌, refl, ap, ◌∙◌, inl, arith}
use Rattle.std.proofs.lemmas.Bool.Decides.{nat_tests}
use Rattle.contour_runs.specs.Runs.{Step, Stage, moved, vertex_after, place_after, after, stage_after, IsStep, IsRun}
use Rattle.contour_runs.specs.Laws.{IsStage}
use Rattle.contour_runs.specs.FaceRuns as face_runs
use Rattle.contour_runs.specs.Fans.{fan, fans, AreOneStage}

pub fan-step : (g : Stage) (s : Step) → IsStep g s → face_runs.IsStep g (fan s)
fan-step g s step = grind arith

-- it moves places as before
moved-fan : (s : Step) → s.first < s.last → (i : ℕ) → moved s i ≡ face_runs.moved (fan s) i
unfolding moved face_runs.moved
moved-fan s o i = grind (arith, nat_tests)

-- one stage goes on to one stage
pub one_stage-after : (g h : Stage) (s : Step) → IsStep g s → AreOneStage g h → AreOneStage (after g s) (face_runs.after h (fan s))
unfolding vertex_after place_after face_runs.vertex_after face_runs.place_after
one_stage-after g h s step one = grind (arith, nat_tests, moved-fan)

pub one_stage-same : (g : Stage) → AreOneStage g g
one_stage-same g = record { width = refl; count = refl; vertex = λ i. refl; place = λ v l. refl }

pub one_stage-run : (steps : ℕ → Step) (n : ℕ) → IsRun steps n → AreOneStage (stage_after steps n) (face_runs.stage_after (fans steps) n)
one_stage-run steps zero run = one_stage-same (stage_after steps 0)
one_stage-run steps (suc n) run = one_stage-after (stage_after steps n) (face_runs.stage_after (fans steps) n) (steps n) (run n (omega arith)) (one_stage-run steps n (λ k l. run k (omega arith)))

pub run-fan : (steps : ℕ → Step) (n : ℕ) → IsRun steps n → face_runs.IsRun (fans steps) n
run-fan steps n run k l = grind (arith, one_stage-run, fan-step, stage_after, fans)

-- what holds at the one stage holds at the other
pub IsStage-one : (g h : Stage) → AreOneStage g h → IsStage h → IsStage g
IsStage-one g h one stage = grind arith
