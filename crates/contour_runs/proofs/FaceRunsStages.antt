-- Stages along a run.
use Rattle.std.proofs.Common.{◌≡◌, ℕ, zero, suc, ◌+◌, ◌-◌, ◌<◌, ◌≤◌, refl, ◌∙◌, arith}
use Rattle.std.proofs.lemmas.Bool.Decides.{nat_tests}
use Rattle.contour_runs.specs.Runs.{Stage, base}
use Rattle.contour_runs.specs.Laws.{IsStage}
use Rattle.contour_runs.proofs.Upward.{upward}
use Rattle.contour_runs.specs.FaceRuns.{Step, moved, vertex_after, place_after, after, stage_after, IsStep, IsRun}
use Rattle.contour_runs.proofs.FaceRunsPlaces.{turn-le, order, first_turn, last_turn, vertex_after-high}

-- the base
pub IsStage-base : IsStage base
IsStage-base = grind arith

-- a step from a stage
module _ (g : Stage) (s : Step) (h : IsStage g) (step : IsStep g s) where
  -- a place that stays on the contour keeps its vertex
  pub moved-low : (i : ℕ) → i ≤ s.first → moved s i ≡ i
  unfolding moved
  moved-low i l = grind (arith, nat_tests)

  pub moved-high : (i : ℕ) → s.last ≤ i → moved s i + s.last ≡ i + s.first + s.vertices + 1
  unfolding moved
  moved-high i l =
      grind (arith, turn-le g s step 0 (s.faces - 1) (omega arith) (let some = step.some_face in omega arith), nat_tests)

  pub moved-within : (i : ℕ) → i < g.width → moved s i < (after g s).width
  unfolding moved
  moved-within i l =
      grind (arith, nat_tests)

  pub IsStage-after : IsStage (after g s)
  unfolding vertex_after place_after
  IsStage-after =
      let o = order g s step in
      let few = h.few in
      record {
        wide = omega arith;
        few = omega arith;
        begin = grind (arith, nat_tests, h.begin);
        end = λ i e. let z = h.end (g.width - 1) (omega arith) in vertex_after-high g s i (g.width - 1) (omega arith) (omega arith) ∙ z;
        placed = λ i l.
            grind (arith, nat_tests);
        own = λ i l.
            let j : ℕ = i + s.last - (s.first + s.vertices + 1) in
            let n = moved-high j in
            grind (arith, moved-low i, nat_tests);
        within = λ v l.
            grind (arith, moved-within (g.place v), nat_tests);
      }

-- the first steps of a run are a run
pub IsRun-less : (steps : ℕ → Step) (m n : ℕ) → m ≤ n → IsRun steps n → IsRun steps m
IsRun-less steps m n l h = λ k b. h k (omega arith)

pub IsStage-run : (steps : ℕ → Step) (n : ℕ) → IsRun steps n → IsStage (stage_after steps n)
IsStage-run steps zero h = IsStage-base
IsStage-run steps (suc n) h = IsStage-after (stage_after steps n) (steps n) (IsStage-run steps n (IsRun-less steps n (suc n) (omega arith) h)) (h n (omega arith))

-- vertices only come
pub count-le : (steps : ℕ → Step) (m n : ℕ) → m ≤ n → (stage_after steps m).count ≤ (stage_after steps n).count
count-le steps m n l = upward (λ k. (stage_after steps m).count ≤ (stage_after steps k).count) m n l (omega arith) (λ k a b c. omega arith)
