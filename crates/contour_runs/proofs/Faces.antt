-- No two faces that a run makes have a dart in common.
use Rattle.std.proofs.Common.{◌≡◌, ◌⊎◌, ℕ, suc, ◌+◌, ◌-◌, ◌<◌, refl, sym, ap, ◌∙◌, subst, inl, inr, arith}
use Rattle.contour_runs.specs.Runs.{Step, Stage, after, stage_after, IsStep, IsRun, IsDartOf}
use Rattle.contour_runs.specs.Laws.{IsStage}
use Rattle.contour_runs.specs.FaceRuns as face_runs
use Rattle.contour_runs.specs.FaceRunsLaws.{GoesAlong}
use Rattle.contour_runs.specs.Fans.{fan, fans, AreOneStage, IsRunOfFans}
use Rattle.contour_runs.proofs.FaceRunsFaces as face_lemmas
use Rattle.contour_runs.proofs.FaceRunsStages as face_stages
use Rattle.contour_runs.proofs.Fans.{fan-step, one_stage-after, one_stage-same, one_stage-run, run-fan}

-- what goes along the contour after a step went along it before, or is one of the two darts at the new vertex
pub cases_along : (g : Stage) (s : Step) (h : IsStage g) (step : IsStep g s) (x y i : ℕ) → GoesAlong (after g s) x y i → face_lemmas.IsBeside g (fan s) x y ⊎ (((x ≡ g.vertex s.first) × (y ≡ g.count)) ⊎ ((x ≡ g.count) × (y ≡ g.vertex s.last)))
cases_along g s h step x y i a =
    let one = one_stage-after g g s step (one_stage-same g) in
    let m : suc i < (face_runs.after g (fan s)).width = omega (arith, one.width) in
    let head = sym (one.vertex (suc i)) ∙ a.head in
    let small = (face_stages.IsStage-after g (fan s) h (fan-step g s step)).placed (suc i) m in
    elim (face_lemmas.cases_along g (fan s) h (fan-step g s step) x y i record { within = m; tail = sym (one.vertex i) ∙ a.tail; head = head }) [
      | inl b ↦ inl b
      | inr (inl b) ↦ inr (inl (b.tail, b.head))
      | inr (inr (inl b)) ↦ let n = b.next in let o = b.new in absurd (omega (arith, head))
      | inr (inr (inr b)) ↦ let t = b.tail in inr (inr (omega arith, b.head))
    ]

-- a dart of a face, and the same dart as one of a fan
module _ (steps : ℕ → Step) (k : ℕ) (h : Stage) (one : AreOneStage (stage_after steps k) h) (i x y : ℕ) where
  abbrev s : Step
  s = steps k

  next_cut : s.first + suc i ≡ suc (s.first + i)
  next_cut = omega arith

  dart-fan : IsDartOf steps k (s.first + i) x y → face_runs.IsDartOf h (fan s) i x y
  dart-fan d = grind (arith, next_cut)

  fan-dart : face_runs.IsDartOf h (fan s) i x y → IsDartOf steps k (s.first + i) x y
  fan-dart d = grind (arith, stage_after, next_cut)

pub run_of_fans : (steps : ℕ → Step) (n : ℕ) → IsRun steps n → IsRunOfFans steps n
run_of_fans steps n run = grind (arith, run-fan, one_stage-run, stage_after, fans, dart-fan, fan-dart)

pub face_made_once : (steps : ℕ → Step) (n : ℕ) → IsRun steps n → (k l i j x y : ℕ) → k < n → l < n → IsDartOf steps k i x y → IsDartOf steps l j x y → (k ≡ l) × (i ≡ j)
face_made_once steps n run k l i j x y a b d e =
    let fans_run = run_of_fans steps n run in
    let at : i ≡ (steps k).first + (i - (steps k).first) = omega arith in
    let at' : j ≡ (steps l).first + (j - (steps l).first) = omega arith in
    let same = face_lemmas.face_made_once (fans steps) n k l (i - (steps k).first) (j - (steps l).first) x y fans_run.run a b
    ((fans_run.darts k (i - (steps k).first) x y a).0 (subst (λ z. IsDartOf steps k z x y) at d))
    ((fans_run.darts l (j - (steps l).first) x y b).0 (subst (λ z. IsDartOf steps l z x y) at' e)) in
    (same.0, omega (arith, same.1, ap (λ z. (steps z).first) same.0))
