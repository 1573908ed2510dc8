-- The edges from a row of new vertices to the contour at both of its ends: along the first coordinate two does not rise to the contour, along the last coordinate one does not.
use Rattle.std.proofs.Common.{◌≡◌, ℕ, suc, ◌+◌, ◌<◌, ◌≤◌, ap, ◌∙◌, arith}
use Rattle.contour_runs.specs.Runs.{Stage}
use Rattle.contour_runs.specs.Laws.{IsStage}
use Rattle.contour_runs.specs.Wood.{Coordinates}
use Rattle.contour_runs.specs.FaceRuns.{Step, moved, after, stage_after, IsStep, IsRun}
use Rattle.contour_runs.proofs.FaceRunsPlaces.{order, moved-le, place_after-older, place_after-new}
use Rattle.contour_runs.proofs.FaceRunsStages.{IsStage-run, IsRun-less, moved-low, moved-high}
use Rattle.convex_counts.specs.Counts.{counts_after, face_counts}
use Rattle.convex_counts.proofs.Gains.{gain-le, gain-low, gain-high, one_after-older, two_after-older, one_after-new, two_after-new, one_after-contour, two_after-contour}
use Rattle.convex_counts.proofs.Kept.{kept_on}

record KeepsTwo (g : Stage) (at : Coordinates) (a b : ℕ) : Type 0 where
  pub two : at.two b ≤ at.two a
  pub place : g.place b ≤ g.place a

record KeepsOne (g : Stage) (at : Coordinates) (a b : ℕ) : Type 0 where
  pub one : at.one b ≤ at.one a
  pub place : g.place a ≤ g.place b

KeepsTwo-after : (g : Stage) (s : Step) (at : Coordinates) (a b : ℕ) → IsStep g s → a < g.count → b < g.count → KeepsTwo g at a b → KeepsTwo (after g s) (counts_after g s at) a b
KeepsTwo-after g s at a b step la lb k =
    let e = gain-le s (g.place b) (g.place a) k.place in
    let m = moved-le g s step (g.place b) (g.place a) k.place in
    record {
      two = omega (arith, two_after-older g s at a la, two_after-older g s at b lb);
      place = omega (arith, place_after-older g s a la, place_after-older g s b lb);
    }

KeepsOne-after : (g : Stage) (s : Step) (at : Coordinates) (a b : ℕ) → IsStep g s → a < g.count → b < g.count → KeepsOne g at a b → KeepsOne (after g s) (counts_after g s at) a b
KeepsOne-after g s at a b step la lb k =
    let e = gain-le s (g.place a) (g.place b) k.place in
    let m = moved-le g s step (g.place a) (g.place b) k.place in
    record {
      one = omega (arith, one_after-older g s at a la, one_after-older g s at b lb);
      place = omega (arith, place_after-older g s a la, place_after-older g s b lb);
    }

module _ (steps : ℕ → Step) (n k : ℕ) (run : IsRun steps n) (l : k < n) where
  abbrev g : Stage
  g = stage_after steps k

  abbrev s : Step
  s = steps k

  abbrev was : Coordinates
  was = face_counts steps k

  stage : IsStage g
  stage = IsStage-run steps k (IsRun-less steps k n (omega arith) run)

  pub two_at_first : (face_counts steps n).two (g.vertex s.first) ≤ (face_counts steps n).two g.count
  two_at_first =
      let step = run k l in
      let o = order g s step in
      let p = stage.placed s.first (omega arith) in
      (kept_on KeepsTwo KeepsTwo-after steps n k g.count (g.vertex s.first) run l (omega arith) (omega arith)
      record {
        two = omega (arith, two_after-contour g s was stage step s.first (omega arith), gain-low g s step s.first (omega arith), two_after-new g s was g.count (omega arith));
        place = omega (arith, place_after-older g s (g.vertex s.first) p ∙ ap (moved s) (stage.own s.first (omega arith)) ∙ moved-low g s stage step s.first (omega arith), place_after-new g s g.count (omega arith));
      }).two

  pub one_at_last : (y : ℕ) → g.count + s.vertices ≡ suc y → (face_counts steps n).one (g.vertex s.last) ≤ (face_counts steps n).one y
  one_at_last y e =
      let step = run k l in
      let w = step.within in
      let p = stage.placed s.last w in
      (kept_on KeepsOne KeepsOne-after steps n k y (g.vertex s.last) run l (omega arith) (omega arith)
      record {
        one = omega (arith, one_after-contour g s was stage step s.last w, gain-high g s step s.last (omega arith), one_after-new g s was y (omega arith));
        place = omega (arith, place_after-older g s (g.vertex s.last) p ∙ ap (moved s) (stage.own s.last w), moved-high g s stage step s.last (omega arith), place_after-new g s y (omega arith));
      }).one
