-- What two vertices of a face have at each later stage, by their sides.
use Rattle.std.proofs.Common.{◌≡◌, ℕ, suc, ◌+◌, ◌<◌, ◌≤◌, ap, inl, inr, arith}
use Rattle.std.proofs.lemmas.Bool.{cases_lt}
use Rattle.contour_runs.specs.Runs.{Stage}
use Rattle.contour_runs.specs.Laws.{IsStage}
use Rattle.contour_runs.specs.Wood.{Coordinates}
use Rattle.contour_runs.specs.Spread.{IsSpread}
use Rattle.contour_runs.specs.FaceRuns.{Step, stage_after, IsStep, faces_made}
use Rattle.contour_runs.proofs.FaceRunsPlaces.{cut-last}
use Rattle.contour_runs.proofs.FaceRunsStages.{IsStage-run, IsRun-less}
use Rattle.convex_counts.specs.Counts.{face_counts, IsTurned, IsTurnedRun}
use Rattle.convex_counts.specs.Contours.{IsFalling}
use Rattle.convex_counts.proofs.Steps.{IsFalling-run}
use Rattle.convex_counts.proofs.Kept.{KeepsFirst, KeepsSecond, KeepsThird, KeepsFirstSecond, KeepsSecondThird, KeepsThirdFirst, KeepsFirst-after, KeepsSecond-after, KeepsThird-after, KeepsFirstSecond-after, KeepsSecondThird-after, KeepsThirdFirst-after, kept_on, AreOnFirst, AreOnSecond, AreOnThird, IsFirstSecond, IsSecondThird, IsThirdFirst}
use Rattle.convex_counts.proofs.Made.{first_made, second_made, first_second_made, second_third_made, third_first_made, third_made}

module _ (steps : ℕ → Step) (n : ℕ) (turned : IsTurnedRun steps n) (k i : ℕ) (lk : k < n) (li : i < (steps k).faces) where
  abbrev g : Stage
  g = stage_after steps k

  abbrev s : Step
  s = steps k

  abbrev at : Coordinates
  at = face_counts steps n

  abbrev old : ℕ → ℕ
  old j = g.vertex j

  pub step : IsStep g s
  step = turned.run k lk

  pub stage : IsStage g
  stage = IsStage-run steps k (IsRun-less steps k n (omega arith) turned.run)

  fall : IsFalling g (face_counts steps k) (faces_made steps k)
  fall = IsFalling-run steps k (IsRun-less steps k n (omega arith) turned.run)

  well : IsTurned g (face_counts steps k) s
  well = turned.turned k lk

  -- an older vertex of the face is placed
  placed : (j : ℕ) → j ≤ s.cut (suc i) → old j < g.count + s.vertices
  placed j l = let c = cut-last g s step (suc i) li in let w = step.within in let p = stage.placed j (omega arith) in omega arith

  pub on_first : (j j' : ℕ) → s.cut i ≤ j → j < j' → j' ≤ s.turn i → AreOnFirst at (old j) (old j')
  on_first j j' a b c =
      let t = step.high i li in
      (kept_on KeepsFirst KeepsFirst-after steps n k (old j) (old j') turned.run lk (placed j (omega arith)) (placed j' (omega arith)) (first_made g s (face_counts steps k) (faces_made steps k) stage step fall well i li j j' a b c)).are

  pub on_second : (j j' : ℕ) → s.turn i < j → j < j' → j' ≤ s.cut (suc i) → AreOnSecond at (old j) (old j')
  on_second j j' a b c = (kept_on KeepsSecond KeepsSecond-after steps n k (old j) (old j') turned.run lk (placed j (omega arith)) (placed j' c) (second_made g s (face_counts steps k) (faces_made steps k) stage step fall well i li j j' a b c)).are

  pub third_kept : (v v' : ℕ) → g.count ≤ v' → v' ≤ v → v < g.count + s.vertices → KeepsThird (stage_after steps n) at v v'
  third_kept v v' a b c = kept_on KeepsThird KeepsThird-after steps n k v v' turned.run lk c (omega arith) (third_made g s (face_counts steps k) (faces_made steps k) stage step fall well i li v v' a b)

  pub on_third : (v v' : ℕ) → g.count ≤ v' → v' ≤ v → v < g.count + s.vertices → AreOnThird at v v'
  on_third v v' a b c = (third_kept v v' a b c).are

  pub first_second : (j j' : ℕ) → s.cut i ≤ j → j ≤ s.turn i → s.turn i < j' → j' ≤ s.cut (suc i) → IsFirstSecond at (old j) (old j')
  first_second j j' a b c d =
      (kept_on KeepsFirstSecond KeepsFirstSecond-after steps n k (old j) (old j') turned.run lk (placed j (omega arith)) (placed j' d) (first_second_made g s (face_counts steps k) (faces_made steps k) stage step fall well i li j j' a b c d)).are

  pub second_third : (j v : ℕ) → s.turn i < j → j ≤ s.cut (suc i) → g.count ≤ v → v < g.count + s.vertices → IsSecondThird at (old j) v
  second_third j v a b c d = (kept_on KeepsSecondThird KeepsSecondThird-after steps n k (old j) v turned.run lk (placed j b) d (second_third_made g s (face_counts steps k) (faces_made steps k) stage step fall well i li j v a b c d)).are

  pub third_first : (v j : ℕ) → g.count ≤ v → v < g.count + s.vertices → s.cut i ≤ j → j ≤ s.turn i → IsThirdFirst at v (old j)
  third_first v j c d a b =
      let t = step.high i li in
      (kept_on KeepsThirdFirst KeepsThirdFirst-after steps n k v (old j) turned.run lk d (placed j (omega arith)) (third_first_made g s (face_counts steps k) (faces_made steps k) stage step fall well i li v j c d a b)).are

  -- of three sides
  pub three_sides : (j j' v : ℕ) → s.cut i ≤ j → j ≤ s.turn i → s.turn i < j' → j' ≤ s.cut (suc i) → g.count ≤ v → v < g.count + s.vertices → IsSpread at (old j) (old j') v
  three_sides j j' v a b c d e f =
      let x = first_second j j' a b c d in
      let y = second_third j' v c d e f in
      let z = third_first v j e f a b in
      let z2 = z.sum in
      record { left = x.one; within = omega arith; under = y.two; up = omega arith; first_sum = z2; second_sum = omega arith }

  -- not strictly, and the same place allowed
  pub first_weak_pair : (j j' : ℕ) → s.cut i ≤ j → j ≤ j' → j' ≤ s.turn i → (at.one (old j') ≡ at.one (old j)) × (at.two (old j) ≤ at.two (old j'))
  first_weak_pair j j' a b c = elim (cases_lt j j') [
    | inl l ↦ let p = on_first j j' a l c in let q = p.two in (p.one, omega arith)
    | inr l ↦ let e : j' ≡ j = omega arith in (ap (λ z. at.one (old z)) e, omega (arith, ap (λ z. at.two (old z)) e))
  ]

  pub second_weak_pair : (j j' : ℕ) → s.turn i < j → j ≤ j' → j' ≤ s.cut (suc i) → (at.two (old j') ≡ at.two (old j)) × (at.one (old j') ≤ at.one (old j))
  second_weak_pair j j' a b c = elim (cases_lt j j') [
    | inl l ↦ let p = on_second j j' a l c in let q = p.one in (p.two, omega arith)
    | inr l ↦ let e : j' ≡ j = omega arith in (ap (λ z. at.two (old z)) e, omega (arith, ap (λ z. at.one (old z)) e))
  ]
