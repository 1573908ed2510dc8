-- Turns that are read off make a whole run, if all but the last vertex are touched.
use Rattle.std.proofs.Common.{◌≡◌, ℕ, zero, suc, ◌+◌, ◌-◌, ◌<◌, ◌≤◌, refl, sym, ap, ap₂, subst, ◌≢◌, ◌∙◌, inl, inr, arith}
use Rattle.std.proofs.lemmas.Bool.{cases_lt}
use Rattle.contour_runs.specs.Runs.{Stage}
use Rattle.contour_runs.specs.Laws.{IsStage}
use Rattle.contour_runs.specs.Wood.{Coordinates}
use Rattle.contour_runs.specs.FaceRuns.{Step, stage_after, IsRun, IsTouched}
use Rattle.contour_runs.proofs.FaceRunsPlaces.{order, cut-last, vertex_after-new}
use Rattle.contour_runs.proofs.FaceRunsStages.{IsStage-run, IsRun-less}
use Rattle.convex_counts.specs.Counts.{face_counts, IsLeft, IsRight, IsTurned, IsTurnedRun}
use Rattle.convex_counts.specs.Turns.{turn_from, with_turns, well_turned, IsTouchedRun}
use Rattle.convex_counts.specs.FacePointsLaws.{IsWholeRun}
use Rattle.convex_counts.proofs.Turns.{found, stage_is, contours_as_before, run_turned}
use Rattle.convex_counts.proofs.Touched.{HasEdge, edged_run}

left_or_right : (g : Stage) (at : Coordinates) (j : ℕ) → IsLeft g at j → ¬ IsRight g at j
left_or_right g at j l r = let a = l.one in let b = r.one in omega arith

-- turns that are read off are good turns, where each vertex strictly under a face has an edge
module _ (g : Stage) (at : Coordinates) (s : Step) (edged : (i x : ℕ) → i < s.faces → s.cut i < x → x < s.cut (suc i) → HasEdge g at x) where
  abbrev turn : ℕ → ℕ
  turn i = turn_from g at (s.cut i) (s.cut (suc i) - s.cut i - 1)

  right_from : (i d : ℕ) → i < s.faces → suc (turn i + d) < s.cut (suc i) → IsRight g at (suc (turn i + d))
  right_from i zero l b =
      let f = found g at (s.cut (suc i) - s.cut i - 1) (s.cut i) in
      elim (edged i (suc (turn i + 0)) l (omega arith) b) [
        | inl z ↦ let next = z.next in elim f.stop [ inl end ↦ absurd (omega arith) | inr no_left ↦ absurd (no_left (subst (λ x. IsLeft g at x) (let same : z.place ≡ turn i = omega arith in same) z.left)) ]
        | inr z ↦ z.right
      ]
  right_from i (suc d) l b =
      let less = right_from i d l (omega arith) in
      let f = found g at (s.cut (suc i) - s.cut i - 1) (s.cut i) in
      elim (edged i (suc (turn i + suc d)) l (omega arith) b) [
        | inl z ↦ let next = z.next in absurd (left_or_right g at (suc (turn i + d)) (subst (λ x. IsLeft g at x) (let same : z.place ≡ suc (turn i + d) = omega arith in same) z.left) less)
        | inr z ↦ z.right
      ]

  turned_well : IsTurned g at (with_turns g at s)
  turned_well = record {
    left = λ i j l a b. (found g at (s.cut (suc i) - s.cut i - 1) (s.cut i)).left j a b;
    right = λ i j l a b. let d : ℕ = j - suc (turn i) in let e : suc (turn i + d) ≡ j = omega arith in subst (λ x. IsRight g at x) e (right_from i d l (omega arith));
  }

-- what is touched stays touched
touched_as_before : (steps : ℕ → Step) (n v : ℕ) → IsTouched steps n v → IsTouched (well_turned steps) n v
touched_as_before steps n v t = grind (arith, contours_as_before)

module _ (steps : ℕ → Step) (n : ℕ) (t : IsTouchedRun steps n) where
  abbrev ws : ℕ → Step
  ws = well_turned steps

  run : IsRun ws n
  run = run_turned steps n t.run

  under_edged : (k : ℕ) → k < n → (i x : ℕ) → i < (steps k).faces → (steps k).cut i < x → x < (steps k).cut (suc i) → HasEdge (stage_after ws k) (face_counts ws k) x
  under_edged k l i x li a b =
      let step = run k l in
      let hi = cut-last (stage_after ws k) (ws k) step (suc i) li in
      let v = (stage_after steps k).vertex x in
      let touched = touched_as_before steps k v (t.under k v l record { face = i; place = x; within = li; low = a; high = b; vertex = refl }) in
      edged_run ws k v (IsRun-less ws k n (omega arith) run) touched x (omega arith) (ap (λ (f : ℕ → ℕ). f x) (contours_as_before steps k).2)

  turned : IsTurnedRun ws n
  turned = record {
    run = run;
    turned = λ k l.
        let at = stage_is steps k in
        subst (λ z. IsTurned (stage_after ws k) (face_counts ws k) z) (ap₂ (λ g c. with_turns g c (steps k)) at.0 at.1)
        (turned_well (stage_after ws k) (face_counts ws k) (steps k) (under_edged k l));
  }

  abbrev g : Stage
  g = stage_after ws n

  abbrev at : Coordinates
  at = face_counts ws n

  stage : IsStage g
  stage = IsStage-run ws n run

  -- the first step comes between the two of the base
  first_step : ((ws 0).first ≡ 0) × ((ws 0).last ≡ 1)
  first_step = let step = run 0 t.some in let o = order (stage_after ws 0) (ws 0) step in let w = step.within in (omega arith, omega arith)

  touched_first : IsTouched ws n 0
  touched_first = record { step = 0; earlier = t.some; end = inl first_step.0 }

  touched_second : IsTouched ws n 1
  touched_second = record { step = 0; earlier = t.some; end = inr first_step.1 }

  module _ (top : ℕ) (within : top < g.width) (last : suc (g.vertex top) ≡ g.count) where
    -- a place of the contour but that of the last vertex has an edge
    edged_inner : (j : ℕ) → 0 < j → suc j < g.width → j ≢ top → HasEdge g at j
    edged_inner j a b ne = grind (arith, stage, contours_as_before, cases_lt, edged_run, ws, run, IsTouched, touched_as_before, stage_after)

    rights : (j : ℕ) → j < top → IsRight g at j
    rights zero l = elim (edged_run ws n 0 run touched_first 0 (omega arith) stage.begin) [ inl z ↦ let e = z.next in absurd (omega arith) | inr z ↦ z.right ]
    rights (suc j) l =
        let less = rights j (omega arith) in
        elim (edged_inner (suc j) (omega arith) (omega arith) (λ e. omega arith)) [
          | inl z ↦ let e = z.next in absurd (left_or_right g at j (subst (λ x. IsLeft g at x) (let same : z.place ≡ j = omega arith in same) z.left) less)
          | inr z ↦ z.right
        ]

    lefts : (d j : ℕ) → j + d + 2 ≡ g.width → top ≤ j → IsLeft g at j
    lefts zero j e l = elim (edged_run ws n 1 run touched_second (suc j) (omega arith) (stage.end (suc j) (omega arith))) [
      | inl z ↦ let f = z.next in subst (λ x. IsLeft g at x) (let same : z.place ≡ j = omega arith in same) z.left
      | inr z ↦ let w = z.within in absurd (omega arith)
    ]
    lefts (suc d) j e l =
        elim (edged_inner (suc j) (omega arith) (omega arith) (λ f. omega arith)) [
          | inl z ↦ let f = z.next in subst (λ x. IsLeft g at x) (let same : z.place ≡ j = omega arith in same) z.left
          | inr z ↦ absurd (left_or_right g at (suc j) (lefts d (suc j) (omega arith) (omega arith)) z.right)
        ]

    whole_at : IsWholeRun ws n
    whole_at = record {
      turned = turned;
      top = top;
      within = within;
      last = last;
      right = rights;
      left = λ j a b. lefts (g.width - 2 - j) j (omega arith) a;
    }

-- the last vertex stands behind the other new ones of the last step
last_place : (steps : ℕ → Step) (n : ℕ) → IsRun steps n → 0 < n → (x : ℕ) × (x < (stage_after steps n).width) × (suc ((stage_after steps n).vertex x) ≡ (stage_after steps n).count)
last_place steps zero run some = absurd (omega arith)
last_place steps (suc n) run some =
    let s = steps n in
    let step = run n (omega arith) in
    let x : ℕ = s.first + s.vertices in
    let e = vertex_after-new (stage_after steps n) s x (omega arith) (omega arith) in
    (x, omega arith, omega arith)

pub touched_turns : (steps : ℕ → Step) (n : ℕ) → IsTouchedRun steps n → IsWholeRun (well_turned steps) n
touched_turns steps n t = let top = last_place (well_turned steps) n (run steps n t) t.some in whole_at steps n t top.0 top.1 top.2
