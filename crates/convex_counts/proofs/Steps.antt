-- Along the contour coordinate one does not rise, and two does not fall.
use Rattle.std.proofs.Common.{◌≡◌, ℕ, zero, suc, ◌+◌, ◌-◌, ◌<◌, ◌≤◌, refl, subst, inl, inr, arith}
use Rattle.std.proofs.lemmas.Bool.{cases_lt}
use Rattle.contour_runs.specs.Runs.{Stage, base}
use Rattle.contour_runs.specs.Laws.{IsStage}
use Rattle.contour_runs.specs.Wood.{Coordinates}
use Rattle.contour_runs.specs.FaceRuns.{Step, vertex_after, after, stage_after, IsStep, IsRun, faces_made}
use Rattle.contour_runs.proofs.FaceRunsPlaces.{order}
use Rattle.contour_runs.proofs.FaceRunsStages.{IsStage-run, IsRun-less}
use Rattle.convex_counts.specs.Counts.{one_after, two_after, counts_after, face_counts, two_gain}
use Rattle.convex_counts.specs.Contours.{IsFalling}
use Rattle.convex_counts.proofs.Gains.{gain-low, gain-high, one_after-older, two_after-older, one_after-new, two_after-new, one_after-contour, two_after-contour, cases_counted}

module _ (g : Stage) (s : Step) (at : Coordinates) (m : ℕ) (stage : IsStage g) (step : IsStep g s) (h : IsFalling g at m) where
  falls_after : (i j : ℕ) → i ≤ j → j < (after g s).width → (one_after g s at (vertex_after g s j) ≤ one_after g s at (vertex_after g s i)) × (two_after g s at (vertex_after g s i) ≤ two_after g s at (vertex_after g s j))
  falls_after i j a b =
      let o = order g s step in
      let pq = h.falls s.first s.last (omega arith) step.within in
      elim (cases_counted g s at stage step i (omega arith)) [
        | inl c ↦
            let ip = h.falls i s.first c.low (omega arith) in
            let ip' = h.rises i s.first c.low (omega arith) in
            elim (cases_counted g s at stage step j b) [
              | inl d ↦ let d' = d.low in (omega (arith, d.one, h.falls i j a (omega arith)), omega (arith, d.two, h.rises i j a (omega arith)))
              | inr (inl d) ↦ (omega (arith, d.one), omega (arith, d.two))
              | inr (inr d) ↦ let d' = d.high in let d'' = d.within in (omega (arith, d.one, h.falls i d.from (omega arith) d''), omega (arith, d.two, h.rises i d.from (omega arith) d''))
            ]
        | inr (inl c) ↦
            elim (cases_counted g s at stage step j b) [
              | inl d ↦ let d' = d.low in absurd (omega arith)
              | inr (inl d) ↦ (omega (arith, d.one), omega (arith, d.two))
              | inr (inr d) ↦ let d' = d.high in let d'' = d.within in (omega (arith, d.one, h.falls s.last d.from d' d''), omega (arith, d.two, h.rises s.first d.from (omega arith) d''))
            ]
        | inr (inr c) ↦
            elim (cases_counted g s at stage step j b) [
              | inl d ↦ let d' = d.low in absurd (omega arith)
              | inr (inl d) ↦ let d' = d.high in absurd (omega arith)
              | inr (inr d) ↦ let d' = d.to in let d'' = d.within in (omega (arith, d.one, h.falls c.from d.from (omega arith) d''), omega (arith, d.two, h.rises c.from d.from (omega arith) d''))
            ]
      ]

  -- the two of the base
  base_after : (i v : ℕ) → i < g.width → g.vertex i ≡ v → (one_after g s at v + two_gain s i ≡ at.one v + s.faces) × (two_after g s at v ≡ at.two v + two_gain s i)
  base_after i v l e = subst (λ v. (one_after g s at v + two_gain s i ≡ at.one v + s.faces) × (two_after g s at v ≡ at.two v + two_gain s i)) e (one_after-contour g s at stage step i l, two_after-contour g s at stage step i l)

  pub IsFalling-after : IsFalling (after g s) (counts_after g s at) (m + s.faces)
  IsFalling-after =
      let o = order g s step in
      let w = step.within in
      let end : ℕ = g.width - 1 in
      let first = base_after 0 0 (omega arith) stage.begin in
      let second = base_after end 1 (omega arith) (stage.end end (omega arith)) in
      record {
        falls = λ i j a b. (falls_after i j a b).0;
        rises = λ i j a b. (falls_after i j a b).1;
        first_one = omega (arith, first.0, h.first_one, gain-low g s step 0 (omega arith));
        first_two = omega (arith, first.1, h.first_two, gain-low g s step 0 (omega arith));
        second_one = omega (arith, second.0, h.second_one, gain-high g s step end (omega arith));
        second_two = omega (arith, second.1, h.second_two, gain-high g s step end (omega arith));
        sums = λ v l. elim (cases_lt v g.count) [
          | inl older ↦ omega (arith, one_after-older g s at v older, two_after-older g s at v older, h.sums v older)
          | inr new ↦ omega (arith, one_after-new g s at v new, two_after-new g s at v new, h.sums (g.vertex s.last) (stage.placed s.last w), h.rises s.first s.last (omega arith) w)
        ];
      }

pub IsFalling-base : IsFalling base (record { one = λ v. 0; two = λ v. 0 }) 0
IsFalling-base = grind arith

pub IsFalling-run : (steps : ℕ → Step) (n : ℕ) → IsRun steps n → IsFalling (stage_after steps n) (face_counts steps n) (faces_made steps n)
IsFalling-run steps zero run = IsFalling-base
IsFalling-run steps (suc n) run =
    let less = IsRun-less steps n (suc n) (omega arith) run in
    IsFalling-after (stage_after steps n) (steps n) (face_counts steps n) (faces_made steps n) (IsStage-run steps n less) (run n (omega arith)) (IsFalling-run steps n less)
