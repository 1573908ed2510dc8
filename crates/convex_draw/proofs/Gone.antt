-- Which vertices have left the contour.
use Rattle.std.proofs.Common.{◌≡◌, ◌⊎◌, ℕ, zero, suc, ◌<◌, ◌≤◌, sym, ap, ◌∙◌, subst, inl, inr, arith}
use Rattle.std.proofs.lemmas.Bool.{cases_lt, cases_eq}
use Rattle.contour_runs.specs.Runs.{Stage}
use Rattle.contour_runs.specs.Laws.{IsStage}
use Rattle.contour_runs.specs.FaceRuns.{Step, moved, vertex_after, place_after, after, stage_after, IsStep, IsRun}
use Rattle.contour_runs.proofs.FaceRunsPlaces.{order, vertex_after-low, vertex_after-new, vertex_after-high, place_after-older, place_after-new, cases_place}
use Rattle.contour_runs.proofs.FaceRunsStages.{IsStage-after, IsStage-run, IsRun-less, moved-low, moved-high}
use Rattle.convex_draw.specs.Sums.{IsGone}

-- where an older vertex of the contour after a step stood before
pub record StoodAt (g : Stage) (s : Step) (v : ℕ) : Type 0 where
  pub from : ℕ
  pub vertex : g.vertex from ≡ v
  pub within : from < g.width
  pub outside : (from ≤ s.first) ⊎ (s.last ≤ from)

module _ (g : Stage) (s : Step) (stage : IsStage g) (step : IsStep g s) where
  pub stood : (i v : ℕ) → i < (after g s).width → vertex_after g s i ≡ v → v < g.count → StoodAt g s v
  stood i v l e older =
      let o = order g s step in
      let w = step.within in
      elim (cases_place g s i step l) [
        | inl c ↦ let a = c.low in record { from = i; vertex = sym (vertex_after-low g s i a) ∙ e; within = omega arith; outside = inl a }
        | inr (inl c) ↦ let n = vertex_after-new g s i c.low c.high in let a = c.low in absurd (omega arith)
        | inr (inr c) ↦ let a = c.high in let t = c.to in record { from = c.from; vertex = sym (vertex_after-high g s i c.from (omega arith) t) ∙ e; within = c.within; outside = inr a }
      ]

  -- what has left stays away
  pub IsGone-after : (v : ℕ) → IsGone g v → IsGone (after g s) v
  IsGone-after v gone =
      let older = gone.0 in (
        omega arith,
        λ e.
            let b = stood (place_after g s v) v ((IsStage-after g s stage step).within v (omega arith)) e older in
            gone.1 (ap g.vertex (ap g.place (sym b.vertex) ∙ stage.own b.from b.within) ∙ b.vertex),
      )

  -- and what is strictly within a row leaves
  pub IsGone-covered : (i : ℕ) → s.first < i → i < s.last → IsGone (after g s) (g.vertex i)
  IsGone-covered i a b =
      let w = step.within in
      let older = stage.placed i (omega arith) in (
        omega arith,
        λ e.
            let k = stood (place_after g s (g.vertex i)) (g.vertex i) ((IsStage-after g s stage step).within (g.vertex i) (omega arith)) e older in
            let same : k.from ≡ i = sym (stage.own k.from k.within) ∙ ap g.place k.vertex ∙ stage.own i (omega arith) in
            elim k.outside [ inl c ↦ absurd (omega arith) | inr c ↦ absurd (omega arith) ],
      )

  -- what leaves was strictly within the row
  pub record WasWithin (v : ℕ) : Type 0 where
    pub place : ℕ
    pub low : s.first < place
    pub high : place < s.last
    pub vertex : g.vertex place ≡ v

  pub within_row : (v : ℕ) → ¬ IsGone g v → IsGone (after g s) v → WasWithin v
  within_row v here gone =
      let w = step.within in
      let o = order g s step in
      elim (cases_lt v g.count) [
        | inr new ↦
            let c = gone.0 in
            let p = place_after-new g s v new in
            absurd (gone.1 (let n = vertex_after-new g s (place_after g s v) (omega arith) (omega arith) in omega arith))
        | inl older ↦ elim (cases_eq (g.vertex (g.place v)) v) [
          | inr ne ↦ absurd (here (older, ne))
          | inl e ↦
              let i = g.place v in
              let there = place_after-older g s v older in
              elim (cases_lt s.first i) [
                | inr a ↦ absurd (gone.1 (ap (vertex_after g s) (there ∙ moved-low g s stage step i a) ∙ vertex_after-low g s i a ∙ e))
                | inl a ↦ elim (cases_lt i s.last) [
                  | inl b ↦ record { place = i; low = a; high = b; vertex = e }
                  | inr b ↦ let n = moved-high g s stage step i b in absurd (gone.1 (ap (vertex_after g s) there ∙ vertex_after-high g s (moved s i) i (omega arith) n ∙ e))
                ]
              ]
        ]
      ]

-- along a run
pub IsGone-run : (steps : ℕ → Step) (l k i : ℕ) → IsRun steps k → l < k → (steps l).first < i → i < (steps l).last → IsGone (stage_after steps k) ((stage_after steps l).vertex i)
IsGone-run steps l zero i run m a b = absurd (omega arith)
IsGone-run steps l (suc k) i run m a b =
    let less = IsRun-less steps k (suc k) (omega arith) run in
    let stage = IsStage-run steps k less in
    elim (cases_eq l k) [
      | inl e ↦
          subst (λ l. (steps l).first < i → i < (steps l).last → IsGone (stage_after steps (suc k)) ((stage_after steps l).vertex i)) (sym e)
          (λ a b. IsGone-covered (stage_after steps k) (steps k) stage (run k (omega arith)) i a b) a b
      | inr ne ↦ IsGone-after (stage_after steps k) (steps k) stage (run k (omega arith)) ((stage_after steps l).vertex i) (IsGone-run steps l k i less (omega arith) a b)
    ]
