-- Stages along a run.
use Rattle.std.proofs.Common.{◌≡◌, ◌≢◌, ◌⊎◌, ℕ, zero, suc, ◌+◌, ◌*◌, ◌<◌, ◌≤◌, refl, sym, ap, ◌∙◌, subst, inl, inr, arith}
use Rattle.std.proofs.lemmas.Bool.{cases_lt}
use Rattle.std.proofs.lemmas.Bool.Decides.{nat_tests}
use Rattle.contour_runs.specs.Runs.{Step, Stage, moved, vertex_after, place_after, after, stage_after, IsStep, IsRun, IsCovered, faces_made}
use Rattle.contour_runs.specs.Laws.{IsStage, IsCoveredOnce}
use Rattle.contour_runs.specs.FaceRuns as face_runs
use Rattle.contour_runs.specs.Fans.{fan, fans}
use Rattle.contour_runs.proofs.Upward.{upward}
use Rattle.contour_runs.proofs.FaceRunsStages as face_stages
use Rattle.contour_runs.proofs.Fans.{fan-step, one_stage-after, one_stage-same, one_stage-run, run-fan, IsStage-one}
use Rattle.contour_runs.proofs.Places.{moved-low, moved-between, moved-high, vertex_after-low, vertex_after-new, vertex_after-high, place_after-older, place_after-new, cases_place}

-- a step from a stage
pub IsStage-after : (g : Stage) (s : Step) → IsStage g → IsStep g s → IsStage (after g s)
IsStage-after g s h step = IsStage-one (after g s) (face_runs.after g (fan s)) (one_stage-after g g s step (one_stage-same g)) (face_stages.IsStage-after g (fan s) h (fan-step g s step))

-- the corners of a face that it makes have places from left to right
pub corners_placed : (g : Stage) (s : Step) → IsStage g → IsStep g s → (i : ℕ) → s.first ≤ i → i < s.last → (place_after g s (g.vertex i) ≤ place_after g s g.count) × (place_after g s g.count ≤ place_after g s (g.vertex (suc i)))
unfolding place_after moved
corners_placed g s stage step i l m =
    (grind (arith, nat_tests), grind (arith, nat_tests))

-- the first steps of a run are a run
pub IsRun-less : (steps : ℕ → Step) (m n : ℕ) → m ≤ n → IsRun steps n → IsRun steps m
IsRun-less steps m n l h = λ k b. h k (omega arith)

pub count-stage_after : (steps : ℕ → Step) (n : ℕ) → (stage_after steps n).count ≡ n + 2
count-stage_after steps zero = refl
count-stage_after steps (suc n) = omega (arith, count-stage_after steps n)

pub IsStage-run : (steps : ℕ → Step) (n : ℕ) → IsRun steps n → IsStage (stage_after steps n)
IsStage-run steps n h = IsStage-one (stage_after steps n) (face_runs.stage_after (fans steps) n) (one_stage-run steps n h) (face_stages.IsStage-run (fans steps) n (run-fan steps n h))

-- how many faces are made
pub faces_made-run : (steps : ℕ → Step) (n : ℕ) → IsRun steps n → faces_made steps n + (stage_after steps n).width ≡ 2 * n + 2
faces_made-run steps zero h = refl
faces_made-run steps (suc n) h =
    let less = faces_made-run steps n (IsRun-less steps n (suc n) (omega arith) h) in
    omega (arith, h n (omega arith))

module _ (g : Stage) (s : Step) (h : IsStage g) (step : IsStep g s) where
  -- an older vertex of the contour stood on it before
  pub stood_before : (i : ℕ) → i < (after g s).width → vertex_after g s i < g.count → (j : ℕ) × (j < g.width) × (g.vertex j ≡ vertex_after g s i)
  stood_before i l older = grind (arith, cases_place, vertex_after-low, vertex_after-new, vertex_after-high)

  -- a vertex that does not stand at its place does not stand there after the step
  pub stays_gone : (v : ℕ) → v < g.count → g.vertex (g.place v) ≢ v → vertex_after g s (place_after g s v) ≢ v
  stays_gone v older ne = grind (arith, stood_before, place_after, IsStage-after)

module _ (steps : ℕ → Step) where
  -- two with one place keep one place
  pub together : (m n u v : ℕ) → m ≤ n → u < m + 2 → v < m + 2 → (stage_after steps m).place u ≡ (stage_after steps m).place v → (stage_after steps n).place u ≡ (stage_after steps n).place v
  together m n u v l a b e =
      upward (λ k. (stage_after steps k).place u ≡ (stage_after steps k).place v) m n l e
      (λ k low high less.
      let g = stage_after steps k in
      let c = count-stage_after steps k in
      place_after-older g (steps k) u (omega arith) ∙ ap (moved (steps k)) less ∙ sym (place_after-older g (steps k) v (omega arith)))

  -- a covered vertex is older, and has the place at which it is covered
  pub IsCovered-own : (k n v : ℕ) → IsRun steps n → k < n → (c : IsCovered steps k v) → (v < k + 2) × ((stage_after steps k).place v ≡ c.place)
  IsCovered-own k n v h l c = grind (arith, stage_after, IsStage-run, IsRun-less, count-stage_after)

  -- it goes with the one that covers it
  pub covered_together : (k n v : ℕ) → IsRun steps n → k < n → IsCovered steps k v → (stage_after steps n).place v ≡ (stage_after steps n).place (k + 2)
  covered_together k n v h l c =
      let g = stage_after steps k in
      let own = IsCovered-own k n v h l c in
      let count = count-stage_after steps k in
      together (suc k) n v (k + 2) (omega arith) (omega (arith, own.0)) (omega arith)
      (place_after-older g (steps k) v (omega (arith, own.0)) ∙ ap (moved (steps k)) own.1 ∙ moved-between (steps k) c.place c.low c.high ∙ sym (place_after-new g (steps k) (k + 2) (omega arith)))

  -- once a vertex does not stand at its place, it never does again
  pub gone_later : (m n v : ℕ) → IsRun steps n → m ≤ n → v < m + 2 → (stage_after steps m).vertex ((stage_after steps m).place v) ≢ v → (stage_after steps n).vertex ((stage_after steps n).place v) ≢ v
  gone_later m n v h l a ne =
      upward (λ k. (stage_after steps k).vertex ((stage_after steps k).place v) ≢ v) m n l ne
      (λ k low high less. stays_gone (stage_after steps k) (steps k) (IsStage-run steps k (IsRun-less steps k n (omega arith) h)) (h k high) v (omega (arith, count-stage_after steps k)) less)

  -- it is gone once it is covered
  pub covered_gone : (k n v : ℕ) → IsRun steps n → k < n → IsCovered steps k v → (stage_after steps n).vertex ((stage_after steps n).place v) ≢ v
  covered_gone k n v h l c =
      let g = stage_after steps k in
      let own = IsCovered-own k n v h l c in
      let count = count-stage_after steps k in
      let to = place_after-older g (steps k) v (omega (arith, own.0)) ∙ ap (moved (steps k)) own.1 ∙ moved-between (steps k) c.place c.low c.high in
      gone_later (suc k) n v h (omega arith) (omega (arith, own.0)) (λ e. omega (arith, own.0, vertex_after-new g (steps k) (place_after g (steps k) v) to))

  -- so no later step covers it
  pub covered_first : (k l n v : ℕ) → IsRun steps n → k < l → l < n → IsCovered steps k v → IsCovered steps l v → ⊥
  covered_first k l n v h a b c d =
      covered_gone k l v (IsRun-less steps l n (omega arith) h) a c (ap (stage_after steps l).vertex (IsCovered-own l n v h b d).1 ∙ d.vertex)

  pub covered_alone : (k l n v : ℕ) → IsRun steps n → k < n → l < n → IsCovered steps k v → IsCovered steps l v → l ≡ k
  covered_alone k l n v h a b c d = elim (cases_lt l k) [
    | inl m ↦ absurd (covered_first l k n v h m a d c)
    | inr m ↦ elim (cases_lt k l) [ inl o ↦ absurd (covered_first k l n v h o b c d) | inr o ↦ omega arith ]
  ]

  -- a vertex that stands on the contour stays there, or is covered
  pub stands_on : (k v : ℕ) → IsRun steps (suc k) → v < k + 2 → (stage_after steps k).vertex ((stage_after steps k).place v) ≡ v → ((stage_after steps (suc k)).vertex ((stage_after steps (suc k)).place v) ≡ v) ⊎ IsCovered steps k v
  stands_on k v h l e =
      let g = stage_after steps k in
      let s = steps k in
      let o = (h k (omega arith)).order in
      let i = g.place v in
      let to = place_after-older g s v (omega (arith, count-stage_after steps k)) in
      grind (arith, cases_lt, vertex_after, moved-low, vertex_after-low, moved-high, vertex_after-high, moved)

  -- the new vertex stands at its place
  pub new_stands : (k : ℕ) → (stage_after steps (suc k)).vertex ((stage_after steps (suc k)).place (k + 2)) ≡ k + 2
  new_stands k = grind (arith, stage_after, count-stage_after, vertex_after-new, place_after, place_after-new)

  -- each placed vertex stands on the contour, or one step covers it
  pub stands_or_covered : (n v : ℕ) → IsRun steps n → v < n + 2 → ((stage_after steps n).vertex ((stage_after steps n).place v) ≡ v) ⊎ ((k : ℕ) × (k < n) × IsCovered steps k v)
  stands_or_covered zero v h l = inl refl
  stands_or_covered (suc n) v h l =
      elim (cases_lt v (n + 2)) [
        | inr new ↦ let e : v ≡ n + 2 = omega arith in inl (subst (λ w. (stage_after steps (suc n)).vertex ((stage_after steps (suc n)).place w) ≡ w) (sym e) (new_stands n))
        | inl older ↦ elim (stands_or_covered n v (IsRun-less steps n (suc n) (omega arith) h) older) [
          | inr c ↦ inr (c.0, let a = c.1 in omega arith, c.2)
          | inl e ↦ elim (stands_on n v h older e) [ inl f ↦ inl f | inr c ↦ inr (n, omega arith, c) ]
        ]
      ]

  pub covered_once : (n v : ℕ) → IsRun steps n → v < n + 2 → (((stage_after steps n).vertex ((stage_after steps n).place v) ≡ v) × ((k : ℕ) → k < n → ¬ IsCovered steps k v)) ⊎ IsCoveredOnce steps n v
  covered_once n v h l = elim (stands_or_covered n v h l) [
    | inl e ↦ inl (e, λ k m c. covered_gone k n v h m c e)
    | inr c ↦ inr record { step = c.0; earlier = c.1; covered = c.2; alone = λ k m d. covered_alone c.0 k n v h c.1 m c.2 d; gone = covered_gone c.0 n v h c.1 c.2 }
  ]
