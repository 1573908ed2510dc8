-- The labels at the ends of a contour, and the first numbers.
use Rattle.std.proofs.Common.{◌≡◌, ℕ, zero, suc, ◌+◌, ◌-◌, ◌<◌, ◌≤◌, true, false, refl, ap, ◌∙◌, inl, inr, arith}
use Rattle.std.proofs.lemmas.Bool.{cases_eq, cases_lt, cases_Bool, cond-true, cond-false, both_ways}
use Rattle.contour_runs.specs.Runs.{Step, stage_after, IsRun}
use Rattle.contour_runs.proofs.Stages.{IsRun-less, count-stage_after}
use Rattle.rect_runs.specs.Labels.{labels, IsLabelledRun}
use Rattle.rect_runs.specs.Numbers.{shifted, new_x, new_y, numbers, turn_of, turns_at_run, rise_turns}
use Rattle.rect_runs.proofs.Edges.{cases_edge, labels_after-low, labels_after-run}
use Rattle.rect_runs.proofs.Steps.{turn-step, IsLabelledRun-less, past-lt, shifted-low, x_after-run-older, x_after-rise-older, y_after-run-older, y_after-rise-older, counted}
use Rattle.rect_runs.specs.Boxes.{IsRectRun, grid_width, grid_height}

module _ (steps : ℕ → Step) where
  -- the last edge is a rise
  pub last_rise : (k i : ℕ) → IsRun steps k → suc (suc i) ≡ (stage_after steps k).width → labels steps k i ≡ false
  last_rise zero i run e = refl
  last_rise (suc k) i run e =
      let step = run k (omega arith) in
      elim (cases_edge (stage_after steps k) (steps k) (labels steps k) i step (omega arith)) [
        | inl d ↦ let d1 = d.low in absurd (omega arith)
        | inr (inl d) ↦ let d1 = d.at in absurd (omega arith)
        | inr (inr (inl d)) ↦ d.label_is
        | inr (inr (inr d)) ↦ let d1 = d.to in d.label_is ∙ last_rise k d.from (IsRun-less steps k (suc k) (omega arith) run) (omega arith)
      ]

  -- from the first step on the first edge is a run
  pub first_edge : (k : ℕ) → IsRun steps (suc k) → labels steps (suc k) 0 ≡ true
  first_edge zero run =
      let o = (run 0 (omega arith)).order in
      labels_after-run (steps 0) (labels steps 0) 0 (omega (arith, (run 0 (omega arith)).within))
  first_edge (suc k) run = elim (cases_eq 0 (steps (suc k)).first) [
    | inl e ↦ labels_after-run (steps (suc k)) (labels steps (suc k)) 0 e
    | inr ne ↦ labels_after-low (steps (suc k)) (labels steps (suc k)) 0 (omega arith) ∙ first_edge k (IsRun-less steps (suc k) (suc (suc k)) (omega arith) run)
  ]

  -- the first numbers stay 0
  pub zeros : (n : ℕ) → IsLabelledRun steps n → ((numbers steps n).x 0 ≡ 0) × ((numbers steps n).x 1 ≡ 0) × ((numbers steps n).y 1 ≡ 0)
  zeros zero h = (refl, refl, refl)
  zeros (suc n) h =
      let g = stage_after steps n in
      let count = count-stage_after steps n in
      let before = zeros n (IsLabelledRun-less steps n (suc n) (omega arith) h) in
      let c = turn_of steps n in
      let t = turn-step steps n (suc n) h (omega arith) in
      let w = (h.run n (omega arith)).within in
      let at = numbers steps n in
      let one : 1 < g.count = omega arith in
      let none : 0 < g.count = omega arith in
      let b = turns_at_run steps n in
      elim (cases_Bool b) [
        | inl e ↦ let p = past-lt (λ i. at.y (g.vertex (c + i))) (g.width - c) 0 (omega arith) in (
          x_after-run-older g c b at.x 0 e none ∙ before.0,
          x_after-run-older g c b at.x 1 e one ∙ before.1,
          y_after-run-older g c b at.y 1 e one ∙ ap (shifted (new_y g c at.y)) before.2 ∙ shifted-low (new_y g c at.y) 0 (omega arith),
        )
        | inr e ↦ let p = past-lt (λ i. at.x (g.vertex i)) (suc (suc c)) 0 (omega arith) in (
          x_after-rise-older g c b at.x 0 e none ∙ ap (shifted (new_x g c at.x)) before.0 ∙ shifted-low (new_x g c at.x) 0 (omega arith),
          x_after-rise-older g c b at.x 1 e one ∙ ap (shifted (new_x g c at.x)) before.1 ∙ shifted-low (new_x g c at.x) 0 (omega arith),
          y_after-rise-older g c b at.y 1 e one ∙ before.2,
        )
      ]

  rise_turns-some : (k : ℕ) → 1 ≤ rise_turns steps (suc k)
  rise_turns-some zero = omega arith
  rise_turns-some (suc k) =
      let b = turns_at_run steps (suc k) in
      let m = rise_turns steps (suc k) in
      elim (cases_Bool b) [ inl e ↦ omega (arith, rise_turns-some k, cond-true b m (suc m) e) | inr e ↦ omega (arith, cond-false b m (suc m) e) ]

  module _ (n : ℕ) (h : IsRectRun steps n) where
    pub labelled-less : IsLabelledRun steps n
    labelled-less = IsLabelledRun-less steps n (suc n) (omega arith) h.labelled

    first_label : (n : ℕ) → 2 ≤ n → IsRun steps n → labels steps n 0 ≡ true
    first_label zero l run = absurd (omega arith)
    first_label (suc k) l run = first_edge k run

    -- under the last vertex all edges are runs
    pub closed : (i : ℕ) → suc (suc i) < (stage_after steps n).width → labels steps n i ≡ true
    closed zero l = first_label n h.some labelled-less.run
    closed (suc i) l =
        h.labelled.sorted n (omega arith) i (omega arith) (omega arith) (closed i (omega arith))

    -- the step before turns at a rise
    pub last_turn : (k : ℕ) → suc k ≡ n → turns_at_run steps k ≡ false
    last_turn k e = grind (arith, labelled-less, turn-step, turn_of, last_rise, IsRun-less, cases_lt, both_ways, labels)

    two_rises : (m : ℕ) → m ≡ n → 2 ≤ rise_turns steps m
    two_rises zero e = let s = h.some in absurd (omega arith)
    two_rises (suc zero) e = let s = h.some in absurd (omega arith)
    two_rises (suc (suc k)) e =
        let m = rise_turns steps (suc k) in
        omega (arith, rise_turns-some k, cond-false (turns_at_run steps (suc k)) m (suc m) (last_turn (suc k) e))

    pub grid_bounded : (grid_width steps n ≤ n + 1) × (grid_height steps n ≤ n + 1)
    grid_bounded = let r = two_rises n refl in let c = counted steps n in (omega arith, omega arith)
