-- The labels of a run that ends in a frame.
use Rattle.std.proofs.Common.{◌≡◌, ◌⊎◌, ℕ, zero, suc, ◌+◌, ◌-◌, ◌<◌, ◌≤◌, refl, sym, ap, ◌∙◌, inl, inr, arith}
use Rattle.std.proofs.lemmas.Bool.{cases_eq, cases_lt, both_ways}
use Rattle.contour_runs.specs.Runs.{Step, stage_after}
use Rattle.contour_runs.specs.Laws.{IsStage}
use Rattle.contour_runs.proofs.Places.{vertex_after-new, vertex_after-high}
use Rattle.contour_runs.proofs.Stages.{IsStage-run, IsRun-less, count-stage_after, stands_or_covered}
use Rattle.rect_runs.specs.Numbers.{turn_of}
use Rattle.rect_runs.proofs.Steps.{turn-step}
use Rattle.rect_runs.proofs.Corners.{covered_leaves, IsFrameLabelling, HasRight, HasUpper}
use Rattle.rect_runs.specs.Boxes.{IsRectRun}
use Rattle.rect_runs.proofs.RectBoxesEnds.{closed, last_turn}

module _ (steps : ℕ → Step) (n : ℕ) (h : IsRectRun steps n) where
  stage_at : (k : ℕ) → k ≤ suc n → IsStage (stage_after steps k)
  stage_at k l = IsStage-run steps k (IsRun-less steps k (suc n) l h.labelled.run)

  -- the vertex before the last stands before the second of the base
  pub right_stands : (m i : ℕ) → m ≡ n → suc (suc i) ≡ (stage_after steps m).width → (stage_after steps m).vertex i ≡ n + 1
  right_stands zero i e w = let some = h.some in absurd (omega arith)
  right_stands (suc k) i e w =
      vertex_after-new (stage_after steps k) (steps k) i (omega arith) ∙ (count-stage_after steps k) ∙ omega arith

  -- in the end four vertices stand on the contour
  in_frame : (i v : ℕ) → i < (stage_after steps (suc n)).width → (stage_after steps (suc n)).vertex i ≡ v → (v < 2) ⊎ (n < v)
  in_frame i v l e =
      let g = stage_after steps n in
      let s = steps n in
      let stage = stage_at (suc n) (omega arith) in
      let last = h.top_last in
      let count = count-stage_after steps n in
      grind (arith, cases_eq, stage_after, vertex_after-new, vertex_after-high, right_stands)

  inner_leaves : (v : ℕ) → 2 ≤ v → v < n + 1 → HasRight steps (suc n) v × HasUpper steps (suc n) v
  inner_leaves v l m = elim (stands_or_covered steps (suc n) v h.labelled.run (omega arith)) [
    | inl e ↦ elim (in_frame ((stage_after steps (suc n)).place v) v ((stage_at (suc n) (omega arith)).within v (omega (arith, count-stage_after steps (suc n)))) e) [ inl a ↦ absurd (omega arith) | inr a ↦ absurd (omega arith) ]
    | inr c ↦ covered_leaves steps c.0 (suc n) v h.labelled c.1 c.2
  ]

  pub labelling : IsFrameLabelling steps n
  labelling =
      let t = turn-step steps n (suc n) h.labelled (omega arith) in
      let wide = (stage_at n (omega arith)).wide in
      let first = h.top_first in
      let last = h.top_last in
      record {
        entering = λ k l. let t = turn-step steps k (suc n) h.labelled l in (t.low, t.high);
        inner = inner_leaves;
        right = λ k e. (turn-step steps k (suc n) h.labelled (omega arith)).last (last_turn steps n h k e);
        top = grind (arith, cases_lt, turn_of, both_ways, closed);
        first = λ k i l m e.
            let stage = stage_at k (omega arith) in
            omega (arith, stage.wide, stage.own i m, stage.own 0 (omega arith), ap (stage_after steps k).place (e ∙ sym stage.begin));
        second = λ k i l m e.
            let stage = stage_at k (omega arith) in
            let end : ℕ = (stage_after steps k).width - 1 in
            omega (arith, stage.wide, stage.own i m, stage.own end (omega arith), ap (stage_after steps k).place (e ∙ sym (stage.end end (omega arith))));
      }
