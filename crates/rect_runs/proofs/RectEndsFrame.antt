-- The ends of edges at the frame.
use Rattle.std.proofs.Common.{◌≡◌, ◌≢◌, ℕ, suc, ◌+◌, ◌<◌, ◌≤◌, inl, inr, arith}
use Rattle.std.proofs.lemmas.Bool.{cases_eq}
use Rattle.contour_runs.specs.Runs.{Step, stage_after}
use Rattle.contour_runs.specs.Laws.{IsStage}
use Rattle.contour_runs.proofs.Stages.{IsStage-run, IsRun-less, count-stage_after}
use Rattle.rect_runs.specs.Numbers.{turn_of}
use Rattle.rect_runs.specs.Corners.{End, run_in, rise_out, run_out, rise_in}
use Rattle.rect_runs.specs.Later.{StandsOver}
use Rattle.rect_runs.specs.Boxes.{IsRectRun}
use Rattle.rect_runs.proofs.Corners.{IsFrameLabelling, older-left, older-below, new-left, new-below}
use Rattle.rect_runs.proofs.RectBoxesFrame.{labelling}
use Rattle.rect_runs.specs.Ends.{IsEndAt, FrameEnds}

module _ (steps : ℕ → Step) (n : ℕ) (h : IsRectRun steps n) where
  frame : IsFrameLabelling steps n
  frame = labelling steps n h

  stage_at : (k : ℕ) → k ≤ suc n → IsStage (stage_after steps k)
  stage_at k l = IsStage-run steps k (IsRun-less steps k (suc n) l h.labelled.run)

  -- the lower of two that a step joins was there before
  placed : (k u v : ℕ) → k < suc n → StandsOver steps k u v → u < k + 2
  placed k u v l a =
      let w = (h.labelled.run k l).within in
      omega (arith, (stage_at k (omega arith)).placed a.place (omega arith), a.vertex, count-stage_after steps k)

  first : (v : ℕ) (e : End) → IsEndAt steps (suc n) 0 v e → e ≡ run_out
  first v e end = grind (arith, frame, older-left, turn_of)

  second : (v : ℕ) (e : End) → IsEndAt steps (suc n) 1 v e → e ≡ rise_out
  second v e end = grind (arith, frame, older-below, turn_of)

  right : (v : ℕ) (e : End) → v ≢ 1 → v ≢ n + 2 → IsEndAt steps (suc n) (n + 1) v e → e ≡ run_in
  right v e n1 n2 end = elim end [
    | inl a ↦ let l = a.before in let new = a.over.new in let p = placed a.step (n + 1) v a.before a.over in absurd (n2 (omega arith))
    | inr a ↦ grind (arith, new-left, turn_of, cases_eq, stage_after, stage_at, frame)
  ]

  top : (v : ℕ) (e : End) → v ≢ 0 → IsEndAt steps (suc n) (n + 2) v e → e ≡ rise_in
  top v e n0 end = elim end [
    | inl a ↦ let l = a.before in let p = placed a.step (n + 2) v a.before a.over in absurd (omega arith)
    | inr a ↦ grind (arith, turn_of, frame, new-below, cases_eq, stage_after, stage_at)
  ]

pub frame_ends : FrameEnds
frame_ends steps n h = record { first = first steps n h; second = second steps n h; right = right steps n h; top = top steps n h }
