use Rattle.std.proofs.Common.{◌≡◌, ◌+◌, ℕ, suc, List}
use Rattle.convex_draw.specs.Spots.{Setting, IsPut, AreSettled}
use Rattle.convex_draw.proofs.Passing.{IsPassing}
use Rattle.convex_draw.proofs.convex_points.spots.CoveredRow.settle.Given as goal

abbrev pub invariant-loop-j : goal.invariant-loop-j
invariant-loop-j l =
    (w : Setting) (news : List ℕ) → IsPut w l.fn.spots l.self.row.now l.self.cuts.now news → w.name w.stage.count ≡ l.z → l.fall + w.at.one (w.stage.vertex w.step.last) ≡ w.at.one (w.stage.vertex w.step.first)
    → (i : ℕ) → suc i ≡ w.step.first + l.j → IsPassing w i l.face l.gain l.far l.rise × AreSettled w (suc i) l.fn.spots l.spots
