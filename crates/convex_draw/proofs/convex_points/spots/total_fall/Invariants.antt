use Rattle.std.proofs.Common.{◌≡◌, ◌+◌, ℕ, suc}
use Rattle.convex_draw.specs.Spots.{Setting, IsRowOver}
use Rattle.convex_draw.proofs.convex_points.spots.total_fall.Given as goal

abbrev pub invariant-loop-j : goal.invariant-loop-j
invariant-loop-j l = (w : Setting) → IsRowOver w l.spots l.row → (i : ℕ) → suc i ≡ w.step.first + l.j → l.fall + w.at.one (w.stage.vertex i) ≡ w.at.one (w.stage.vertex w.step.first)
