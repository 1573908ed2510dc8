use Rattle.std.proofs.Common.{◌≡◌, ◌+◌, ℕ, length}
use Rattle.contour_runs.specs.FaceRuns.{Step}
use Rattle.convex_draw.specs.Sums.{AreDone}
use Rattle.convex_draw.specs.Runs.{IsCountRun}
use Rattle.convex_draw.proofs.convex_points.summed_differences.add_all.Given as goal

abbrev pub invariant-loop-j : goal.invariant-loop-j
invariant-loop-j l =
    (steps : ℕ → Step) (name : ℕ → ℕ) → IsCountRun steps name l.rows (length l.fn.spots) → AreDone steps name (length l.rows.rows) (length l.rows.rows) l.fn.spots → (k : ℕ) → k + l.j ≡ length l.rows.rows → AreDone steps name (length l.rows.rows) k l.spots
