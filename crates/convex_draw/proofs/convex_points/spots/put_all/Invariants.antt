use Rattle.std.proofs.Common.{◌≡◌, ◌+◌, ℕ, length}
use Rattle.contour_runs.specs.FaceRuns.{Step}
use Rattle.convex_draw.specs.Spots.{AreKept}
use Rattle.convex_draw.specs.Runs.{IsCountRun}
use Rattle.convex_draw.proofs.convex_points.spots.put_all.Given as goal

abbrev pub invariant-loop-j : goal.invariant-loop-j
invariant-loop-j l =
    (steps : ℕ → Step) (name : ℕ → ℕ) → IsCountRun steps name l.rows (length l.fn.spots) → name 0 ≡ l.d → name 1 ≡ l.s → (k : ℕ) → k + l.j ≡ length l.rows.rows → AreKept steps name k l.width l.spots
