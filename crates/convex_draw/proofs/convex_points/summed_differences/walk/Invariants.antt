use Rattle.std.proofs.Common.{◌≡◌, ◌+◌, ℕ}
use Rattle.contour_runs.specs.Runs.{Stage}
use Rattle.contour_runs.specs.Wood.{Coordinates}
use Rattle.convex_draw.specs.Sums.{IsLast}
use Rattle.convex_draw.proofs.Walks.{IsWalking}
use Rattle.convex_draw.proofs.convex_points.summed_differences.walk.Given as goal

abbrev pub invariant-loop : goal.invariant-loop
invariant-loop l =
    (g : Stage) (at : Coordinates) (name : ℕ → ℕ) → IsLast g at name l.fn.spots l.s l.faces l.width → (p : ℕ) → p + l.counter ≡ l.width → IsWalking g at name p l.x l.y l.u l.fn.spots l.spots
