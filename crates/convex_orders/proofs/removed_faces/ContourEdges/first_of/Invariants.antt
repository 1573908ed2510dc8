use Rattle.std.proofs.Common.{ℕ, suc, ◌+◌, ◌≤◌, ◌≡◌, length}
use Rattle.convex_orders.specs.Contours.{vertices_of, number_at}
use Rattle.convex_orders.specs.Splits.{IsGoneRun}
use Rattle.convex_orders.proofs.removed_faces.ContourEdges.first_of.Given as goal

abbrev pub invariant-loop-k : goal.invariant-loop-k
invariant-loop-k l = (first end j : ℕ) → suc j ≡ length l.self.contour.now.left.items → first ≤ j → j ≤ end → IsGoneRun (number_at l.self.inner.now (vertices_of l.self.contour.now)) l.marks (length (vertices_of l.self.contour.now)) first end → first + l.k ≤ length l.self.contour.now.left.items
