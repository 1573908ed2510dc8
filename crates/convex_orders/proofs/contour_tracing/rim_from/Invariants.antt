use Rattle.std.proofs.Common.{ℕ, ◌≤◌}
use Rattle.convex_orders.specs.Splits.{IsRimAt}
use Rattle.convex_orders.proofs.contour_tracing.rim_from.Given as goal

abbrev pub invariant-loop-k : goal.invariant-loop-k
invariant-loop-k l = (k : ℕ) → l.from ≤ k → IsRimAt l.own l.other l.marks k → l.k ≤ k
