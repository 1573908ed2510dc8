use Rattle.std.proofs.Common.{ℕ, ◌≤◌}
use Rattle.convex_orders.specs.Splits.{IsOpenAt}
use Rattle.convex_orders.proofs.next_removal.is_open.Given as goal

abbrev pub invariant-loop-k : goal.invariant-loop-k
invariant-loop-k l = (k : ℕ) → IsOpenAt l.own l.other l.marks k → l.k ≤ k
