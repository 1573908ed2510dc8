use Rattle.std.proofs.Common.{ℕ, ◌<◌, ◌≢◌}
use Rattle.left_right_lists.specs.Orders.{IsFree, Before}
use Rattle.left_right_lists.proofs.edge_orders.Choice.is_first.Given as goal

abbrev pub invariant-loop-f : goal.invariant-loop-f
invariant-loop-f l = (f : ℕ) → f < l.f → IsFree l.free f → l.u ≢ f → Before l.self.depths.now l.self.sides.now l.self.returns.now l.u f
