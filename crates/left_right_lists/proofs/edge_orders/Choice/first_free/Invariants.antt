use Rattle.std.proofs.Common.{ℕ, ◌<◌}
use Rattle.left_right_lists.specs.Orders.{IsFirst}
use Rattle.left_right_lists.proofs.edge_orders.Choice.first_free.Given as goal

abbrev pub invariant-loop-u : goal.invariant-loop-u
invariant-loop-u l = (u : ℕ) → u < l.u → ¬ IsFirst l.self.depths.now l.self.sides.now l.self.returns.now l.free u
