use Rattle.std.proofs.Common.{◌≡◌, ◌≢◌, false, length, count_by, slice_index_or}
use Rattle.left_right_lists.specs.Orders.{Before}
use Rattle.left_right_lists.proofs.OrderLemmas.{IsSorting}
use Rattle.left_right_lists.proofs.edge_orders.Choice.order_of.Given as goal

abbrev pub invariant-loop-u : goal.invariant-loop-u
invariant-loop-u l = record {
  long : length l.free ≡ length l.initial.free;
  sorting : IsSorting (λ e f. (e ≢ f) × Before l.self.depths.now l.self.sides.now l.self.returns.now e f) (λ u. slice_index_or l.initial.free u false) (λ u. slice_index_or l.free u false) l.order.items;
}

abbrev pub decreases-loop-u : goal.decreases-loop-u
decreases-loop-u l = count_by (λ b. b) l.free
