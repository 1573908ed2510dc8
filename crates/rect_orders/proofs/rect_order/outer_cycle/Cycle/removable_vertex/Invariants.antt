use Rattle.std.proofs.Common.{vec_len}
use Rattle.rect_orders.specs.Contours.{IsStacked}
use Rattle.rect_orders.proofs.rect_order.outer_cycle.Cycle.removable_vertex.Given as goal

abbrev pub invariant-loop-stack : goal.invariant-loop-stack
invariant-loop-stack l = IsStacked l.self.bottom l.self.left l.self.marked.now l.self.near.now l.self.away.now l.stack.items

abbrev pub decreases-loop-stack : goal.decreases-loop-stack
decreases-loop-stack l = vec_len l.stack
