use Rattle.std.proofs.Common.{vec_len}
use Rattle.canon_order.specs.Contours.{IsPrepared}
use Rattle.canon_order.proofs.removable_vertices.removable_vertex.Given as goal

abbrev pub invariant-loop-stack : goal.invariant-loop-stack
invariant-loop-stack l = IsPrepared l.base.lists.now l.base.t l.base.s l.marked l.near l.stack.items

abbrev pub decreases-loop-stack : goal.decreases-loop-stack
decreases-loop-stack l = vec_len l.stack
