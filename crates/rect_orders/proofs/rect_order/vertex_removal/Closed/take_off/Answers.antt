use Rattle.std.proofs.Common.{arith}
use Rattle.canon_order.proofs.Marks.{is_set-lt}
use Rattle.rect_orders.proofs.Notes.{IsPrepared-taken}
use Rattle.rect_orders.proofs.rect_order.vertex_removal.Closed.take_off.Goals as goal

pub mark-requires-clause-vertex : goal.mark-requires-clause-vertex
mark-requires-clause-vertex c = omega (arith, is_set-lt c.args.marked.now c.args.v c.requires.marked, c.requires.prepared.tally.marks_of_all)

pub invariant_of-off : goal.invariant_of-off
invariant_of-off c = record {
  few = c.args.self.now.few;
  simple = c.args.self.now.simple;
  vertex = omega (arith, is_set-lt c.args.marked.now c.args.v c.requires.marked, c.requires.prepared.tally.marks_of_all);
  marks = c.mark.ensures.tally.marks_of_all;
}

pub returns-clause-prepared : goal.returns-clause-prepared
returns-clause-prepared c =
    IsPrepared-taken c.args.self.now.lists.now c.args.self.now.frame.bottom.0 c.args.self.now.frame.left.0 c.args.marked.now c.args.near.now c.args.gone.now c.args.away.now c.args.stack.now.items c.args.v c.leave_cycle.new.marked c.leave_cycle.new.near c.mark.new.marks c.mark.new.counts c.leave_cycle.new.stack.items
    c.in_ok-leave_cycle.ensures.neighbours c.mark.ensures.elsewhere c.mark.ensures.tally c.in_ok-leave_cycle.ensures.noted c.requires.prepared
