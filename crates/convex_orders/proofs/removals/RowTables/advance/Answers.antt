use Rattle.std.proofs.Common.{List, ℕ, sym, ap, subst}
use Rattle.convex_orders.specs.Contours.{vertices_of}
use Rattle.convex_orders.specs.Shown.{IsListOf}
use Rattle.convex_orders.proofs.Advancing.{begins, put_inner, long_enough, short_enough, list_after, row_after, room, kept_after}
use Rattle.convex_orders.proofs.removals.RowTables.advance.Goals as goal

pub trace-requires-clause-some : goal.trace-requires-clause-some
trace-requires-clause-some c = begins c.args.tables.now c.args.self.now c.take_out.new.self c.args.first c.args.end c.in_ok-x.x c.deref.result.now c.requires.kept c.in_ok-x.ensures.out c.in_ok-x.ensures.marks c.in_ok-x.ensures.rims c.deref.ensures.value c.requires.some.alive c.requires.some.w c.requires.some.r c.requires.some.o c.requires.some.is

pub put_in-requires-clause-inner : goal.put_in-requires-clause-inner
put_in-requires-clause-inner c = put_inner c.args.tables.now c.args.self.now c.take_out.new.self c.args.first c.args.end c.in_ok-x.x c.deref.result.now c.requires.kept c.in_ok-x.ensures.out c.in_ok-x.ensures.marks c.in_ok-x.ensures.rims c.deref.ensures.value c.requires.some.alive c.requires.some.w c.requires.some.r c.requires.some.o c.requires.some.is c.trace.new.left.items c.trace.new.self c.in_ok-trace.ensures.list c.in_ok-trace.ensures.noted

pub put_in-requires-clause-order : goal.put_in-requires-clause-order
put_in-requires-clause-order c = long_enough c.args.tables.now c.args.self.now c.take_out.new.self c.args.first c.args.end c.in_ok-x.x c.deref.result.now c.requires.kept c.in_ok-x.ensures.out c.in_ok-x.ensures.marks c.in_ok-x.ensures.rims c.deref.ensures.value c.requires.some.alive c.requires.some.w c.requires.some.r c.requires.some.o c.requires.some.is c.trace.new.left.items c.trace.new.self c.in_ok-trace.ensures.list c.in_ok-trace.ensures.noted

pub put_in-requires-clause-few : goal.put_in-requires-clause-few
put_in-requires-clause-few c = short_enough c.args.tables.now c.args.self.now c.take_out.new.self c.args.first c.args.end c.in_ok-x.x c.deref.result.now c.requires.kept c.in_ok-x.ensures.out c.in_ok-x.ensures.marks c.in_ok-x.ensures.rims c.deref.ensures.value c.requires.some.alive c.requires.some.w c.requires.some.r c.requires.some.o c.requires.some.is c.trace.new.left.items c.trace.new.self c.in_ok-trace.ensures.list c.in_ok-trace.ensures.noted

pub put_in-requires-clause-can : goal.put_in-requires-clause-can
put_in-requires-clause-can c = room c.args.tables.now c.args.self.now c.take_out.new.self c.args.first c.args.end c.in_ok-x.x c.deref.result.now c.requires.kept c.in_ok-x.ensures.out c.in_ok-x.ensures.marks c.in_ok-x.ensures.rims c.deref.ensures.value c.requires.some.alive c.requires.some.w c.requires.some.r c.requires.some.o c.requires.some.is c.trace.new.left.items c.trace.new.self c.in_ok-trace.ensures.list c.in_ok-trace.ensures.noted c.in_ok-x.ensures.counts

pub returns-clause-list : goal.returns-clause-list
returns-clause-list c = λ alive w r o at. subst (λ (z : List ℕ). IsListOf z o.contour o.places) (sym (ap vertices_of c.in_ok-put_in.ensures.contour)) (list_after c.args.tables.now c.args.self.now c.take_out.new.self c.args.first c.args.end c.in_ok-x.x c.deref.result.now c.requires.kept c.in_ok-x.ensures.out c.in_ok-x.ensures.marks c.in_ok-x.ensures.rims c.deref.ensures.value alive w r o at c.trace.new.left.items c.trace.new.self c.in_ok-trace.ensures.list c.in_ok-trace.ensures.noted)

pub returns-clause-row : goal.returns-clause-row
returns-clause-row c = λ alive w r o at. row_after c.args.tables.now c.args.self.now c.take_out.new.self c.args.first c.args.end c.in_ok-x.x c.deref.result.now c.requires.kept c.in_ok-x.ensures.out c.in_ok-x.ensures.marks c.in_ok-x.ensures.rims c.deref.ensures.value alive w r o at c.trace.new.left.items c.trace.new.self c.in_ok-trace.ensures.list c.in_ok-trace.ensures.noted c.put_in.new.self.rows c.in_ok-put_in.ensures.row

pub returns-clause-kept : goal.returns-clause-kept
returns-clause-kept c = kept_after c.args.tables.now c.args.self.now c.take_out.new.self c.args.first c.args.end c.in_ok-x.x c.deref.result.now c.requires.kept c.in_ok-x.ensures.out c.in_ok-x.ensures.marks c.in_ok-x.ensures.rims c.deref.ensures.value c.requires.some.alive c.requires.some.w c.requires.some.r c.requires.some.o c.requires.some.is c.trace.new.left.items c.trace.new.self c.in_ok-trace.ensures.list c.in_ok-trace.ensures.noted c.in_ok-x.ensures.counts c.put_in.new.self c.trace.ensures.size c.in_ok-put_in.ensures.marks c.in_ok-put_in.ensures.rims (ap vertices_of c.in_ok-put_in.ensures.contour) (ap (λ z. z.left.items) c.in_ok-put_in.ensures.contour) c.in_ok-put_in.ensures.counts
