use Rattle.std.proofs.Common.{arith}
use Rattle.canon_order.proofs.Pushes.{push-kept, push-within, push-here}
use Rattle.canon_order.proofs.vertex_list_tools.note.Goals as goal

pub returns-clause-kept : goal.returns-clause-kept
returns-clause-kept c = push-kept c.args.stack.now.items c.push_reserved.new.self.items c.truncate.new.self.items c.args.u _ c.push_reserved.ensures.items c.truncate.ensures.items c.marked_twos-noted.result c.marked_twos-noted.ensures.few (omega (arith, c.len.ensures))

pub returns-clause-vertices : goal.returns-clause-vertices
returns-clause-vertices c = push-within c.args.stack.now.items c.push_reserved.new.self.items c.truncate.new.self.items c.args.u _ c.push_reserved.ensures.items c.truncate.ensures.items c.marked_twos-noted.result c.marked_twos-noted.ensures.few (omega (arith, c.len.ensures))

pub returns-clause-noted : goal.returns-clause-noted
returns-clause-noted c = λ marked two. push-here c.args.stack.now.items c.push_reserved.new.self.items c.truncate.new.self.items c.args.u _ c.push_reserved.ensures.items c.truncate.ensures.items c.marked_twos-noted.result c.marked_twos-noted.ensures.few (omega (arith, c.len.ensures)) (c.marked_twos-noted.ensures.one marked two)
