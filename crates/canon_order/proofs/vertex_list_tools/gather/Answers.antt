use Rattle.std.proofs.Common.{arith}
use Rattle.canon_order.specs.Marks.{is_set}
use Rattle.canon_order.proofs.Pushes.{push-unless}
use Rattle.canon_order.proofs.vertex_list_tools.gather.Goals as goal

pub returns-clause-items : goal.returns-clause-items
returns-clause-items c = push-unless c.args.fresh.now.items c.push_reserved.new.self.items c.truncate.new.self.items c.args.u _ c.push_reserved.ensures.items c.truncate.ensures.items (is_set c.args.marked.now c.args.u) (is_set c.args.gone.now c.args.u) c.one_of-passed_over.result c.one_of-passed_over.ensures.none c.one_of-passed_over.ensures.first c.one_of-passed_over.ensures.second (omega (arith, c.len.ensures)) (omega (arith, c.push_reserved.ensures.len))
