use Rattle.std.proofs.Common.{◌∙◌, length-set}
use Rattle.left_right_lists.proofs.Ordered.{ordered_more, ordered_done}
use Rattle.left_right_lists.proofs.edge_orders.Choice.order_of.Goals as goal

pub loop-u-preserved : goal.loop-u-preserved
loop-u-preserved c =
    record {
      long = length-set c.loop-u.free c.from.result _ ∙ c.loop-u.invariant.long;
      sorting = ordered_more c.args.self.now.depths.now c.args.self.now.sides.now c.args.self.now.returns.now c.args.free.now c.loop-u.free c.loop-u.order.items _ c.in-Some.u c.from.result c.from.ensures c.in_ok-push.ensures.items c.in-Some.ensures c.loop-u.invariant.sorting;
    }

pub returns : goal.returns
returns c = ordered_done c.args.self.now.depths.now c.args.self.now.sides.now c.args.self.now.returns.now c.args.free.now c.loop-u.free c.loop-u.order.items c.requires.order.0 c.requires.order.1 c.in_default.ensures c.loop-u.invariant.sorting
