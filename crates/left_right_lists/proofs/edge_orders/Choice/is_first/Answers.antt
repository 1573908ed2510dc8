use Rattle.std.proofs.Common.{arith}
use Rattle.left_right_lists.proofs.Ordered.{in_free}
use Rattle.left_right_lists.proofs.edge_orders.Choice.is_first.Goals as goal

pub list-ds-requires : goal.list-ds-requires
list-ds-requires c =
    let l = in_free c.args.free.now c.args.u (c.is_free.ensures.0 c.if-not-is_free.false) in omega (arith, l, c.requires, c.from.ensures, c.args.self.now.lists)
