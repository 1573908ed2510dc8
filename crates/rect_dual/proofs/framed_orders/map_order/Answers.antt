use Rattle.std.proofs.Common.{◌≡◌, sym, subst}
use Rattle.map_lists.specs.Lists.{Lists}
use Rattle.map_theory.specs.Maps.{follows}
use Rattle.canon_order.specs.Orders.{vertices_of}
use Rattle.rect_orders.specs.Maps.{IsRectMap}
use Rattle.rect_dual.specs.RectDrawTables.{HasLowerRows}
use Rattle.rect_dual.proofs.framed_orders.map_order.Goals as goal

pub framed_order-requires-clause-class : goal.framed_order-requires-clause-class
framed_order-requires-clause-class c =
    let f = c.args.frame in
    subst (λ (ls : Lists). IsRectMap ls f.left.0 f.top.0 f.right.0 f.bottom.0) (sym c.in_ok-lists.ensures) c.requires.class

pub framed_order-requires-clause-inner : goal.framed_order-requires-clause-inner
framed_order-requires-clause-inner c =
    let f = c.args.frame in
    subst (λ (ls : Lists). f.inner.0 ≡ follows ls f.bottom.0 f.left.0) (sym c.in_ok-lists.ensures) c.requires.inner

pub returns-clause-rows : goal.returns-clause-rows
returns-clause-rows c =
    let f = c.args.frame in
    let made = c.in_ok-made.made in
    subst (λ (ls : Lists). HasLowerRows ls f.left.0 f.top.0 f.right.0 f.bottom.0 (vertices_of made.order) made.order.rank made.rows) c.in_ok-lists.ensures c.in_ok-made.ensures.rows
