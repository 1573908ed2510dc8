use Rattle.std.proofs.Common.{◌-◌, ◌≤◌, length, take, refl, sym, ap, ◌∙◌, subst, arith}
use Rattle.map_lists.specs.Lists.{Lists}
use Rattle.plane_laws.specs.Triangulations.{IsTriangulation}
use Rattle.canon_order.specs.Orders.{IsCanonicalOrder, vertices_of}
use Rattle.rect_orders.specs.Maps.{closed}
use Rattle.rect_orders.proofs.Closed.{length-closed}
use Rattle.rect_dual.specs.RectDrawTables.{AreLowerRowsOf}
use Rattle.rect_dual.proofs.RectDrawRows.{AreLowerRowsOf-taken}
use Rattle.rect_dual.proofs.framed_orders.framed_order.Goals as goal

pub rect_order-requires : goal.rect_order-requires
rect_order-requires c = record { class = (c.args.lists.now, record { class = c.requires.class; closed_is = c.in_ok-more.ensures; inner_is = c.requires.inner }) }

pub rows_into-requires-clause-triangulation : goal.rows_into-requires-clause-triangulation
rows_into-requires-clause-triangulation c =
    let f = c.args.frame in
    subst IsTriangulation (sym c.in_ok-more.ensures) (c.closed_is_triangulation.ensures c.args.lists.now f.left.0 f.top.0 f.right.0 f.bottom.0 c.requires.class).0

pub rows_into-requires-clause-order : goal.rows_into-requires-clause-order
rows_into-requires-clause-order c =
    let f = c.args.frame in
    let order = c.in_ok-order.ensures.order c.args.lists.now record { class = c.requires.class; closed_is = c.in_ok-more.ensures; inner_is = c.requires.inner } in
    ((f.bottom.0, f.left.0), subst (λ (l : Lists). IsCanonicalOrder l (f.bottom.0, f.left.0) (vertices_of c.in_ok-order.order)) (sym c.in_ok-more.ensures) order.canonical)

pub returns-clause-rows : goal.returns-clause-rows
returns-clause-rows c =
    let f = c.args.frame in
    let at = vertices_of c.in_ok-order.order in
    let all = c.in_ok-rows.rows in
    let order = c.in_ok-order.ensures.order c.args.lists.now record { class = c.requires.class; closed_is = c.in_ok-more.ensures; inner_is = c.requires.inner } in
    let many : 5 ≤ length at = omega (arith, order.canonical.count, length-closed c.args.lists.now f.left.0 f.top.0 f.right.0 f.bottom.0 c.requires.class, c.requires.class.large) in
    record {
      class = c.requires.class;
      triangulation = (c.closed_is_triangulation.ensures c.args.lists.now f.left.0 f.top.0 f.right.0 f.bottom.0 c.requires.class).0;
      order = order;
      rank = c.in_ok-order.order.ranked;
      lower = subst (λ (l : Lists). AreLowerRowsOf l at c.truncate.new.self) c.in_ok-more.ensures
          (AreLowerRowsOf-taken c.in_ok-more.more at all c.truncate.new.self (length all - 1) c.in_ok-rows.ensures many refl (c.truncate.ensures ∙ ap (λ k. take k all) (ap (λ k. k - 1) c.len-lower.ensures.is)));
    }

pub returns-clause-ranks : goal.returns-clause-ranks
returns-clause-ranks c =
    let f = c.args.frame in
    let order = c.in_ok-order.ensures.order c.args.lists.now record { class = c.requires.class; closed_is = c.in_ok-more.ensures; inner_is = c.requires.inner } in
    c.ranks_are_places.ensures (closed c.args.lists.now f.left.0 f.top.0 f.right.0 f.bottom.0) (f.bottom.0, f.left.0) (vertices_of c.in_ok-order.order) c.in_ok-order.order.rank order.canonical c.in_ok-order.order.ranked
