use Rattle.std.proofs.Common.{length, arith}
use Rattle.canon_order.specs.Orders.{vertices_of}
use Rattle.rect_dual.specs.RectDrawTables.{AreSmall}
use Rattle.rect_dual.proofs.Drawn.{rows_are, labelled, steps, tables_small, drawn_dual, drawn_by_labels}
use Rattle.rect_dual.proofs.draw.drawing.framed.Goals as goal
use Rattle.rect_dual.proofs.draw.drawing.framed.Goals.{In_ok-tables}

small : (c : In_ok-tables) → AreSmall (length c.in_ok-made.made.order.rank) c.in_ok-tables.tables.left.items c.in_ok-tables.tables.right.items c.in_ok-tables.tables.low.items c.in_ok-tables.tables.high.items
small c =
    tables_small c.args.lists.now c.args.frame.left.0 c.args.frame.top.0 c.args.frame.right.0 c.args.frame.bottom.0 (vertices_of c.in_ok-made.made.order) c.in_ok-made.made.order.rank c.in_ok-made.made.rows c.in_ok-made.ensures.rows c.order_is_run.ensures c.rect_order_is_run.ensures c.in_ok-tables.tables.left.items c.in_ok-tables.tables.right.items c.in_ok-tables.tables.low.items c.in_ok-tables.tables.high.items
    (c.in_ok-tables.ensures.boxes (steps c.args.lists.now c.args.frame.left.0 c.args.frame.top.0 c.args.frame.right.0 c.args.frame.bottom.0 (vertices_of c.in_ok-made.made.order) c.in_ok-made.made.order.rank c.in_ok-made.made.rows c.in_ok-made.ensures.rows c.order_is_run.ensures) (rows_are c.args.lists.now c.args.frame.left.0 c.args.frame.top.0 c.args.frame.right.0 c.args.frame.bottom.0 (vertices_of c.in_ok-made.made.order) c.in_ok-made.made.order.rank c.in_ok-made.made.rows c.in_ok-made.ensures.rows c.order_is_run.ensures) (labelled c.args.lists.now c.args.frame.left.0 c.args.frame.top.0 c.args.frame.right.0 c.args.frame.bottom.0 (vertices_of c.in_ok-made.made.order) c.in_ok-made.made.order.rank c.in_ok-made.made.rows c.in_ok-made.ensures.rows c.order_is_run.ensures c.rect_order_is_run.ensures)) c.boxes_are_dual.ensures c.facts.ensures

pub box_tables-requires : goal.box_tables-requires
box_tables-requires c = record { run = (steps c.args.lists.now c.args.frame.left.0 c.args.frame.top.0 c.args.frame.right.0 c.args.frame.bottom.0 (vertices_of c.in_ok-made.made.order) c.in_ok-made.made.order.rank c.in_ok-made.made.rows c.in_ok-made.ensures.rows c.order_is_run.ensures, rows_are c.args.lists.now c.args.frame.left.0 c.args.frame.top.0 c.args.frame.right.0 c.args.frame.bottom.0 (vertices_of c.in_ok-made.made.order) c.in_ok-made.made.order.rank c.in_ok-made.made.rows c.in_ok-made.ensures.rows c.order_is_run.ensures) }

pub figure_at-requires-clause-sizes : goal.figure_at-requires-clause-sizes
figure_at-requires-clause-sizes c =
    let r = c.in_ok-made.ensures.rows.rank.count in
    let n = c.in_ok-made.ensures.rows.lower.count in
    let e = c.in_ok-tables.ensures in
    record { left_count = omega (arith, e.left, r, n); right_count = omega (arith, e.right, r, n); low_count = omega (arith, e.low, r, n); high_count = omega (arith, e.high, r, n) }

pub figure_at-requires-clause-small : goal.figure_at-requires-clause-small
figure_at-requires-clause-small c = small (goal.at.figure_at-requires-clause-small c).In_ok-tables

pub returns-clause-dual : goal.returns-clause-dual
returns-clause-dual c =
    let e = c.in_ok-figure.ensures in
    drawn_dual c.args.lists.now c.args.frame.left.0 c.args.frame.top.0 c.args.frame.right.0 c.args.frame.bottom.0 (vertices_of c.in_ok-made.made.order) c.in_ok-made.made.order.rank c.in_ok-made.made.rows c.in_ok-made.ensures.rows c.order_is_run.ensures c.rect_order_is_run.ensures c.in_ok-tables.tables.left.items c.in_ok-tables.tables.right.items c.in_ok-tables.tables.low.items c.in_ok-tables.tables.high.items
    (c.in_ok-tables.ensures.boxes (steps c.args.lists.now c.args.frame.left.0 c.args.frame.top.0 c.args.frame.right.0 c.args.frame.bottom.0 (vertices_of c.in_ok-made.made.order) c.in_ok-made.made.order.rank c.in_ok-made.made.rows c.in_ok-made.ensures.rows c.order_is_run.ensures) (rows_are c.args.lists.now c.args.frame.left.0 c.args.frame.top.0 c.args.frame.right.0 c.args.frame.bottom.0 (vertices_of c.in_ok-made.made.order) c.in_ok-made.made.order.rank c.in_ok-made.made.rows c.in_ok-made.ensures.rows c.order_is_run.ensures) (labelled c.args.lists.now c.args.frame.left.0 c.args.frame.top.0 c.args.frame.right.0 c.args.frame.bottom.0 (vertices_of c.in_ok-made.made.order) c.in_ok-made.made.order.rank c.in_ok-made.made.rows c.in_ok-made.ensures.rows c.order_is_run.ensures c.rect_order_is_run.ensures)) c.in_ok-made.ensures.ranks c.in_ok-figure.figure e.x1 e.x2 e.y1 e.y2 c.boxes_are_dual_of_map.ensures

pub returns-clause-labelling : goal.returns-clause-labelling
returns-clause-labelling c =
    let e = c.in_ok-figure.ensures in
    drawn_by_labels c.args.lists.now c.args.frame.left.0 c.args.frame.top.0 c.args.frame.right.0 c.args.frame.bottom.0 (vertices_of c.in_ok-made.made.order) c.in_ok-made.made.order.rank c.in_ok-made.made.rows c.in_ok-made.ensures.rows c.order_is_run.ensures c.rect_order_is_run.ensures c.in_ok-tables.tables.left.items c.in_ok-tables.tables.right.items c.in_ok-tables.tables.low.items c.in_ok-tables.tables.high.items
    (c.in_ok-tables.ensures.boxes (steps c.args.lists.now c.args.frame.left.0 c.args.frame.top.0 c.args.frame.right.0 c.args.frame.bottom.0 (vertices_of c.in_ok-made.made.order) c.in_ok-made.made.order.rank c.in_ok-made.made.rows c.in_ok-made.ensures.rows c.order_is_run.ensures) (rows_are c.args.lists.now c.args.frame.left.0 c.args.frame.top.0 c.args.frame.right.0 c.args.frame.bottom.0 (vertices_of c.in_ok-made.made.order) c.in_ok-made.made.order.rank c.in_ok-made.made.rows c.in_ok-made.ensures.rows c.order_is_run.ensures) (labelled c.args.lists.now c.args.frame.left.0 c.args.frame.top.0 c.args.frame.right.0 c.args.frame.bottom.0 (vertices_of c.in_ok-made.made.order) c.in_ok-made.made.order.rank c.in_ok-made.made.rows c.in_ok-made.ensures.rows c.order_is_run.ensures c.rect_order_is_run.ensures)) c.in_ok-made.ensures.ranks c.in_ok-figure.figure e.x1 e.x2 e.y1 e.y2 c.boxes_by_labelling.ensures
