use Rattle.drawings.specs.Duals.{top_vertex, right_vertex, bottom_vertex}
use Rattle.rect_orders.specs.Maps.{IsRectMap}
use Rattle.drawing_rows.proofs.rects.of_block.Goals as goal

pub rect_draw-requires-clause-class : goal.rect_draw-requires-clause-class
rect_draw-requires-clause-class c =
    let lists = c.args.map.now.lists in
    let q = c.biconnected_are_rect_maps.ensures lists c.requires in
    let class : IsRectMap lists 0 (top_vertex lists) (right_vertex lists) (bottom_vertex lists) = record { connected = q.connected; large = q.more; near = q.near; no_separating = q.triangles } in
    (0, top_vertex lists, right_vertex lists, bottom_vertex lists, c.in-Some.ensures.first, class)

pub edge_labels-requires-clause-class : goal.edge_labels-requires-clause-class
edge_labels-requires-clause-class c =
    let lists = c.args.map.now.lists in
    let q = c.biconnected_are_rect_maps.ensures lists c.requires in
    let class : IsRectMap lists 0 (top_vertex lists) (right_vertex lists) (bottom_vertex lists) = record { connected = q.connected; large = q.more; near = q.near; no_separating = q.triangles } in
    (0, top_vertex lists, right_vertex lists, bottom_vertex lists, c.in-Some.ensures.first, class)
