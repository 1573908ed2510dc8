-- A map of the class has an edge labelling over vertex 0's first dart.
use Rattle.drawings.specs.Duals.{top_vertex, right_vertex, bottom_vertex}
use Rattle.rect_orders.specs.Maps.{IsRectMap}
use Rattle.pigale_c.proofs.LabelLemmas.{all_labels}
use Rattle.pigale_c.proofs.edge_labellings.labelling_of.Goals as goal

pub edge_labels-requires-clause-class : goal.edge_labels-requires-clause-class
edge_labels-requires-clause-class c =
    let lists = c.args.map.now.lists in
    let q = c.biconnected_are_rect_maps.ensures lists c.requires.class in
    let class : IsRectMap lists 0 (top_vertex lists) (right_vertex lists) (bottom_vertex lists) = record { connected = q.connected; large = q.more; near = q.near; no_separating = q.triangles } in
    (0, top_vertex lists, right_vertex lists, bottom_vertex lists, c.base_of.ensures.first, class)

pub returns : goal.returns
returns c =
    let lists = c.args.map.now.lists in
    let q = c.biconnected_are_rect_maps.ensures lists c.requires.class in
    let class : IsRectMap lists 0 (top_vertex lists) (right_vertex lists) (bottom_vertex lists) = record { connected = q.connected; large = q.more; near = q.near; no_separating = q.triangles } in
    all_labels c.args.map.now _ _ (c.in_ok-labels.ensures.labelling 0 (top_vertex lists) (right_vertex lists) (bottom_vertex lists) c.base_of.ensures.first class) c.in_ok-made.ensures
