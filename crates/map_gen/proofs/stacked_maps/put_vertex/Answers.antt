use Rattle.map_gen.proofs.Spokes.{ready, spoke_a, spoke_c, far_a, far_b, far_c, two_b, two_c, vertex_put}
use Rattle.map_gen.proofs.stacked_maps.put_vertex.Goals as goal

pub add_edge-from_a-requires-clause-not_adjacent : goal.add_edge-from_a-requires-clause-not_adjacent
add_edge-from_a-requires-clause-not_adjacent c =
    let r = ready c.args.map.now c.args.face c.args.k c.requires.face.0 c.requires.face.1 c.requires.face.2 c.args.map.now.known.simple c.requires.vertex c.requires.alone in
    far_a c.args.map.now c.args.face c.args.k c.requires.face.0 r c.twin-at_a.result c.twin-at_a.ensures

pub add_edge-from_c-requires-clause-two_vertices : goal.add_edge-from_c-requires-clause-two_vertices
add_edge-from_c-requires-clause-two_vertices c =
    let r = ready c.args.map.now c.args.face c.args.k c.requires.face.0 c.requires.face.1 c.requires.face.2 c.args.map.now.known.simple c.requires.vertex c.requires.alone in
    let one = spoke_a c.args.map.now c.args.face c.args.k c.requires.face.0 r c.twin-at_a.result c.twin-at_a.ensures c.add_edge-from_a.new.self c.add_edge-from_a.result c.twin-to_a.result c.add_edge-from_a.ensures.lists c.add_edge-from_a.ensures.dart c.add_edge-from_a.ensures.ids c.twin-to_a.ensures in
    two_c c.args.map.now c.args.face c.args.k c.requires.face.0 r c.add_edge-from_a.new.self c.add_edge-from_a.result c.twin-to_a.result one c.twin-at_c.result c.twin-at_c.ensures

pub add_edge-from_c-requires-clause-not_adjacent : goal.add_edge-from_c-requires-clause-not_adjacent
add_edge-from_c-requires-clause-not_adjacent c =
    let r = ready c.args.map.now c.args.face c.args.k c.requires.face.0 c.requires.face.1 c.requires.face.2 c.args.map.now.known.simple c.requires.vertex c.requires.alone in
    let one = spoke_a c.args.map.now c.args.face c.args.k c.requires.face.0 r c.twin-at_a.result c.twin-at_a.ensures c.add_edge-from_a.new.self c.add_edge-from_a.result c.twin-to_a.result c.add_edge-from_a.ensures.lists c.add_edge-from_a.ensures.dart c.add_edge-from_a.ensures.ids c.twin-to_a.ensures in
    far_c c.args.map.now c.args.face c.args.k c.requires.face.0 r c.add_edge-from_a.new.self c.add_edge-from_a.result c.twin-to_a.result one c.twin-at_c.result c.twin-at_c.ensures

pub add_edge-from_b-requires-clause-two_vertices : goal.add_edge-from_b-requires-clause-two_vertices
add_edge-from_b-requires-clause-two_vertices c =
    let r = ready c.args.map.now c.args.face c.args.k c.requires.face.0 c.requires.face.1 c.requires.face.2 c.args.map.now.known.simple c.requires.vertex c.requires.alone in
    let one = spoke_a c.args.map.now c.args.face c.args.k c.requires.face.0 r c.twin-at_a.result c.twin-at_a.ensures c.add_edge-from_a.new.self c.add_edge-from_a.result c.twin-to_a.result c.add_edge-from_a.ensures.lists c.add_edge-from_a.ensures.dart c.add_edge-from_a.ensures.ids c.twin-to_a.ensures in
    let two = spoke_c c.args.map.now c.args.face c.args.k c.requires.face.0 r c.add_edge-from_a.new.self c.add_edge-from_a.result c.twin-to_a.result one c.twin-at_c.result c.twin-at_c.ensures c.add_edge-from_c.new.self c.add_edge-from_c.result c.twin-to_c.result c.add_edge-from_c.ensures.lists c.add_edge-from_c.ensures.dart c.add_edge-from_c.ensures.ids c.twin-to_c.ensures in
    two_b c.args.map.now c.args.face c.args.k c.requires.face.0 r c.add_edge-from_a.new.self c.add_edge-from_a.result c.twin-to_a.result one c.twin-at_c.result c.twin-at_c.ensures c.add_edge-from_c.new.self c.add_edge-from_c.result c.twin-to_c.result two c.twin-at_b.result c.twin-at_b.ensures

pub add_edge-from_b-requires-clause-not_adjacent : goal.add_edge-from_b-requires-clause-not_adjacent
add_edge-from_b-requires-clause-not_adjacent c =
    let r = ready c.args.map.now c.args.face c.args.k c.requires.face.0 c.requires.face.1 c.requires.face.2 c.args.map.now.known.simple c.requires.vertex c.requires.alone in
    let one = spoke_a c.args.map.now c.args.face c.args.k c.requires.face.0 r c.twin-at_a.result c.twin-at_a.ensures c.add_edge-from_a.new.self c.add_edge-from_a.result c.twin-to_a.result c.add_edge-from_a.ensures.lists c.add_edge-from_a.ensures.dart c.add_edge-from_a.ensures.ids c.twin-to_a.ensures in
    let two = spoke_c c.args.map.now c.args.face c.args.k c.requires.face.0 r c.add_edge-from_a.new.self c.add_edge-from_a.result c.twin-to_a.result one c.twin-at_c.result c.twin-at_c.ensures c.add_edge-from_c.new.self c.add_edge-from_c.result c.twin-to_c.result c.add_edge-from_c.ensures.lists c.add_edge-from_c.ensures.dart c.add_edge-from_c.ensures.ids c.twin-to_c.ensures in
    far_b c.args.map.now c.args.face c.args.k c.requires.face.0 r c.add_edge-from_a.new.self c.add_edge-from_a.result c.twin-to_a.result one c.twin-at_c.result c.twin-at_c.ensures c.add_edge-from_c.new.self c.add_edge-from_c.result c.twin-to_c.result two c.twin-at_b.result c.twin-at_b.ensures

pub returns-clause-put : goal.returns-clause-put
returns-clause-put c =
    let r = ready c.args.map.now c.args.face c.args.k c.requires.face.0 c.requires.face.1 c.requires.face.2 c.args.map.now.known.simple c.requires.vertex c.requires.alone in
    let one = spoke_a c.args.map.now c.args.face c.args.k c.requires.face.0 r c.twin-at_a.result c.twin-at_a.ensures c.add_edge-from_a.new.self c.add_edge-from_a.result c.twin-to_a.result c.add_edge-from_a.ensures.lists c.add_edge-from_a.ensures.dart c.add_edge-from_a.ensures.ids c.twin-to_a.ensures in
    let two = spoke_c c.args.map.now c.args.face c.args.k c.requires.face.0 r c.add_edge-from_a.new.self c.add_edge-from_a.result c.twin-to_a.result one c.twin-at_c.result c.twin-at_c.ensures c.add_edge-from_c.new.self c.add_edge-from_c.result c.twin-to_c.result c.add_edge-from_c.ensures.lists c.add_edge-from_c.ensures.dart c.add_edge-from_c.ensures.ids c.twin-to_c.ensures in
    vertex_put c.args.map.now c.args.face c.args.k c.requires.face.0 r c.add_edge-from_a.new.self c.add_edge-from_a.result c.twin-to_a.result one c.twin-at_c.result c.twin-at_c.ensures c.add_edge-from_c.new.self c.add_edge-from_c.result c.twin-to_c.result two c.twin-at_b.result c.twin-at_b.ensures c.add_edge-from_b.new.self c.add_edge-from_b.result c.twin-to_b.result c.add_edge-from_b.ensures.lists c.add_edge-from_b.ensures.dart c.add_edge-from_b.ensures.ids c.twin-to_b.ensures
