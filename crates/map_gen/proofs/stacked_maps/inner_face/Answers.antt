use Rattle.map_gen.proofs.stacked_maps.inner_face.Goals as goal

pub dart_of-requires-clause-v_in : goal.dart_of-requires-clause-v_in
dart_of-requires-clause-v_in c = c.args.map.now.known.simple.in_range 0 2 c.requires.edge
