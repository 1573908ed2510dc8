-- The heads of darts are vertices.
use Rattle.pigale_c.proofs.edge_labellings.dart_between.Goals as goal

pub dart_of-requires-clause-v_in : goal.dart_of-requires-clause-v_in
dart_of-requires-clause-v_in c = c.facts.ensures.simple.in_range c.args.v c.args.u c.requires.dart
