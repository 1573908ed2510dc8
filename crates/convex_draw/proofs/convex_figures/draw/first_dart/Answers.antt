use Rattle.convex_draw.proofs.FirstDart.{some_neighbour}
use Rattle.convex_draw.proofs.convex_figures.draw.first_dart.Goals as goal

pub unreachable-requires : goal.unreachable-requires
unreachable-requires c = some_neighbour c.args.map.now.lists c.requires.three c.in-None.ensures.dart
