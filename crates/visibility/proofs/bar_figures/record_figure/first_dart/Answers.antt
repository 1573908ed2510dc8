use Rattle.visibility.proofs.FirstDart.{some_neighbour}
use Rattle.visibility.proofs.bar_figures.record_figure.first_dart.Goals as goal

pub unreachable-requires : goal.unreachable-requires
unreachable-requires c = some_neighbour c.args.map.now.lists c.requires.biconnected c.in-None.ensures.dart
