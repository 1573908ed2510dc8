use Rattle.map_theory.specs.Maps.{darts_before}
use Rattle.pigale_c.specs.Labelled.{AreLabelsTo}
use Rattle.pigale_c.proofs.edge_labellings.numbers_of.Given as goal

abbrev pub invariant-loop-v : goal.invariant-loop-v
invariant-loop-v l = AreLabelsTo l.map l.labels (darts_before l.map.lists l.v) l.made.items
