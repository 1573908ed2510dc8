use Rattle.std.proofs.Common.{◌+◌}
use Rattle.map_theory.specs.Maps.{darts_before}
use Rattle.half_edges.specs.Map.{IsLive}
use Rattle.pigale_c.specs.Labelled.{AreLabelsTo}
use Rattle.pigale_c.proofs.edge_labellings.push_numbers.Given as goal

abbrev pub invariant-loop-u : goal.invariant-loop-u
invariant-loop-u l = AreLabelsTo l.map l.labels (darts_before l.map.lists l.v + l.u-index) l.made.items × IsLive l.map l.hint.0
