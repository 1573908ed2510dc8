use Rattle.std.proofs.Common.{◌+◌}
use Rattle.map_theory.specs.Maps.{darts_before}
use Rattle.simple_maps.proofs.TableLemmas.{AreSlotsTo}
use Rattle.simple_maps.proofs.exact_search.push_slots.Given as goal

abbrev pub invariant-loop-v : goal.invariant-loop-v
invariant-loop-v l = AreSlotsTo l.lists l.tails.items l.twins.items (darts_before l.lists l.v)

abbrev pub invariant-loop-u : goal.invariant-loop-u
invariant-loop-u l = AreSlotsTo l.lists l.tails.items l.twins.items (darts_before l.lists l.v + l.u-index)
