use Rattle.simple_maps.proofs.FaultLemmas.{first_fault-IsSimpleMap}
use Rattle.half_edges.proofs.half_map.MapMaker.from_rotations.Goals as goal

pub from_twins-requires-clause-slots : goal.from_twins-requires-clause-slots
from_twins-requires-clause-slots c = rw (c.deref.ensures.value, c.deref-2.ensures.value) c.in_ok-fill_twins.ensures.slots

pub returns-clause-simple : goal.returns-clause-simple
returns-clause-simple c = first_fault-IsSimpleMap c.args.lists.now c.in_ok-fill_twins.ensures.slots.simple
