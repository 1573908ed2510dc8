use Rattle.simple_maps.proofs.FaultLemmas.{first_fault-IsSimpleMap}
use Rattle.conn_parts.proofs.counted_maps.CountedMaker.half_map.Goals as goal

pub from_twins-requires-clause-slots : goal.from_twins-requires-clause-slots
from_twins-requires-clause-slots c = rw (c.deref.ensures.value, c.deref-2.ensures.value) c.in_ok-fill_twins.ensures.slots

pub numbered_parts-requires : goal.numbered_parts-requires
numbered_parts-requires c = record { simple = c.in_ok-fill_twins.ensures.slots.simple }

pub returns-clause-simple : goal.returns-clause-simple
returns-clause-simple c = first_fault-IsSimpleMap c.args.lists.now c.in_ok-fill_twins.ensures.slots.simple
