use Rattle.std.proofs.Common.{◌∙◌}
use Rattle.conn_parts.proofs.counted_maps.CountedMaker.plane_half_map.Goals as goal

pub euler_by_twins-count-requires-clause-twins : goal.euler_by_twins-count-requires-clause-twins
euler_by_twins-count-requires-clause-twins c = rw c.deref_mut.ensures.value c.in_ok-map.ensures.twins

pub euler_by_twins-count-requires-clause-components : goal.euler_by_twins-count-requires-clause-components
euler_by_twins-count-requires-clause-components c = c.count.ensures ∙ c.in_ok-map.ensures.parts.count
