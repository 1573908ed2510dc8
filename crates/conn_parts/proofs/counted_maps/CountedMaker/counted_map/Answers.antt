use Rattle.std.proofs.Common.{◌∙◌}
use Rattle.conn_parts.proofs.counted_maps.CountedMaker.counted_map.Goals as goal

pub euler_by_twins-count-requires-clause-twins : goal.euler_by_twins-count-requires-clause-twins
euler_by_twins-count-requires-clause-twins c = rw c.deref_mut.ensures.value c.in_ok-map.ensures.twins

pub euler_by_twins-count-requires-clause-components : goal.euler_by_twins-count-requires-clause-components
euler_by_twins-count-requires-clause-components c = c.count.ensures ∙ c.in_ok-map.ensures.parts.count

pub returns-clause-counted : goal.returns-clause-counted
returns-clause-counted c = record {
  simple = c.in_ok-map.ensures.known;
  lists_are = c.in_ok-map.ensures.lists;
  parts = rw c.replace-parts.ensures.value c.in_ok-map.ensures.parts;
  count = record { n = c.euler_by_twins-count.ensures.n; m = c.euler_by_twins-count.ensures.m; f = c.euler_by_twins-count.ensures.f; c = c.euler_by_twins-count.ensures.c };
}
