-- A map with what is counted of it.
use Rattle.std.specs.Prelude.{◌≡◌}
use Rattle.map_lists.specs.Lists.{Lists}
use Rattle.map_theory.specs.Maps.{IsSimpleMap, vertex_count, edge_count, face_count, component_count}
use Rattle.euler_faces.specs.declared.euler_counts.EulerCount.{EulerCount}
use Rattle.conn_parts.specs.Parts.{ArePartsOf}
use Rattle.conn_parts.specs.declared.counted_maps.CountedMap.{CountedMap}

-- how many vertices, edges, faces and components the map of the lists has
pub record IsCountOf (lists : Lists) (count : EulerCount) : Type 0 where
  pub n : count.n ≡ vertex_count lists
  pub m : count.m ≡ edge_count lists
  pub f : count.f ≡ face_count lists
  pub c : count.c ≡ component_count lists

-- The map of these lists, which are simple, with its components and its counts.
pub record IsCountedMap (lists : Lists) (found : CountedMap) : Type 0 where
  pub simple : IsSimpleMap lists
  pub lists_are : found.map.lists ≡ lists
  pub parts : ArePartsOf lists found.parts
  pub count : IsCountOf lists found.count
