use Rattle.std.proofs.Common.{◌≡◌, sym, ap, ◌∙◌}
use Rattle.map_theory.specs.Maps.{vertex_count, edge_count, face_count, component_count}
use Rattle.euler_faces.proofs.euler_counts.euler_by_twins.Goals as goal

pub count_orbits-orbits-requires-clause-twins : goal.count_orbits-orbits-requires-clause-twins
count_orbits-orbits-requires-clause-twins c = rw c.stored-map.ensures c.requires.twins

pub count_isolated-isolated-requires : goal.count_isolated-isolated-requires
count_isolated-isolated-requires c = rw c.stored-map.ensures c.requires.components

pub returns-clause-n : goal.returns-clause-n
returns-clause-n c = c.euler_of.ensures.n ∙ ap vertex_count c.stored-map.ensures

pub returns-clause-m : goal.returns-clause-m
returns-clause-m c = c.euler_of.ensures.m ∙ ap edge_count c.stored-map.ensures

pub returns-clause-f : goal.returns-clause-f
returns-clause-f c = c.euler_of.ensures.f ∙ ap face_count c.stored-map.ensures
