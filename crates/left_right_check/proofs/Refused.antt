-- What wrong bodies would give.
use Rattle.std.proofs.Common.{[], ◌∷◌, refl, arith}
use Rattle.classes.specs.Classes.{merge}
use Rattle.map_lists.specs.Lists.{Lists}
use Rattle.map_theory.specs.Maps.{IsSimpleMap, IsPlane, entry_after, face_count, component_count}
use Rattle.simple_maps.specs.Faults.{first_fault}
use Rattle.simple_maps.proofs.FaultLemmas.{IsSimpleMap-from_first_fault}
use Rattle.embed_theorem.specs.Expanded.{IsMapOf}
use Rattle.embed_theorem.specs.ListGraphs.{graph_of}
use Rattle.embed_theorem.proofs.Graphs.{just_edges}
use Rattle.left_right_check.specs.Ties.{HasNoMap}

-- the octahedron: six vertices, and twelve edges in a map of genus zero
abbrev pub octahedron : Lists
octahedron = (1 ∷ 2 ∷ 3 ∷ 4 ∷ []) ∷ (0 ∷ 4 ∷ 5 ∷ 2 ∷ []) ∷ (0 ∷ 1 ∷ 5 ∷ 3 ∷ []) ∷ (0 ∷ 2 ∷ 5 ∷ 4 ∷ []) ∷ (0 ∷ 3 ∷ 5 ∷ 1 ∷ []) ∷ (1 ∷ 4 ∷ 3 ∷ 2 ∷ []) ∷ []

simple : IsSimpleMap octahedron
unfolding first_fault
simple = IsSimpleMap-from_first_fault octahedron (omega arith) refl

plane : IsPlane octahedron
unfolding entry_after merge face_count component_count
plane = refl

pub octahedron_is_plane : IsMapOf octahedron (graph_of octahedron)
octahedron_is_plane = record { simple = simple; plane = plane; edges = just_edges octahedron simple }

-- a test that says no to the octahedron
octahedron_refused : ¬ HasNoMap (graph_of octahedron)
octahedron_refused none = none octahedron octahedron_is_plane
