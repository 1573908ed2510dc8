-- The definitions that the laws cite, run on small maps.
use Rattle.std.specs.Prelude.{◌≡◌, [], ◌∷◌, refl, true, false}
use Rattle.map_lists.specs.Lists.{Lists}
use Rattle.map_theory.specs.Maps.{entry_after, component_classes}
use Rattle.map_theory.specs.Paths.{arc}
use Rattle.map_theory.specs.Edges.{without_edge}
use Rattle.plane_laws.specs.Laws.{side, IsTriangle}
use Rattle.classes.specs.Classes.{same_class, merge}

-- from the third entry on, round to before the second
arc_round : arc (11 ∷ 12 ∷ 13 ∷ 14 ∷ []) 13 12 ≡ 13 ∷ 14 ∷ 11 ∷ []
arc_round = refl

arc_empty : arc (11 ∷ 12 ∷ 13 ∷ []) 12 12 ≡ []
arc_empty = refl

-- K4 without the edge between its first two vertices
abbrev k4 : Lists
k4 = (1 ∷ 2 ∷ 3 ∷ []) ∷ (0 ∷ 3 ∷ 2 ∷ []) ∷ (0 ∷ 1 ∷ 3 ∷ []) ∷ (0 ∷ 2 ∷ 1 ∷ []) ∷ []

k4_without : without_edge k4 0 1 ≡ (2 ∷ 3 ∷ []) ∷ (3 ∷ 2 ∷ []) ∷ (0 ∷ 1 ∷ 3 ∷ []) ∷ (0 ∷ 2 ∷ 1 ∷ []) ∷ []
k4_without = refl

-- K4 at its first edge, with a corner of each end: what stands on the one side
k4_side : side k4 0 1 2 3 ≡ 2 ∷ 3 ∷ []
unfolding entry_after
k4_side = refl

-- each face of the tetrahedron is a triangle
k4_triangle : IsTriangle k4 (0, 1)
unfolding entry_after
k4_triangle = refl

-- an edge and a vertex beside it: the edge's ends are in one component, and the vertex is in another
edge_together : same_class (component_classes ((1 ∷ []) ∷ (0 ∷ []) ∷ [] ∷ [])) 0 1 ≡ true
unfolding merge
edge_together = refl

edge_and_vertex : same_class (component_classes ((1 ∷ []) ∷ (0 ∷ []) ∷ [] ∷ [])) 0 2 ≡ false
unfolding merge
edge_and_vertex = refl
