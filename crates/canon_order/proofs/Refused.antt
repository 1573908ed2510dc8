-- Orders of the tetrahedron that wrong bodies would give for the base from 0 to 1: none is canonical.
use Rattle.std.proofs.Common.{[], ◌∷◌, arith}
use Rattle.map_lists.specs.Lists.{Lists}
use Rattle.map_theory.specs.Maps.{entry_after}
use Rattle.canon_order.specs.Orders.{IsCanonicalOrder}

abbrev tetrahedron : Lists
tetrahedron = (1 ∷ 2 ∷ 3 ∷ []) ∷ (0 ∷ 3 ∷ 2 ∷ []) ∷ (0 ∷ 1 ∷ 3 ∷ []) ∷ (0 ∷ 2 ∷ 1 ∷ []) ∷ []

-- the contour begins with the vertex on the other side of the base, which is then the last
last_on_the_other_side : IsCanonicalOrder tetrahedron (0, 1) (1 ∷ 0 ∷ 2 ∷ 2 ∷ []) → ⊥
unfolding entry_after
last_on_the_other_side c = omega (arith, c.last)

-- the first vertex of the base was taken off as the others are
first_vertex_taken_off : IsCanonicalOrder tetrahedron (0, 1) (1 ∷ 0 ∷ 2 ∷ 1 ∷ []) → ⊥
unfolding entry_after
first_vertex_taken_off c = omega (arith, c.last)
