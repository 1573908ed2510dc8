-- Maps that wrong bodies would call triangulations: each lacks edges.
use Rattle.std.proofs.Common.{[], ◌∷◌, arith}
use Rattle.plane_laws.specs.Triangulations.{IsTriangulation}

-- the path 0, 1, 2 with no edge put in, each face being called a triangle
every_face_a_triangle : IsTriangulation ((1 ∷ []) ∷ (0 ∷ 2 ∷ []) ∷ (1 ∷ []) ∷ []) → ⊥
every_face_a_triangle c = omega (arith, c.edges)

-- of three isolated vertices the third is left apart
third_component_left_apart : IsTriangulation ((1 ∷ []) ∷ (0 ∷ []) ∷ [] ∷ []) → ⊥
third_component_left_apart c = omega (arith, c.edges)
