-- Which condition lists break first, on worked cases. Each is a computation.
use Rattle.std.specs.Prelude.{◌≡◌, [], ◌∷◌, Some, None, refl}
use Rattle.classes.specs.Classes.{merge}
use Rattle.map_theory.specs.Maps.{entry_after, face_count, component_count}
use Rattle.simple_maps.specs.Faults.{first_fault}
use Rattle.refusals.specs.Conditions.{first_refusal}
use Rattle.refusals.specs.declared.conditions.Refusal.TheVariants.{OneSided, Small, Genus}

-- three isolated vertices, and two triangles, break none of the first six
isolated_three : first_refusal 3 ([] ∷ [] ∷ [] ∷ []) ≡ None
unfolding entry_after merge face_count component_count first_fault
isolated_three = refl

two_triangles : first_refusal 3 ((1 ∷ 2 ∷ []) ∷ (2 ∷ 0 ∷ []) ∷ (0 ∷ 1 ∷ []) ∷ (4 ∷ 5 ∷ []) ∷ (5 ∷ 3 ∷ []) ∷ (3 ∷ 4 ∷ []) ∷ []) ≡ None
unfolding entry_after merge face_count component_count first_fault
two_triangles = refl

-- an edge alone has too few vertices, and a triangle for jobs that want four
one_edge : first_refusal 3 ((1 ∷ []) ∷ (0 ∷ []) ∷ []) ≡ Some (Small 2)
unfolding entry_after merge face_count component_count first_fault
one_edge = refl

triangle : first_refusal 4 ((1 ∷ 2 ∷ []) ∷ (2 ∷ 0 ∷ []) ∷ (0 ∷ 1 ∷ []) ∷ []) ≡ Some (Small 3)
unfolding entry_after merge face_count component_count first_fault
triangle = refl

-- the complete graph of four vertices with one list turned round lies on a torus
torus : first_refusal 3 ((1 ∷ 2 ∷ 3 ∷ []) ∷ (0 ∷ 2 ∷ 3 ∷ []) ∷ (0 ∷ 1 ∷ 3 ∷ []) ∷ (0 ∷ 1 ∷ 2 ∷ []) ∷ []) ≡ Some (Genus 1)
unfolding entry_after merge face_count component_count first_fault
torus = refl

-- a fault is named before the number of vertices
one_sided_two : first_refusal 3 ((1 ∷ []) ∷ [] ∷ []) ≡ Some (OneSided 0 1)
unfolding first_fault
one_sided_two = refl
