-- The definitions, run on worked cases. Each is a computation: the two sides come to the same value.
use Rattle.std.specs.Prelude.{ℕ, ◌-◌, ◌≡◌, List, [], ◌∷◌, map, refl}
use Rattle.classes.specs.Classes.{merge}
use Rattle.map_lists.specs.Lists.{Lists}
use Rattle.map_theory.specs.Maps.{entry_after, vertex_count, edge_count, face_count, component_count, genus}

-- lists with vertices numbered from 1, as they are printed
abbrev from_one : Lists → Lists
from_one lists = map (map (λ u. u - 1)) lists

-- n, m, f, c and the genus of such lists
abbrev counts : Lists → List ℕ
counts lists =
    let r = from_one lists in
    vertex_count r ∷ edge_count r ∷ face_count r ∷ component_count r ∷ genus r ∷ []

triangle : counts ((2 ∷ 3 ∷ []) ∷ (3 ∷ 1 ∷ []) ∷ (1 ∷ 2 ∷ []) ∷ []) ≡ 3 ∷ 3 ∷ 2 ∷ 1 ∷ 0 ∷ []
unfolding entry_after merge face_count component_count
triangle = refl

isolated : counts ([] ∷ [] ∷ [] ∷ []) ≡ 3 ∷ 0 ∷ 3 ∷ 3 ∷ 0 ∷ []
unfolding entry_after merge face_count component_count
isolated = refl

two_triangles : counts ((2 ∷ 3 ∷ []) ∷ (3 ∷ 1 ∷ []) ∷ (1 ∷ 2 ∷ []) ∷ (5 ∷ 6 ∷ []) ∷ (6 ∷ 4 ∷ []) ∷ (4 ∷ 5 ∷ []) ∷ []) ≡ 6 ∷ 6 ∷ 4 ∷ 2 ∷ 0 ∷ []
unfolding entry_after merge face_count component_count
two_triangles = refl

k4 : counts ((2 ∷ 3 ∷ 4 ∷ []) ∷ (1 ∷ 4 ∷ 3 ∷ []) ∷ (1 ∷ 2 ∷ 4 ∷ []) ∷ (1 ∷ 3 ∷ 2 ∷ []) ∷ []) ≡ 4 ∷ 6 ∷ 4 ∷ 1 ∷ 0 ∷ []
unfolding entry_after merge face_count component_count
k4 = refl

twisted_k4 : counts ((2 ∷ 3 ∷ 4 ∷ []) ∷ (1 ∷ 4 ∷ 3 ∷ []) ∷ (1 ∷ 2 ∷ 4 ∷ []) ∷ (1 ∷ 2 ∷ 3 ∷ []) ∷ []) ≡ 4 ∷ 6 ∷ 2 ∷ 1 ∷ 1 ∷ []
unfolding entry_after merge face_count component_count
twisted_k4 = refl

twisted_k4_and_triangle : counts ((2 ∷ 3 ∷ 4 ∷ []) ∷ (1 ∷ 4 ∷ 3 ∷ []) ∷ (1 ∷ 2 ∷ 4 ∷ []) ∷ (1 ∷ 2 ∷ 3 ∷ []) ∷ (6 ∷ 7 ∷ []) ∷ (7 ∷ 5 ∷ []) ∷ (5 ∷ 6 ∷ []) ∷ []) ≡ 7 ∷ 9 ∷ 4 ∷ 2 ∷ 1 ∷ []
unfolding entry_after merge face_count component_count
twisted_k4_and_triangle = refl

star : counts ((2 ∷ 3 ∷ 4 ∷ 5 ∷ 6 ∷ []) ∷ (1 ∷ []) ∷ (1 ∷ []) ∷ (1 ∷ []) ∷ (1 ∷ []) ∷ (1 ∷ []) ∷ []) ≡ 6 ∷ 5 ∷ 1 ∷ 1 ∷ 0 ∷ []
unfolding entry_after merge face_count component_count
star = refl

outer_diagonal : counts ((2 ∷ 4 ∷ 3 ∷ []) ∷ (1 ∷ 3 ∷ []) ∷ (4 ∷ 2 ∷ 1 ∷ []) ∷ (1 ∷ 3 ∷ []) ∷ []) ≡ 4 ∷ 5 ∷ 3 ∷ 1 ∷ 0 ∷ []
unfolding entry_after merge face_count component_count
outer_diagonal = refl

one_edge : counts ((2 ∷ []) ∷ (1 ∷ []) ∷ []) ≡ 2 ∷ 1 ∷ 1 ∷ 1 ∷ 0 ∷ []
unfolding entry_after merge face_count component_count
one_edge = refl

one_vertex : counts ([] ∷ []) ≡ 1 ∷ 0 ∷ 1 ∷ 1 ∷ 0 ∷ []
unfolding entry_after merge face_count component_count
one_vertex = refl

octahedron : counts ((2 ∷ 3 ∷ 4 ∷ 5 ∷ []) ∷ (1 ∷ 5 ∷ 6 ∷ 3 ∷ []) ∷ (1 ∷ 2 ∷ 6 ∷ 4 ∷ []) ∷ (1 ∷ 3 ∷ 6 ∷ 5 ∷ []) ∷ (1 ∷ 4 ∷ 6 ∷ 2 ∷ []) ∷ (2 ∷ 5 ∷ 4 ∷ 3 ∷ []) ∷ []) ≡ 6 ∷ 12 ∷ 8 ∷ 1 ∷ 0 ∷ []
unfolding entry_after merge face_count component_count
octahedron = refl

icosahedron : counts ((2 ∷ 3 ∷ 4 ∷ 5 ∷ 6 ∷ []) ∷ (1 ∷ 6 ∷ 11 ∷ 7 ∷ 3 ∷ []) ∷ (1 ∷ 2 ∷ 7 ∷ 8 ∷ 4 ∷ []) ∷ (1 ∷ 3 ∷ 8 ∷ 9 ∷ 5 ∷ []) ∷ (1 ∷ 4 ∷ 9 ∷ 10 ∷ 6 ∷ []) ∷ (1 ∷ 5 ∷ 10 ∷ 11 ∷ 2 ∷ []) ∷ (2 ∷ 11 ∷ 12 ∷ 8 ∷ 3 ∷ []) ∷ (3 ∷ 7 ∷ 12 ∷ 9 ∷ 4 ∷ []) ∷ (4 ∷ 8 ∷ 12 ∷ 10 ∷ 5 ∷ []) ∷ (5 ∷ 9 ∷ 12 ∷ 11 ∷ 6 ∷ []) ∷ (6 ∷ 10 ∷ 12 ∷ 7 ∷ 2 ∷ []) ∷ (7 ∷ 11 ∷ 10 ∷ 9 ∷ 8 ∷ []) ∷ []) ≡ 12 ∷ 30 ∷ 20 ∷ 1 ∷ 0 ∷ []
unfolding entry_after merge face_count component_count
icosahedron = refl

cube : counts ((2 ∷ 4 ∷ 5 ∷ []) ∷ (3 ∷ 1 ∷ 6 ∷ []) ∷ (4 ∷ 2 ∷ 7 ∷ []) ∷ (1 ∷ 3 ∷ 8 ∷ []) ∷ (6 ∷ 1 ∷ 8 ∷ []) ∷ (7 ∷ 2 ∷ 5 ∷ []) ∷ (8 ∷ 3 ∷ 6 ∷ []) ∷ (5 ∷ 4 ∷ 7 ∷ []) ∷ []) ≡ 8 ∷ 12 ∷ 6 ∷ 1 ∷ 0 ∷ []
unfolding entry_after merge face_count component_count
cube = refl
