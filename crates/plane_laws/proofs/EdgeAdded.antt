-- An edge put into a map of genus zero, between two corners of one face or between two components: faces are counted, and the Euler bound of the map with the edge does the rest.
use Rattle.std.proofs.Common.{ℕ, ◌≤◌, sym, ◌∙◌, inl, inr, arith}
use Rattle.std.proofs.lemmas.Bool.{cases_Bool, false≢true}
use Rattle.classes.specs.Classes.{same_class}
use Rattle.classes.proofs.Classes.{cases_Together, same_class-from}
use Rattle.map_lists.specs.Lists.{Lists}
use Rattle.map_theory.specs.Maps.{HasDart, IsSimpleMap, dart_number, component_count, component_classes, face_classes}
use Rattle.map_theory.specs.Edges.{without_edge}
use Rattle.map_theory.specs.Paths.{SameFace}
use Rattle.map_theory.proofs.WithoutEdge.{length-without_edge, IsSimpleMap-without_edge, edge_count-without}
use Rattle.map_theory.proofs.DartPermutations.{components, euler_bound_map}
use Rattle.plane_laws.proofs.EdgeFaces.{one_face_counts, two_faces_count, corners_apart}
use Rattle.plane_laws.specs.Added.{EdgeInFace, EdgeBetween}
use Rattle.plane_laws.proofs.EdgeComponents.{separated, not_separated}

-- with an edge there are as many components as without, or one less
fewer_components : (lists : Lists) (simple : IsSimpleMap lists) (u v : ℕ) → HasDart lists u v → component_count lists ≤ component_count (without_edge lists u v)
fewer_components lists simple u v edge =
    elim (cases_Together (components (without_edge lists u v) (IsSimpleMap-without_edge lists simple u v edge)) u v) [
      | inl t ↦ omega (arith, not_separated lists simple u v edge t)
      | inr t ↦ omega (arith, separated lists simple u v edge t)
    ]

-- THE LAW: an edge between two corners of one face
pub edge_in_face : EdgeInFace
edge_in_face lists u v simple edge more more' plane face =
    let apart : SameFace lists (u, v) (v, u) → ⊥ = λ one. corners_apart lists simple u v edge more more' one face in
    let faces = two_faces_count lists simple u v edge apart in
    let bound = euler_bound_map lists simple in
    let n = length-without_edge lists simple u v edge in
    let m = edge_count-without lists simple u v edge in
    let few = fewer_components lists simple u v edge in
    record { plane = omega arith; faces = faces; components = omega arith; apart = apart }

-- THE LAW: an edge between two components
pub edge_between : EdgeBetween
edge_between lists u v simple edge plane far =
    let components_fall = separated lists simple u v edge (λ t. far (same_class-from (component_classes (without_edge lists u v)) u v t)) in
    let bound = euler_bound_map lists simple in
    let n = length-without_edge lists simple u v edge in
    let m = edge_count-without lists simple u v edge in
    grind (arith, cases_Bool, same_class, face_classes, dart_number, one_face_counts, components, two_faces_count, false≢true)
