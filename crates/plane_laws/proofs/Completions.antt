-- Each simple map of genus zero can be completed: while there are two components an edge joins them, and while a face is no triangle an ear is cut.
use Rattle.std.proofs.Common.{◌≡◌, ◌≢◌, ◌⊎◌, ℕ, zero, suc, ◌+◌, ◌*◌, ◌<◌, ◌≤◌, true, eqb, length, refl, sym, ap, ◌∙◌, subst, inl, inr, arith, eq-eqb, eqb-true}
use Rattle.std.proofs.lemmas.Bool.{true≢false}
use Rattle.classes.specs.Classes.{label, same_class}
use Rattle.classes.proofs.Counting.{count_below_into}
use Rattle.classes.proofs.Classes.{same_class-from, Together-from, length-classes}
use Rattle.classes.proofs.Bound.{after}
use Rattle.map_lists.specs.Lists.{Lists}
use Rattle.map_theory.specs.Maps.{darts, list_of, place_of, HasDart, IsSimpleMap, IsPlane, follows, dart_number, dart_count, edge_count, vertex_count, component_count, component_classes, SameComponent}
use Rattle.map_theory.proofs.DartLemmas.{place_of-lt-length, dart_number-lt, HasDart-follows}
use Rattle.map_theory.proofs.DartPermutations.{dart_of, rotation, twin, dart_of-number, IsLabels-components, edge_together}
use Rattle.plane_laws.specs.Laws.{IsTriangle}
use Rattle.plane_laws.proofs.DartPaths.{corner_of, before_dart}
use Rattle.plane_laws.proofs.EdgeBound.{edge_bound}
use Rattle.plane_laws.proofs.Triangles.{IsTriangle-number, number-IsTriangle, edge_bound_met}
use Rattle.plane_laws.specs.Chords.{IsEar}
use Rattle.plane_laws.specs.Triangulations.{IsTriangulation}
use Rattle.plane_laws.specs.MapEditsCompleted.{IsExtended, Completion}
use Rattle.plane_laws.specs.WithEdge.{with_edge_at, with_edge_after}
use Rattle.plane_laws.proofs.KeptEdges.{all_or_some}
use Rattle.plane_laws.proofs.WithEdge.{edge_put_between}
use Rattle.plane_laws.proofs.Chords.{some_ear, ear_cut}
use Rattle.plane_laws.proofs.Extended.{IsExtended-itself, IsExtended-chained, IsExtended-edge, edge_count-edge}

-- where each vertex is in one component with the first there is one component
pub one_component : (lists : Lists) → IsSimpleMap lists → ((v : ℕ) → v < length lists → SameComponent lists 0 v) → component_count lists ≡ 1
unfolding component_count
one_component lists simple all =
    let C = component_classes lists in
    let known = IsLabels-components lists simple in
    let n = length-classes (length lists) (darts lists) in
    let most = count_below_into (λ i. 0) (λ i. eqb (label C i) i) (λ i. true) (length C) 1 (λ i l t. (omega arith, refl))
    (λ i j l m t t' e.
    let at' = Together-from C 0 j (all j (omega arith)) in
    sym (eqb-true (label C i) i t) ∙ (sym (Together-from C 0 i (all i (omega arith))) ∙ (at' ∙ eqb-true (label C j) j t'))) in
    let least = count_below_into (λ i. 0) (λ i. true) (λ i. eqb (label C i) i) 1 (length C) (λ i l t. (omega arith, eq-eqb (label C 0) 0 (omega arith))) (λ i j l m t t' e. omega arith) in
    omega arith

-- the entry before another, round a vertex
before_entry : (lists : Lists) → IsSimpleMap lists → (v a : ℕ) → HasDart lists v a → (z : ℕ) × HasDart lists v z × (follows lists v z ≡ a)
before_entry lists simple v a has =
    let x = corner_of lists simple v a has in
    let d = dart_of lists x.0 in
    let p = dart_of-number lists simple x.0 x.1.within in
    let at = before_dart lists x.0 v a d.0 d.1 has x.1.leads p.is_dart p.number in
    (d.1, subst (λ w. HasDart lists w d.1) at.0 p.is_dart, ap (λ w. follows lists w d.1) (sym at.0) ∙ at.1)

-- an ear is cut: one edge more
ear_step : (lists : Lists) → IsSimpleMap lists → IsPlane lists → (a b : ℕ) → IsEar lists a b → (new : Lists) × IsSimpleMap new × IsPlane new × IsExtended lists new × (edge_count new ≡ edge_count lists + 1)
ear_step lists simple plane a b ear =
    let c = follows lists b a in
    let p = before_entry lists simple a b ear.0 in
    let has_cb = simple.both_ways b c (HasDart-follows lists b a (simple.both_ways a b ear.0)) in
    let cut = ear_cut lists p.0 a b c simple plane p.1 p.2 refl ear.1 in
    let in_i = place_of-lt-length p.0 (list_of lists a) p.1.1 in
    let in_j = place_of-lt-length b (list_of lists c) has_cb.1 in
    let i = place_of p.0 (list_of lists a) + 1 in
    let j = place_of b (list_of lists c) + 1 in (
      with_edge_after lists a p.0 c b,
      cut.simple,
      cut.split.plane,
      IsExtended-edge lists a i c j simple ear.0.0 has_cb.0 ear.1.0 ear.1.1 (omega arith) (omega arith),
      edge_count-edge lists a i c j simple ear.0.0 has_cb.0 ear.1.0 ear.1.1 (omega arith) (omega arith),
    )

-- two components are joined: one edge more
join_step : (lists : Lists) → IsSimpleMap lists → IsPlane lists → (v : ℕ) → v < length lists → ¬ SameComponent lists 0 v → (new : Lists) × IsSimpleMap new × IsPlane new × IsExtended lists new × (edge_count new ≡ edge_count lists + 1)
join_step lists simple plane v l far =
    let C = component_classes lists in
    let zeroth = simple.some_vertex in
    let apart : 0 ≢ v = λ e. far (same_class-from C 0 v (ap (label C) e)) in
    let not_adjacent : ¬ HasDart lists 0 v = λ h. far (same_class-from C 0 v (edge_together lists simple 0 v h)) in
    let put = edge_put_between lists 0 0 v 0 simple plane zeroth l far (omega arith) (omega arith) in (
      with_edge_at lists 0 0 v 0,
      put.0,
      put.1.plane,
      IsExtended-edge lists 0 0 v 0 simple zeroth l apart not_adjacent (omega arith) (omega arith),
      edge_count-edge lists 0 0 v 0 simple zeroth l apart not_adjacent (omega arith) (omega arith),
    )

-- a map is a triangulation, or an edge can be put in
done_or_more : (lists : Lists) → IsSimpleMap lists → IsPlane lists → 3 ≤ vertex_count lists → IsTriangulation lists ⊎ ((new : Lists) × IsSimpleMap new × IsPlane new × IsExtended lists new × (edge_count new ≡ edge_count lists + 1))
done_or_more lists simple plane some =
    let h = after (rotation lists) (twin lists) in
    elim (all_or_some (same_class (component_classes lists) 0) (length lists)) [
      | inr r ↦ inr (join_step lists simple plane r.0 r.1 (λ t. true≢false (sym t ∙ r.2)))
      | inl all ↦
          let one = one_component lists simple all in
          elim (all_or_some (λ i. eqb (h (h (h i))) i) (dart_count lists)) [
            | inl rounds ↦
                let triangles : (u v : ℕ) → HasDart lists u v → IsTriangle lists (u, v) = λ u v has.
                IsTriangle-number lists simple (u, v) has (eqb-true (h (h (h (dart_number lists (u, v))))) (dart_number lists (u, v)) (rounds (dart_number lists (u, v)) (dart_number-lt lists u v has))) in
                inl (record { simple = simple; plane = plane; some = some; edges = (edge_bound_met lists simple plane some).1 (one, triangles) })
            | inr r ↦
                let d = dart_of lists r.0 in
                let p = dart_of-number lists simple r.0 r.1 in
                let large : ¬ IsTriangle lists (d.0, d.1) = λ t.
                true≢false (sym (eq-eqb (h (h (h r.0))) r.0 (ap (λ x. h (h (h x))) (sym p.number) ∙ (number-IsTriangle lists simple (d.0, d.1) p.is_dart t ∙ p.number))) ∙ r.2) in
                inr (elim (some_ear lists d.0 d.1 simple plane one some p.is_dart large) [
                  | inl ear ↦ ear_step lists simple plane _ _ ear
                  | inr s ↦ elim s [ inl ear ↦ ear_step lists simple plane _ _ ear | inr ear ↦ ear_step lists simple plane _ _ ear ]
                ])
          ]
    ]

completed_by : (n : ℕ) (lists : Lists) → IsSimpleMap lists → IsPlane lists → 3 ≤ vertex_count lists → 3 * vertex_count lists < n + edge_count lists → (new : Lists) × IsTriangulation new × IsExtended lists new
completed_by zero lists simple plane some l = let bound = edge_bound lists simple plane some in absurd (omega arith)
completed_by (suc n) lists simple plane some l =
    elim (done_or_more lists simple plane some) [
      | inl done ↦ (lists, done, IsExtended-itself lists)
      | inr more ↦
          let rest = completed_by n more.0 more.1 more.2 (omega arith) (omega arith) in
          (rest.0, rest.1, IsExtended-chained lists more.0 rest.0 more.3 rest.2)
    ]

-- THE LAW: each simple map of genus zero can be completed
pub completion : Completion
completion lists simple plane some = completed_by (suc (3 * vertex_count lists)) lists simple plane some (omega arith)
