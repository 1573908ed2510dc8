use Rattle.std.proofs.Common.{◌≡◌, ap₂, ◌+◌, ◌∙◌, arith}
use Rattle.classes.specs.Classes.{class_count}
use Rattle.map_theory.specs.Maps.{face_count, face_classes}
use Rattle.map_theory.proofs.DartPermutations.{euler_bound_map}
use Rattle.euler_faces.proofs.NumberLemmas.{few_darts}
use Rattle.euler_faces.proofs.half_map_counts.euler_by_components.Goals as goal

pub overflow_add-result : goal.overflow_add-result
unfolding face_count
overflow_add-result c =
    let map = c.args.map.now in
    let orbits : c.count.result ≡ class_count (face_classes map.lists) = c.count.ensures ∙ c.in_ok-faces.ensures.count in
    omega (arith, euler_bound_map map.lists c.args.map.now.known.simple, few_darts map c.args.map.now.known, orbits, c.count_isolated-isolated.ensures.count, c.requires, c.args.map.now.known.few_vertices)

-- the counts are within the Euler bound
pub invariant_of-result : goal.invariant_of-result
unfolding face_count
invariant_of-result c =
    let map = c.args.map.now in
    let few = few_darts map c.args.map.now.known in
    let vertices = c.args.map.now.known.few_vertices in
    let bound = euler_bound_map map.lists c.args.map.now.known.simple in
    let orbits : c.count.result ≡ class_count (face_classes map.lists) = c.count.ensures ∙ c.in_ok-faces.ensures.count in
    let isolated = c.count_isolated-isolated.ensures.count in
    record {
      few_vertices = omega arith;
      few_edges = omega arith;
      few_faces = omega (arith, bound.1);
      few_components = omega arith;
      bounded = omega (arith, bound.1);
      even = omega (arith, bound.1);
    }

pub returns-clause-f : goal.returns-clause-f
unfolding face_count
returns-clause-f c =
    ap₂ (λ m n. m + n) (c.count.ensures ∙ c.in_ok-faces.ensures.count) c.count_isolated-isolated.ensures.count
