use Rattle.std.proofs.Common.{◌≡◌, ◌/◌, ◌+◌, length, sym, ap, ap₂, ◌∙◌, arith}
use Rattle.map_lists.specs.Cuts.{cut}
use Rattle.map_theory.specs.Maps.{edge_count, face_count}
use Rattle.map_theory.proofs.DartPermutations.{euler_bound_map}
use Rattle.euler_faces.proofs.euler_counts.euler_of.Goals as goal

pub overflow_add-result : goal.overflow_add-result
overflow_add-result c =
    omega (arith, c.facts.ensures.few, c.requires.few_orbits, c.requires.few_isolated, c.args.map.now.few)

-- the counts are within the Euler bound
pub invariant_of-result : goal.invariant_of-result
unfolding face_count
invariant_of-result c =
    let map = c.args.map.now in
    let lists = cut 0 map.ends.now map.entries.now in
    let long = c.facts.ensures.vertices in
    let all = c.facts.ensures.darts in
    let few = c.facts.ensures.few in
    let vertices = map.few in
    let bound = euler_bound_map lists c.facts.ensures.simple in
    let orbits = c.requires.orbits in
    let isolated = c.requires.isolated in
    let components = c.requires.components in
    let halves : edge_count lists ≡ length map.entries.now / 2 = ap (λ n. n / 2) all in
    record {
      few_vertices = omega arith;
      few_edges = omega arith;
      few_faces = omega (arith, bound.1);
      few_components = omega arith;
      bounded = omega (arith, bound.1);
      even = omega (arith, bound.1);
    }

pub returns-clause-n : goal.returns-clause-n
returns-clause-n c = sym c.facts.ensures.vertices

pub returns-clause-m : goal.returns-clause-m
returns-clause-m c = ap (λ n. n / 2) (sym c.facts.ensures.darts)

pub returns-clause-f : goal.returns-clause-f
unfolding face_count
returns-clause-f c = ap₂ (λ m n. m + n) c.requires.orbits c.requires.isolated
