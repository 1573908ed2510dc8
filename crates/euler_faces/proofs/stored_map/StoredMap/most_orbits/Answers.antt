use Rattle.std.proofs.Common.{◌≡◌, ◌/◌, length, ap, arith}
use Rattle.map_lists.specs.Cuts.{cut}
use Rattle.map_theory.specs.Maps.{edge_count, face_count}
use Rattle.map_theory.proofs.DartPermutations.{euler_bound_map}
use Rattle.euler_faces.proofs.stored_map.StoredMap.most_orbits.Goals as goal

pub overflow_sub-result : goal.overflow_sub-result
unfolding face_count
overflow_sub-result c =
    let lists = cut 0 c.args.self.now.ends.now c.args.self.now.entries.now in
    let halves : edge_count lists ≡ length c.args.self.now.entries.now / 2 = ap (λ n. n / 2) c.facts.ensures.darts in
    let bound = euler_bound_map lists c.facts.ensures.simple in
    omega (arith, bound.1, halves, c.facts.ensures.vertices, c.requires.components, c.requires.isolated)

pub returns : goal.returns
unfolding face_count
returns c =
    let lists = cut 0 c.args.self.now.ends.now c.args.self.now.entries.now in
    let halves : edge_count lists ≡ length c.args.self.now.entries.now / 2 = ap (λ n. n / 2) c.facts.ensures.darts in
    let bound = euler_bound_map lists c.facts.ensures.simple in
    omega (arith, bound.1, halves, c.facts.ensures.vertices, c.requires.components, c.requires.isolated)
