use Rattle.std.proofs.Common.{◌≡◌, sym, subst, arith}
use Rattle.map_lists.specs.Cuts.{cut}
use Rattle.euler_faces.specs.Corners.{AreCornersBelow}
use Rattle.euler_faces.proofs.TriangleLemmas.{faces_of_three}
use Rattle.euler_faces.proofs.euler_counts.euler_of_triangles.Goals as goal

pub euler_of-requires-clause-orbits : goal.euler_of-requires-clause-orbits
euler_of-requires-clause-orbits c =
    let map = c.args.map.now in
    let lists = cut 0 map.ends.now map.entries.now in
    let all = c.facts.ensures.darts in
    let three = faces_of_three lists c.facts.ensures.simple (subst (AreCornersBelow lists) (sym all) c.requires.corners) in
    omega arith
