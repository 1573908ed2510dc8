use Rattle.std.proofs.Common.{arith}
use Rattle.convex_faces.specs.Directions.{root_in}
use Rattle.convex_faces.proofs.face_regions.region_boundary.WoodVertex.dart_between.Goals as goal

pub dart_of-requires-clause-v_in : goal.dart_of-requires-clause-v_in
dart_of-requires-clause-v_in c =
    let l = c.args.self.now.map.now.known.simple.in_range (root_in c.args.self.now.wood.now c.args.from) (root_in c.args.self.now.wood.now c.args.to) c.requires in
    omega (arith, c.root-2.ensures)
