use Rattle.std.proofs.Common.{arith}
use Rattle.euler_faces.proofs.SideMarks.{head_small}
use Rattle.schnyder_wood.proofs.schnyder_regions.region_counts.Region.crosses.Goals as goal

pub has_edge-requires-clause-y_in : goal.has_edge-requires-clause-y_in
has_edge-requires-clause-y_in c = let l = head_small c.args.self.now.map.now c.args.self.now.map.now.known c.args.d.0 c.head.result.0 c.head.ensures in let e = c.args.self.now.map.now.known in omega arith
