use Rattle.convex_faces.proofs.PassLemmas.{pass_dart}
use Rattle.convex_faces.proofs.face_regions.region_boundary.pass.Goals as goal

pub returns : goal.returns
returns c = pass_dart c.args.map.now c.args.map.now.known c.args.d.0 c.twin-twin.result.0 c.args.marked.now c.requires.live c.twin-twin.ensures c.requires.marks
