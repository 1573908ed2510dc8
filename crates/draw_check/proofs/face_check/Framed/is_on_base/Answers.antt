use Rattle.plane_laws.specs.Triangulations.{IsTriangulation}
use Rattle.draw_check.proofs.FaceIds.{on_base_is}
use Rattle.draw_check.proofs.face_check.Framed.is_on_base.Goals as goal

pub returns : goal.returns
returns c =
    let self = c.args.self.now in
    let triangulation : IsTriangulation self.drawing.map.now.lists = record { simple = c.args.self.now.drawing.map.now.known.simple; plane = self.plane; some = self.some; edges = self.edges } in
    on_base_is c.args.self.now.drawing.map.now c.args.self.now.drawing.map.now.known triangulation c.args.self.now.base.0 c.args.d.0 c.face_step-second.result.0 c.face_step-third.result.0 c.args.self.now.live c.requires c.face_step-second.ensures c.face_step-third.ensures c.is_one_of.result c.is_one_of.ensures
