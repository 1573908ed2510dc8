use Rattle.std.proofs.Common.{arith}
use Rattle.map_theory.specs.Maps.{face_step, twin_dart}
use Rattle.euler_faces.proofs.SideMarks.{live_after, place_live}
use Rattle.euler_faces.proofs.face_chains.go_on.Goals as goal

pub meet-requires : goal.meet-requires
meet-requires g c =
    let map = c.args.map.now in
    let t = live_after map c.args.map.now.known c.args.side.dart.0 c.face_step.result.0 (face_step map.lists) c.requires.live c.face_step.ensures in
    let p = place_live map c.args.map.now.known c.face_step.result.0 c.args.side.odd _ t.3 in
    omega (arith, c.requires.room)

pub meet-requires-2 : goal.meet-requires-2
meet-requires-2 g c =
    let map = c.args.map.now in
    let t = live_after map c.args.map.now.known c.args.side.dart.0 c.twin.result.0 twin_dart c.requires.live c.twin.ensures in
    let p = place_live map c.args.map.now.known c.twin.result.0 c.turned_where.result _ t.3 in
    omega (arith, c.requires.room, c.meet.auto.met)
