use Rattle.std.proofs.Common.{not, arith}
use Rattle.vertex_rounds.specs.Rounds.{dart_of}
use Rattle.vertex_rounds.proofs.DartIds.{tail_is, head_is, has_dart, next_head}
use Rattle.draw_check.proofs.TurnLemmas.{denied, break_is}
use Rattle.draw_check.proofs.drawing.PointDrawing.is_break.Goals as goal

pub spot-v-requires : goal.spot-v-requires
spot-v-requires c =
    let map = c.args.self.now.map.now in
    let d = c.args.d.0 in
    let l = (has_dart map c.args.self.now.map.now.known d c.requires.live).0 in
    let same = tail_is map d c.tail.result.0 c.requires.live c.tail.ensures in
    let n = c.args.self.now.places.count in
    omega arith

pub spot-u-requires : goal.spot-u-requires
spot-u-requires c =
    let map = c.args.self.now.map.now in
    let d = c.args.d.0 in
    let l = c.args.self.now.map.now.known.simple.in_range (dart_of map d).0 (dart_of map d).1 (has_dart map c.args.self.now.map.now.known d c.requires.live) in
    let same = head_is map d c.head.result.0 c.requires.live c.head.ensures in
    let n = c.args.self.now.places.count in
    omega arith

pub spot-w-requires : goal.spot-w-requires
spot-w-requires c =
    let map = c.args.self.now.map.now in
    let d = c.args.d.0 in
    let next = next_head map c.args.self.now.map.now.known d c.next.result.0 c.head-2.result.0 c.requires.live c.next.ensures c.head-2.ensures in
    let l = c.args.self.now.map.now.known.simple.in_range (dart_of map d).0 c.head-2.result.0 next.1 in
    let n = c.args.self.now.places.count in
    omega arith

pub returns : goal.returns
returns c =
    let map = c.args.self.now.map.now in
    let d = c.args.d.0 in
    let next = next_head map c.args.self.now.map.now.known d c.next.result.0 c.head-2.result.0 c.requires.live c.next.ensures c.head-2.ensures in
    let before = rw (c.direction.ensures.vector, c.direction-2.ensures.vector, c.spot-v.ensures, c.spot-u.ensures, c.spot-w.ensures) at c.clock_before.ensures in
    break_is map.lists c.args.self.now.points.now (dart_of map d).0 (dart_of map d).1 c.tail.result.0 c.head.result.0 c.head-2.result.0
    (tail_is map d c.tail.result.0 c.requires.live c.tail.ensures) (head_is map d c.head.result.0 c.requires.live c.head.ensures) next.0 (not c.clock_before.result) (denied _ c.clock_before.result before)
