use Rattle.std.proofs.Common.{arith}
use Rattle.vertex_rounds.specs.Rounds.{dart_of}
use Rattle.vertex_rounds.proofs.DartIds.{has_dart, head_is}
use Rattle.draw_check.proofs.drawing.PointDrawing.is_met.Goals as goal

pub meets-requires-clause-b : goal.meets-requires-clause-b
meets-requires-clause-b c =
    let map = c.args.self.now.map.now in
    let dart = dart_of map c.args.d.0 in
    let l = c.args.self.now.map.now.known.simple.in_range dart.0 dart.1 (has_dart map c.args.self.now.map.now.known c.args.d.0 c.requires.live) in
    let same = head_is map c.args.d.0 c.head-b.result.0 c.requires.live c.head-b.ensures in
    let n = c.args.self.now.places.count in
    omega arith
