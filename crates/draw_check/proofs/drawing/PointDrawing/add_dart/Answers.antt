use Rattle.std.proofs.Common.{◌≡◌, ◌∙◌, ap₂, refl, arith}
use Rattle.std.proofs.lemmas.Int.{ints}
use Rattle.euler_faces.specs.Numbers.{number_at}
use Rattle.half_edges.specs.Map.{dart_at}
use Rattle.pg_plane.specs.Geometry.{cross}
use Rattle.drawings.specs.OuterFaces.{swept}
use Rattle.vertex_rounds.specs.Rounds.{dart_of}
use Rattle.vertex_rounds.proofs.DartIds.{has_dart, head_is}
use Rattle.draw_check.proofs.DartSums.{area_from_zero, swept-within}
use Rattle.draw_check.proofs.FaceSumLemmas.{dart_from_ends, AreSumsBelow-more, sum-within}
use Rattle.draw_check.proofs.drawing.PointDrawing.add_dart.Goals as goal

pub overflow_add-sums : goal.overflow_add-sums
overflow_add-sums c =
    let map = c.args.self.now.map.now in let points = c.args.self.now.points.now in
    let a = sum-within map c.args.self.now.map.now.known c.args.faces.now c.requires.faces points (number_at map c.args.d.0) c.args.sums.now c.requires.sums c.args.self.now.places c.of_dart-face.result.0 c.of_dart-face.ensures.face in
    let b = swept-within points c.args.self.now.places.in_range (c.tail.result.0, c.head.result.0) in
    let e : c.area2-area.result ≡ swept points (c.tail.result.0, c.head.result.0) = c.area2-area.ensures ∙ (area_from_zero c.spot-a.result.point c.spot-b.result.point ∙ ap₂ cross c.spot-a.ensures c.spot-b.ensures) in
    let e' = c.from.ensures in
    let a1 = a.least in let a2 = a.most in let b1 = b.least in let b2 = b.most in
    omega (arith, ints)

pub returns : goal.returns
returns c =
    let map = c.args.self.now.map.now in let points = c.args.self.now.points.now in
    let a = sum-within map c.args.self.now.map.now.known c.args.faces.now c.requires.faces points (number_at map c.args.d.0) c.args.sums.now c.requires.sums c.args.self.now.places c.of_dart-face.result.0 c.of_dart-face.ensures.face in
    let b = swept-within points c.args.self.now.places.in_range (c.tail.result.0, c.head.result.0) in
    let e : c.area2-area.result ≡ swept points (c.tail.result.0, c.head.result.0) = c.area2-area.ensures ∙ (area_from_zero c.spot-a.result.point c.spot-b.result.point ∙ ap₂ cross c.spot-a.ensures c.spot-b.ensures) in
    let e' = c.from.ensures in
    let a1 = a.least in let a2 = a.most in let b1 = b.least in let b2 = b.most in
    AreSumsBelow-more map c.args.self.now.map.now.known c.args.faces.now c.requires.faces points (number_at map c.args.d.0) c.args.sums.now c.requires.sums c.of_dart-face.result.0 c.args.d.0 c.tail.result.0 c.head.result.0 _
    c.of_dart-face.ensures.face (dart_from_ends (dart_at map c.args.d.0) c.tail.result.0 c.head.result.0 c.tail.ensures c.head.ensures) refl c.of_dart-face.ensures.stands (omega (arith, ints))

pub spot-b-requires : goal.spot-b-requires
spot-b-requires c =
    let map = c.args.self.now.map.now in let dart = dart_of map c.args.d.0 in
    omega (arith, c.args.self.now.map.now.known.simple.in_range dart.0 dart.1 (has_dart map c.args.self.now.map.now.known c.args.d.0 c.requires.live), head_is map c.args.d.0 c.head.result.0 c.requires.live c.head.ensures, c.args.self.now.places.count)
