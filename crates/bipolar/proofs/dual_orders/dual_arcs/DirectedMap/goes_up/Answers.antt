use Rattle.std.proofs.Common.{arith}
use Rattle.euler_faces.proofs.SideMarks.{some_dart}
use Rattle.half_edges.specs.Map.{dart_at}
use Rattle.bipolar.proofs.Darts.{tail_is, head_is, ranks_compared}
use Rattle.bipolar.proofs.dual_orders.dual_arcs.DirectedMap.goes_up.Goals as goal

pub get-requires : goal.get-requires
get-requires c =
    let map = c.args.self.now.map.now in
    let x = some_dart (dart_at map c.args.d.0) c.requires in
    let t = tail_is (dart_at map c.args.d.0) x.0 x.1 c.tail.result.0 x.2 c.tail.ensures in
    let has = c.args.self.now.map.now.known.is_dart c.args.d.0 x.0 x.1 x.2 in
    omega (arith, has.0, t, c.args.self.now.ranks)

pub get-requires-2 : goal.get-requires-2
get-requires-2 c =
    let map = c.args.self.now.map.now in
    let x = some_dart (dart_at map c.args.d.0) c.requires in
    let h = head_is (dart_at map c.args.d.0) x.0 x.1 c.head.result.0 x.2 c.head.ensures in
    let has = c.args.self.now.map.now.known.is_dart c.args.d.0 x.0 x.1 x.2 in
    let back = c.args.self.now.map.now.known.simple.in_range x.0 x.1 has in
    omega (arith, back, h, c.args.self.now.ranks)

pub returns : goal.returns
returns c = λ u v e.
    let o = dart_at c.args.self.now.map.now c.args.d.0 in
    ranks_compared c.args.self.now.rank.now c.tail.result.0 c.head.result.0 c.get.result c.get-2.result u v c.get.ensures c.get-2.ensures (tail_is o u v c.tail.result.0 e c.tail.ensures) (head_is o u v c.head.result.0 e c.head.ensures)
