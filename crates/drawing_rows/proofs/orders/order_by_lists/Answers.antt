use Rattle.std.proofs.Common.{ℕ, subst, sym}
use Rattle.map_theory.specs.Maps.{HasDart}
use Rattle.vertex_rounds.specs.Rounds.{dart_of}
use Rattle.vertex_rounds.proofs.DartIds.{head_is, tail_is, has_dart}
use Rattle.drawing_rows.proofs.orders.order_by_lists.Goals as goal

pub order_lists-requires-clause-base : goal.order_lists-requires-clause-base
order_lists-requires-clause-base c =
    let map = c.args.tri.now in
    let d = c.args.base.0 in
    let tail = tail_is map d c.tail.result.0 c.requires.live c.tail.ensures in
    let head = head_is map d c.head.result.0 c.requires.live c.head.ensures in
    let has = subst (λ (z : ℕ). HasDart map.lists c.tail.result.0 z) head (subst (λ (z : ℕ). HasDart map.lists z (dart_of map d).1) tail (has_dart map c.args.tri.now.known d c.requires.live)) in
    subst (λ lists. HasDart lists c.tail.result.0 c.head.result.0) (sym c.in_ok-lists.ensures) has
