use Rattle.std.proofs.Common.{◌≡◌, ◌<◌, ℕ, List, length, get_or, sym, subst, arith}
use Rattle.map_theory.specs.Maps.{list_of}
use Rattle.half_edges.specs.Map.{dart_at}
use Rattle.convex_orders.specs.FaceNumbers.{InWalk, AreOwn, AreOther, IsRowPut}
use Rattle.convex_orders.proofs.FaceNumbersRows.{AreOwn-more, AreOther-more, IsRowPut-none, IsRowPut-more, next_at, next_live, live_at, twin_at}
use Rattle.convex_orders.proofs.face_numbers.WalkedMap.put_vertex.Goals as goal

pub returns-in_default-clause-own : goal.returns-in_default-clause-own
returns-in_default-clause-own c =
    let P = AreOwn c.args.self.now.map.now c.args.self.now.faces.now c.args.v.0 in
    let row = c.args.own.now.items in
    subst (λ (us : List ℕ). IsRowPut P (length us) row row) (sym c.in_default.ensures.dart) (IsRowPut-none P row (record { each = λ i l. absurd (omega arith) }))

pub returns-in_default-clause-other : goal.returns-in_default-clause-other
returns-in_default-clause-other c =
    let P = AreOther c.args.self.now.map.now c.args.self.now.faces.now c.args.v.0 in
    let row = c.args.other.now.items in
    subst (λ (us : List ℕ). IsRowPut P (length us) row row) (sym c.in_default.ensures.dart) (IsRowPut-none P row (record { each = λ i l. absurd (omega arith) }))

pub loop-init : goal.loop-init
loop-init c =
    let map = c.args.self.now.map.now in
    let walks = c.args.self.now.faces.now in
    let v = c.args.v.0 in
    record {
      live = live_at (dart_at map c.in-Some.first.0) v (get_or (list_of map.lists v) 0 0) c.in-Some.ensures.dart;
      dart = λ l. c.in-Some.ensures.dart;
      own_room = omega (arith, c.degree.ensures, c.in_ok-reserve.ensures.ok);
      other_room = omega (arith, c.degree.ensures, c.in_ok-reserve-2.ensures.ok);
      own = IsRowPut-none (AreOwn map walks v) c.reserve.new.self.items (record { each = λ i l. absurd (omega arith) });
      other = IsRowPut-none (AreOther map walks v) c.reserve-2.new.self.items (record { each = λ i l. absurd (omega arith) });
    }

pub loop-preserved : goal.loop-preserved
loop-preserved c =
    let map = c.args.self.now.map.now in
    let walks = c.args.self.now.faces.now in
    let v = c.args.v.0 in
    let h = c.loop.invariant in
    let k = c.loop.counter in
    let x = c.number_of.result in
    let y = c.number_of-in-loop.result in
    let u = get_or (list_of map.lists v) k 0 in
    let in_list : k < length (list_of map.lists v) = omega (arith, c.loop-test.true, c.degree.ensures) in
    let is = c.number_of.ensures v u (h.dart in_list) in
    let is' = c.number_of-in-loop.ensures u v (twin_at (dart_at map c.loop.d.0) (dart_at map c.twin-twin.result.0) v u (h.dart in_list) c.twin-twin.ensures) in
    record {
      live = next_live map (dart_at map c.loop.d.0) (dart_at map c.next-d.result.0) h.live c.next-d.ensures;
      dart = λ l. next_at map c.args.self.now.map.now.known v k (dart_at map c.loop.d.0) (dart_at map c.next-d.result.0) c.requires.vertex (h.dart in_list) c.next-d.ensures l;
      own_room = omega (arith, h.own_room, in_list, c.push_reserved.ensures.len, c.push_reserved.ensures.capacity);
      other_room = omega (arith, h.other_room, in_list, c.push_reserved-in-loop.ensures.len, c.push_reserved-in-loop.ensures.capacity);
      own = IsRowPut-more (AreOwn map walks v) k x _ _ _ c.push_reserved.ensures.items (λ row long are. AreOwn-more map walks v x row are (subst (λ z. InWalk map walks x v (get_or (list_of map.lists v) z 0)) (sym long) is)) h.own;
      other = IsRowPut-more (AreOther map walks v) k y _ _ _ c.push_reserved-in-loop.ensures.items (λ row long are. AreOther-more map walks v y row are (subst (λ z. InWalk map walks y (get_or (list_of map.lists v) z 0) v) (sym long) is')) h.other;
    }

pub returns-clause-own : goal.returns-clause-own
returns-clause-own c =
    let end : c.loop.counter ≡ length (list_of c.args.self.now.map.now.lists c.args.v.0) = omega (arith, c.loop-test.false, c.loop.auto.counter-end, c.degree.ensures) in
    let P = AreOwn c.args.self.now.map.now c.args.self.now.faces.now c.args.v.0 in
    let n = length (list_of c.args.self.now.map.now.lists c.args.v.0) in
    subst (λ old. IsRowPut P n old c.loop.own.items) c.in_ok-reserve.ensures.items
    (subst (λ k. IsRowPut P k c.reserve.new.self.items c.loop.own.items) end c.loop.invariant.own)

pub returns-clause-other : goal.returns-clause-other
returns-clause-other c =
    let end : c.loop.counter ≡ length (list_of c.args.self.now.map.now.lists c.args.v.0) = omega (arith, c.loop-test.false, c.loop.auto.counter-end, c.degree.ensures) in
    let P = AreOther c.args.self.now.map.now c.args.self.now.faces.now c.args.v.0 in
    let n = length (list_of c.args.self.now.map.now.lists c.args.v.0) in
    subst (λ old. IsRowPut P n old c.loop.other.items) c.in_ok-reserve-2.ensures.items
    (subst (λ k. IsRowPut P k c.reserve-2.new.self.items c.loop.other.items) end c.loop.invariant.other)
