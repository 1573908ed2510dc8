use Rattle.std.proofs.Common.{◌≡◌, ◌<◌, ℕ, List, length, get_or, sym, subst, arith}
use Rattle.map_theory.specs.Maps.{list_of}
use Rattle.half_edges.specs.Map.{dart_at}
use Rattle.bipolar.specs.FaceArcs.{ArePutNumbers}
use Rattle.bipolar.proofs.Darts.{live_at, next_at, next_live}
use Rattle.bipolar.proofs.CutRows.{ArePutNumbers-none, ArePutNumbers-more}
use Rattle.bipolar.proofs.dual_orders.left_face_rows.NumberedMap.put_vertex.Goals as goal

pub loop-init : goal.loop-init
loop-init c =
    let map = c.args.self.now.map.now in
    record {
      live = live_at (dart_at map c.in-Some.first.0) c.args.v.0 (get_or (list_of map.lists c.args.v.0) 0 0) c.in-Some.ensures.dart;
      dart = λ l. c.in-Some.ensures.dart;
      row = ArePutNumbers-none map c.args.self.now.faces.now c.args.self.now.rank.now c.args.self.now.numbers.now c.args.v.0 c.args.entries.now.items;
    }

pub loop-preserved : goal.loop-preserved
loop-preserved c =
    let map = c.args.self.now.map.now in
    let v = c.args.v.0 in
    let h = c.loop.invariant in
    let k = c.loop.counter in
    let in_list : k < length (list_of map.lists v) = omega (arith, c.loop-test.true, c.degree-end.ensures) in
    record {
      live = next_live map (dart_at map c.loop.d.0) (dart_at map c.next-d.result.0) h.live c.next-d.ensures;
      dart = λ l. next_at map c.args.self.now.map.now.known v k (dart_at map c.loop.d.0) (dart_at map c.next-d.result.0) c.requires.vertex (h.dart in_list) c.next-d.ensures l;
      row = ArePutNumbers-more map c.args.self.now.faces.now c.args.self.now.rank.now c.args.self.now.numbers.now v c.left_number.result k c.args.entries.now.items c.loop.entries.items _ h.row c.in_ok-push.ensures.items (c.left_number.ensures v (get_or (list_of map.lists v) k 0) (h.dart in_list));
    }

pub returns : goal.returns
returns c =
    let map = c.args.self.now.map.now in
    let v = c.args.v.0 in
    let e : c.loop.counter ≡ length (list_of map.lists v) = omega (arith, c.loop-test.false, c.loop.auto.counter-end, c.degree-end.ensures) in
    subst (λ k. ArePutNumbers map c.args.self.now.faces.now c.args.self.now.rank.now c.args.self.now.numbers.now v k c.args.entries.now.items c.loop.entries.items) e c.loop.invariant.row

pub returns-in_default : goal.returns-in_default
returns-in_default c =
    let map = c.args.self.now.map.now in
    subst (λ (us : List ℕ). ArePutNumbers map c.args.self.now.faces.now c.args.self.now.rank.now c.args.self.now.numbers.now c.args.v.0 (length us) c.args.entries.now.items c.args.entries.now.items) (sym c.in_default.ensures.dart)
    (ArePutNumbers-none map c.args.self.now.faces.now c.args.self.now.rank.now c.args.self.now.numbers.now c.args.v.0 c.args.entries.now.items)
