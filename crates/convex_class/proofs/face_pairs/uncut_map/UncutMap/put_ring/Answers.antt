use Rattle.std.proofs.Common.{◌<◌, length, arith}
use Rattle.map_theory.specs.Maps.{list_of}
use Rattle.convex_class.proofs.RingLemmas.{next_at, next_live, ids_more, IsRow-more}
use Rattle.convex_class.proofs.face_pairs.uncut_map.UncutMap.put_ring.Goals as goal

pub loop-preserved : goal.loop-preserved
loop-preserved c =
    let map = c.args.self.now.map.now in
    let v = c.args.v.0 in
    let h = c.loop.invariant in
    let k = c.loop.counter in
    let d = c.loop.d in
    let e = c.next-d.result.0 in
    let in_list : k < length (list_of map.lists v) = omega (arith, c.loop-test.true, c.degree-end.ensures) in
    record {
      live = next_live map d.0 e h.live c.next-d.ensures;
      dart = λ l. next_at map c.facts.ensures.known v k d.0 e c.requires.vertex (h.dart in_list) c.next-d.ensures l;
      row = IsRow-more map v k d.0 _ _ (ids_more _ _ d c.in_ok-push.ensures.items) (h.dart in_list) h.row;
    }
