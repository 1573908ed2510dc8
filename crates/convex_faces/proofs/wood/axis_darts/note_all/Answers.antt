use Rattle.std.proofs.Common.{◌<◌, length, arith, rules}
use Rattle.vertex_rounds.specs.Rounds.{dart_of}
use Rattle.vertex_rounds.proofs.DartIds.{dart_of-live, has_dart}
use Rattle.half_edges.specs.Map.{IsLive, dart_at}
use Rattle.convex_faces.proofs.NoteLemmas.{tail_is, head_is, rising_dart_iff, IsRisingDart-not_live, Notes-none, Notes-set, AreNoted-more}
use Rattle.convex_faces.proofs.wood.axis_darts.note_all.Goals as goal

pub place_at-requires-in-loop-id : goal.place_at-requires-in-loop-id
place_at-requires-in-loop-id c =
    let map = c.args.map.now in
    let d = c.loop-id.id in
    let live : IsLive map d = search rules in
    let x = dart_of map d in
    let same = head_is (dart_at map d) x.0 x.1 c.head-u.result.0 (dart_of-live map d live) c.head-u.ensures in
    let l = c.args.map.now.known.simple.in_range x.0 x.1 (has_dart map c.args.map.now.known d live) in
    let n = c.requires.points in
    omega arith

pub bounds-outs-v : goal.bounds-outs-v
bounds-outs-v c =
    let map = c.args.map.now in
    let d = c.loop-id.id in
    let live : IsLive map d = search rules in
    let x = dart_of map d in
    let same = tail_is (dart_at map d) x.0 x.1 c.tail-v.result.0 (dart_of-live map d live) c.tail-v.ensures in
    let l = (has_dart map c.args.map.now.known d live).0 in
    omega (arith, same, l, c.loop-id.auto.outs, c.requires.outs)

pub loop-id-init : goal.loop-id-init
loop-id-init c = λ id v u l e r. absurd (omega arith)

pub loop-id-preserved-then-not-is_live : goal.loop-id-preserved-then-not-is_live
loop-id-preserved-then-not-is_live c =
    AreNoted-more _ _ _ _ _ _ (Notes-none c.args.map.now c.args.points.now c.args.axis c.loop-id.id c.loop-id.outs (IsRisingDart-not_live _ _ _ _ (λ live. let t = c.is_live.ensures.1 live in cc))) c.loop-id.invariant

pub loop-id-preserved-then-not-rises : goal.loop-id-preserved-then-not-rises
loop-id-preserved-then-not-rises c =
    let map = c.args.map.now in
    let d = c.loop-id.id in
    let live : IsLive map d = search rules in
    let x = dart_of map d in
    let e = dart_of-live map d live in
    let rising = rising_dart_iff map c.args.points.now c.args.axis d x.0 x.1 c.tail-v.result.0 c.head-u.result.0 c.place_at.result c.place_at-in-loop-id.result c.rises.result e (tail_is (dart_at map d) x.0 x.1 c.tail-v.result.0 e c.tail-v.ensures) (head_is (dart_at map d) x.0 x.1 c.head-u.result.0 e c.head-u.ensures) c.place_at.ensures c.place_at-in-loop-id.ensures c.rises.ensures.0 c.rises.ensures.1 in
    AreNoted-more _ _ _ _ _ _ (Notes-none map c.args.points.now c.args.axis d c.loop-id.outs (λ h. let t = rising.1 h in cc)) c.loop-id.invariant

pub loop-id-preserved : goal.loop-id-preserved
loop-id-preserved c =
    let map = c.args.map.now in
    let d = c.loop-id.id in
    let live : IsLive map d = search rules in
    let x = dart_of map d in
    let e = dart_of-live map d live in
    let same = tail_is (dart_at map d) x.0 x.1 c.tail-v.result.0 e c.tail-v.ensures in
    let rising = rising_dart_iff map c.args.points.now c.args.axis d x.0 x.1 c.tail-v.result.0 c.head-u.result.0 c.place_at.result c.place_at-in-loop-id.result c.rises.result e same (head_is (dart_at map d) x.0 x.1 c.head-u.result.0 e c.head-u.ensures) c.place_at.ensures c.place_at-in-loop-id.ensures c.rises.ensures.0 c.rises.ensures.1 in
    let l = (has_dart map c.args.map.now.known d live).0 in
    let within : c.tail-v.result.0 < length c.loop-id.outs = omega (arith, same, l, c.loop-id.auto.outs, c.requires.outs) in
    AreNoted-more _ _ _ _ _ _ (Notes-set map c.args.points.now c.args.axis d c.loop-id.outs x.0 x.1 c.tail-v.result.0 e same within (rising.0 (search rules))) c.loop-id.invariant
