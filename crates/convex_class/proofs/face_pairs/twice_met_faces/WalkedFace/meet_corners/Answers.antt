use Rattle.std.proofs.Common.{◌≡◌, ◌≢◌, ◌<◌, ℕ, List, length, get_or, Contains, sym, ap, subst, arith}
use Rattle.map_lists.specs.declared.ids.DartId.{DartId}
use Rattle.euler_faces.specs.FaceWalks.{ids_of, walk_at}
use Rattle.convex_class.specs.Clear.{IsRing, IsNumber, IsCorner, IsOffPlace}
use Rattle.convex_class.specs.Meetings.{IsMet}
use Rattle.convex_class.proofs.WalkMarks.{length-ids}
use Rattle.convex_class.proofs.MeetingLemmas.{IsMet-none, IsMet-fewer, IsMet-more}
use Rattle.convex_class.proofs.ClearLemmas.{off_in_ring, off_place, corner_below, large_corner, walk_live, behind_live}
use Rattle.convex_class.proofs.face_pairs.twice_met_faces.WalkedFace.meet_corners.Goals as goal

pub degree-requires : goal.degree-requires
degree-requires c = corner_below c.args.self.now.uncut.map.now c.facts.ensures.known c.args.self.now.uncut.faces.now c.facts.ensures.faces c.args.self.now.f c.args.self.now.face c.args.self.now.walk.now c.args.self.now.walked c.loop-i.i (omega (arith, c.loop-i-test.true)) c.behind-next.result.0 c.tail-v.result.0 c.behind-next.ensures c.tail-v.ensures

pub put_ring-requires : goal.put_ring-requires
put_ring-requires c = record { vertex = corner_below c.args.self.now.uncut.map.now c.facts.ensures.known c.args.self.now.uncut.faces.now c.facts.ensures.faces c.args.self.now.f c.args.self.now.face c.args.self.now.walk.now c.args.self.now.walked c.loop-i.i (omega (arith, c.loop-i-test.true)) c.behind-next.result.0 c.tail-v.result.0 c.behind-next.ensures c.tail-v.ensures }

pub loop-i-preserved-then-degree-walk : goal.loop-i-preserved-then-degree-walk
loop-i-preserved-then-degree-walk c =
    let map = c.args.self.now.uncut.map.now in
    let walks = c.args.self.now.uncut.faces.now in
    let f = c.args.self.now.f in
    let i = c.loop-i.i in
    let ds = c.args.self.now.walk.now in
    let d = (get_or ds i (record { 0 = 0 })).0 in
    let e = c.behind-next.result.0 in
    let met = c.loop-i.met in
    let best = c.loop-i.best in
    let none = IsMet-none f (IsCorner map walks (length ds) f d e) met best (λ z x y. large_corner map walks (length ds) f d e c.tail-v.result.0 z x y c.tail-v.ensures (omega (arith, c.degree.ensures, c.if-degree-walk.true))) in
    IsMet-more f c.args.met.now c.args.best met best i (IsOffPlace map walks f) met best c.loop-i.invariant (off_place map walks f i e ds met best met best c.args.self.now.walked (omega (arith, c.loop-i-test.true)) c.behind-next.ensures none)

pub loop-i-preserved : goal.loop-i-preserved
loop-i-preserved c =
    let map = c.args.self.now.uncut.map.now in
    let walks = c.args.self.now.uncut.faces.now in
    let f = c.args.self.now.f in
    let i = c.loop-i.i in
    let now = c.meet_round-best.new.met in
    let least = c.meet_round-best.result in
    let ds = c.args.self.now.walk.now in
    let d = (get_or ds i (record { 0 = 0 })).0 in
    let e = c.behind-next.result.0 in
    let v = c.tail-v.result.0 in
    let x = c.across-x.result in
    let y = c.across-y.result in
    let ring = ids_of c.deref.result.now in
    let r : IsRing map v ring = subst (λ (l : List DartId). IsRing map v (ids_of l)) (sym c.deref.ensures.value) c.in_ok-put_ring.ensures in
    let here = IsMet-fewer f c.loop-i.met c.loop-i.best now least
    (λ z t h. (b : ℕ) × Contains ring b × IsNumber walks b z × (z ≢ f) × (z ≢ x) × (z ≢ y) × (t ≡ v) × (h ≡ v)) (IsCorner map walks (length ds) f d e)
    (λ z t h p. off_in_ring map c.facts.ensures.known walks c.facts.ensures.faces (length ds) f d e v x y z t h ring c.tail-v.ensures c.across-x.ensures.is c.across-y.ensures.is r p) c.meet_round-best.ensures in
    IsMet-more f c.args.met.now c.args.best now least i (IsOffPlace map walks f) c.loop-i.met c.loop-i.best c.loop-i.invariant (off_place map walks f i e ds c.loop-i.met c.loop-i.best now least c.args.self.now.walked (omega (arith, c.loop-i-test.true)) c.behind-next.ensures here)

pub returns : goal.returns
returns c =
    let size = length-ids c.args.self.now.walk.now in
    let same = ap (λ (w : List ℕ). length w) c.args.self.now.walked in
    let whole : c.loop-i.i ≡ length (walk_at c.args.self.now.uncut.faces.now c.args.self.now.f) = omega arith in
    subst (λ k. IsMet c.args.self.now.f (λ z x y. (i : ℕ) × (i < k) × IsOffPlace c.args.self.now.uncut.map.now c.args.self.now.uncut.faces.now c.args.self.now.f i z x y) c.args.met.now c.args.best c.loop-i.met c.loop-i.best) whole c.loop-i.invariant

pub across-x-requires : goal.across-x-requires
across-x-requires c = record { live = walk_live c.args.self.now.uncut.map.now c.args.self.now.uncut.faces.now c.facts.ensures.faces c.args.self.now.f c.args.self.now.face c.args.self.now.walk.now c.args.self.now.walked c.loop-i.i (omega (arith, c.loop-i-test.true)) }

pub across-y-requires : goal.across-y-requires
across-y-requires c = record { live = behind_live c.args.self.now.uncut.map.now c.args.self.now.uncut.faces.now c.facts.ensures.faces c.args.self.now.f c.args.self.now.face c.args.self.now.walk.now c.args.self.now.walked c.loop-i.i (omega (arith, c.loop-i-test.true)) c.behind-next.result.0 c.behind-next.ensures }

pub tail-v-requires : goal.tail-v-requires
tail-v-requires c = behind_live c.args.self.now.uncut.map.now c.args.self.now.uncut.faces.now c.facts.ensures.faces c.args.self.now.f c.args.self.now.face c.args.self.now.walk.now c.args.self.now.walked c.loop-i.i (omega (arith, c.loop-i-test.true)) c.behind-next.result.0 c.behind-next.ensures
