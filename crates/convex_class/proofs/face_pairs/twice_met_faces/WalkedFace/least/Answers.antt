use Rattle.std.proofs.Common.{◌≡◌, ℕ, ◌<◌, length, get_or, sym, subst, arith}
use Rattle.half_edges.specs.Map.{dart_at}
use Rattle.euler_faces.specs.FaceWalks.{ids_of}
use Rattle.convex_class.specs.Clear.{IsSide}
use Rattle.convex_class.specs.Meetings.{IsHere, IsMet}
use Rattle.convex_class.proofs.WalkMarks.{get_or-ids, length-ids}
use Rattle.convex_class.proofs.MeetingLemmas.{IsMet-fewer, IsMet-more}
use Rattle.convex_class.proofs.ClearLemmas.{head_is, tail_is, walk_live, clear_face}
use Rattle.convex_class.proofs.face_pairs.twice_met_faces.WalkedFace.least.Goals as goal

pub across-z-requires : goal.across-z-requires
across-z-requires c = record {
  live = walk_live c.args.self.now.uncut.map.now c.args.self.now.uncut.faces.now c.facts.ensures.faces c.args.self.now.f c.args.self.now.face c.args.self.now.walk.now c.args.self.now.walked c.loop-d.d-index c.loop-d-test.true;
}

pub tail-tail-requires : goal.tail-tail-requires
tail-tail-requires c = walk_live c.args.self.now.uncut.map.now c.args.self.now.uncut.faces.now c.facts.ensures.faces c.args.self.now.f c.args.self.now.face c.args.self.now.walk.now c.args.self.now.walked c.loop-d.d-index c.loop-d-test.true

pub head-head-requires : goal.head-head-requires
head-head-requires c = walk_live c.args.self.now.uncut.map.now c.args.self.now.uncut.faces.now c.facts.ensures.faces c.args.self.now.f c.args.self.now.face c.args.self.now.walk.now c.args.self.now.walked c.loop-d.d-index c.loop-d-test.true

pub loop-d-preserved : goal.loop-d-preserved
loop-d-preserved c =
    let map = c.args.self.now.uncut.map.now in
    let f = c.args.self.now.f in
    let p = c.loop-d.d-index in
    let ds = c.args.self.now.walk.now in
    let d = (get_or ds p (record { 0 = 0 })).0 in
    let tail = c.tail-tail.result.0 in
    let head = c.head-head.result.0 in
    let side : ℕ → ℕ → ℕ → ℕ → Type 0 = λ d. IsSide map c.args.self.now.uncut.faces.now d in
    let now = c.meet-best.new.met in
    let least = c.meet-best.result in
    let here = IsMet-fewer f c.loop-d.met c.loop-d.best now least (IsHere (record { face = f; tail = tail; head = head }) c.across-z.result) (side d)
    (λ z x y h. (c.across-z.ensures.all z h.1, tail_is (dart_at map d) x y tail h.0 c.tail-tail.ensures, head_is (dart_at map d) x y head h.0 c.head-head.ensures)) c.meet-best.ensures in
    let step = subst (λ d. IsMet f (side d) c.loop-d.met c.loop-d.best now least) (sym (get_or-ids ds p c.loop-d-test.true)) here in
    IsMet-more f c.args.met.now c.args.best now least p (λ i. side (get_or (ids_of ds) i 0)) c.loop-d.met c.loop-d.best c.loop-d.invariant step

pub returns-clause-lower : goal.returns-clause-lower
returns-clause-lower c =
    let low = c.loop-d.invariant.lower in
    let lower = c.in_ok-least.ensures.lower in
    omega arith

pub returns-clause-clear : goal.returns-clause-clear
returns-clause-clear c =
    let map = c.args.self.now.uncut.map.now in
    let walks = c.args.self.now.uncut.faces.now in
    let f = c.args.self.now.f in
    let ids = ids_of c.args.self.now.walk.now in
    let long = length-ids c.args.self.now.walk.now in
    let whole : c.loop-d.d-index ≡ length ids = omega arith in
    let sides = subst (λ k. IsMet f (λ z x y. (i : ℕ) × (i < k) × IsSide map walks (get_or ids i 0) z x y) c.args.met.now c.args.best c.loop-d.met c.loop-d.best) whole c.loop-d.invariant in
    clear_face map walks f ids c.args.met.now c.args.best c.loop-d.met c.loop-d.best c.meet_corners.new.met c.in_ok-least.least c.args.self.now.walked sides c.in_ok-least.ensures
