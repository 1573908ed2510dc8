use Rattle.std.proofs.Common.{◌≡◌, ℕ, List, length, get_or, Contains, sym, ap, subst, arith}
use Rattle.euler_faces.specs.FaceWalks.{ids_of}
use Rattle.convex_class.specs.Clear.{IsOff, IsOffAt}
use Rattle.convex_class.specs.Stamps.{IsStamped, AreStamped}
use Rattle.convex_class.proofs.WalkMarks.{get_or-ids, length-ids}
use Rattle.convex_class.proofs.StampLemmas.{IsStamped-none, IsStamped-fewer, AreStamped-more}
use Rattle.convex_class.proofs.ClearLemmas.{off_in_walk, ring_live}
use Rattle.convex_class.proofs.face_pairs.twice_met_vertices.Star.mark_faces.Goals as goal

pub of_dart-requires : goal.of_dart-requires
of_dart-requires c = c.facts.ensures.faces.all _ (ring_live c.args.self.now.uncut.map.now c.args.self.now.u c.args.self.now.ring.now c.args.self.now.darts c.loop-d.d-index c.loop-d-test.true)

pub head-a-requires : goal.head-a-requires
head-a-requires c = ring_live c.args.self.now.uncut.map.now c.args.self.now.u c.args.self.now.ring.now c.args.self.now.darts c.loop-d.d-index c.loop-d-test.true

pub loop-d-preserved-then-walk-ring : goal.loop-d-preserved-then-walk-ring
loop-d-preserved-then-walk-ring c =
    let map = c.args.self.now.uncut.map.now in
    let walks = c.args.self.now.uncut.faces.now in
    let u = c.args.self.now.u in
    let p = c.loop-d.d-index in
    let ds = c.args.self.now.ring.now in
    let most = length ds in
    let d = (get_or ds p (record { 0 = 0 })).0 in
    let off : ℕ → ℕ → Type 0 = λ d. IsOff map walks most u d in
    let marks = c.loop-d.marks in
    let best = c.loop-d.best in
    let here = IsStamped-none u (off d) marks best
    (λ z h.
    let o = off_in_walk map c.facts.ensures.known walks c.facts.ensures.faces most u c.head-a.result.0 d c.of_dart.result.0 z c.head-a.ensures (c.of_dart.ensures.face, c.of_dart.ensures.stands) h in
    let short = o.0 in
    let long = length-ids c.walk-walk.result.now in
    let size = ap (λ (l : List ℕ). length l) c.walk-walk.ensures.walk in
    let more = c.if-walk-ring.true in
    omega arith) in
    let step = subst (λ d. IsStamped u (off d) marks best marks best) (sym (get_or-ids ds p c.loop-d-test.true)) here in
    AreStamped-more u p (λ i. off (get_or (ids_of ds) i 0)) c.args.marks.now c.args.best marks best marks best c.loop-d.invariant step

pub loop-d-preserved : goal.loop-d-preserved
loop-d-preserved c =
    let map = c.args.self.now.uncut.map.now in
    let walks = c.args.self.now.uncut.faces.now in
    let u = c.args.self.now.u in
    let p = c.loop-d.d-index in
    let ds = c.args.self.now.ring.now in
    let most = length ds in
    let d = (get_or ds p (record { 0 = 0 })).0 in
    let a = c.head-a.result.0 in
    let off : ℕ → ℕ → Type 0 = λ d. IsOff map walks most u d in
    let now = c.mark_passed-best.new.marks in
    let least = c.mark_passed-best.result in
    let here = IsStamped-fewer u (λ z. (e : ℕ) × Contains (ids_of c.walk-walk.result.now) e × IsOffAt map u a e z) (off d) c.loop-d.marks c.loop-d.best now least
    (λ z h.
    let o = off_in_walk map c.facts.ensures.known walks c.facts.ensures.faces most u a d c.of_dart.result.0 z c.head-a.ensures (c.of_dart.ensures.face, c.of_dart.ensures.stands) h in
    (o.1.0, subst (λ (l : List ℕ). Contains l o.1.0) (sym c.walk-walk.ensures.walk) o.1.1, o.1.2))
    c.mark_passed-best.ensures in
    let step = subst (λ d. IsStamped u (off d) c.loop-d.marks c.loop-d.best now least) (sym (get_or-ids ds p c.loop-d-test.true)) here in
    AreStamped-more u p (λ i. off (get_or (ids_of ds) i 0)) c.args.marks.now c.args.best c.loop-d.marks c.loop-d.best now least c.loop-d.invariant step

pub returns : goal.returns
returns c =
    let whole : c.loop-d.d-index ≡ length c.args.self.now.ring.now = omega arith in
    subst (λ k. AreStamped c.args.self.now.u k (λ i. IsOff c.args.self.now.uncut.map.now c.args.self.now.uncut.faces.now (length c.args.self.now.ring.now) c.args.self.now.u (get_or (ids_of c.args.self.now.ring.now) i 0)) c.args.marks.now c.args.best c.loop-d.marks c.loop-d.best) whole c.loop-d.invariant
