use Rattle.std.proofs.Common.{◌≡◌, ◌≢◌, ℕ, ◌<◌, length, get_or, Contains, sym, subst, inl, inr, arith}
use Rattle.vertex_rounds.proofs.LeastLemmas.{place_in}
use Rattle.half_edges.specs.Map.{IsLive}
use Rattle.euler_faces.specs.FaceWalks.{ids_of}
use Rattle.convex_class.specs.Clear.{IsNumber}
use Rattle.convex_class.proofs.MeetingLemmas.{IsMet-fewer}
use Rattle.convex_class.proofs.ClearLemmas.{each_dart, met_none, met_one}
use Rattle.convex_class.proofs.face_pairs.twice_met_faces.FaceVertex.meet_round.Goals as goal
use Rattle.convex_class.proofs.face_pairs.twice_met_faces.FaceVertex.meet_round.Goals.{then-z-x-via-then-z-x, then-z-x-via-else-z-x+then-z-y}
use Rattle.convex_class.proofs.WalkMarks.{length-ids}

pub of_dart-z-requires : goal.of_dart-z-requires
of_dart-z-requires c = c.facts.ensures.faces.all _ (each_dart c.args.ring.now (IsLive c.args.self.now.uncut.map.now) c.requires.ring c.loop-c.c-index c.loop-c-test.true)

pub loop-c-preserved-then-z-place : goal.loop-c-preserved-then-z-place
loop-c-preserved-then-z-place c = met_none c.args.self.now.uncut.map.now c.args.self.now.uncut.faces.now c.facts.ensures.faces c.args.ring.now c.args.self.now.place c.args.self.now.x c.args.self.now.y c.loop-c.c-index c.of_dart-z.result.0 c.loop-c-test.true (c.of_dart-z.ensures.face, c.of_dart-z.ensures.stands) c.args.met.now c.args.best c.loop-c.met c.loop-c.best (inl c.if-z-place.true) c.loop-c.invariant

pub loop-c-preserved-then-z-x : goal.loop-c-preserved-then-z-x
loop-c-preserved-then-z-x c =
    met_none c.args.self.now.uncut.map.now c.args.self.now.uncut.faces.now c.facts.ensures.faces c.args.ring.now c.args.self.now.place c.args.self.now.x c.args.self.now.y c.loop-c.c-index c.of_dart-z.result.0 c.loop-c-test.true (c.of_dart-z.ensures.face, c.of_dart-z.ensures.stands) c.args.met.now c.args.best c.loop-c.met c.loop-c.best (inr (elim c.then-z-x.branch [ then-z-x-via-then-z-x w ↦ inl w.if-z-x.true | then-z-x-via-else-z-x+then-z-y w ↦ inr w.if-z-y.true ])) c.loop-c.invariant

pub loop-c-preserved : goal.loop-c-preserved
loop-c-preserved c =
    met_one c.args.self.now.uncut.map.now c.args.self.now.uncut.faces.now c.facts.ensures.faces c.args.ring.now c.args.self.now.place c.args.self.now.x c.args.self.now.y c.loop-c.c-index c.of_dart-z.result.0 c.loop-c-test.true (c.of_dart-z.ensures.face, c.of_dart-z.ensures.stands) c.args.met.now c.args.best c.loop-c.met c.loop-c.best c.meet-best.new.met c.meet-best.result c.meet-best.ensures c.loop-c.invariant

pub returns : goal.returns
returns c =
    let walks = c.args.self.now.uncut.faces.now in
    let place = c.args.self.now.place in
    let f = place.face in
    let x = c.args.self.now.x in
    let y = c.args.self.now.y in
    let ids = ids_of c.args.ring.now in
    let long = length-ids c.args.ring.now in
    let whole : c.loop-c.c-index ≡ length ids = omega arith in
    IsMet-fewer f c.args.met.now c.args.best c.loop-c.met c.loop-c.best
    (λ z t h. (i : ℕ) × (i < c.loop-c.c-index) × (IsNumber walks (get_or ids i 0) z × (z ≢ f) × (z ≢ x) × (z ≢ y) × (t ≡ place.tail) × (h ≡ place.head)))
    (λ z t h. (d : ℕ) × Contains ids d × IsNumber walks d z × (z ≢ f) × (z ≢ x) × (z ≢ y) × (t ≡ place.tail) × (h ≡ place.head))
    (λ z t h q. let p = place_in ids q.0 q.1 in let l = p.1 in (p.0, omega arith, (subst (λ d. IsNumber walks d z) (sym p.2) q.2, q.3, q.4, q.5, q.6, q.7))) c.loop-c.invariant
