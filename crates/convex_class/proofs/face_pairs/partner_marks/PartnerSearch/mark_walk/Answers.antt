use Rattle.std.proofs.Common.{◌≡◌, ◌<◌, length, get_or, Some, subst, arith}
use Rattle.half_edges.specs.Map.{IsLive, dart_at}
use Rattle.euler_faces.specs.FaceWalks.{ids_of}
use Rattle.vertex_rounds.proofs.RoundLemmas.{place_at}
use Rattle.convex_class.proofs.WalkMarks.{AreMarksUnderWay, AreMarksUnderWay-none, AreMarksUnderWay-step, AreMarksUnderWay-whole, IsUnused-step, get_or-ids, length-ids}
use Rattle.vertex_rounds.specs.Rounds.{dart_of}
use Rattle.vertex_rounds.proofs.DartIds.{dart_of-live}
use Rattle.convex_class.proofs.face_pairs.partner_marks.PartnerSearch.mark_walk.Goals as goal

pub loop-d-init : goal.loop-d-init
loop-d-init c =
    record {
      marked = λ d leaves on m. AreMarksUnderWay-none c.args.self.now.uncut.map.now c.args.self.now.u.0 (ids_of c.args.walk.now) (place_at c.args.self.now.uncut.map.now c.args.self.now.u.0 d) c.args.marks.now c.args.best m;
      unused = λ x ne old. old;
    }

pub mark_tail-best-requires-clause-live : goal.mark_tail-best-requires-clause-live
mark_tail-best-requires-clause-live c =
    let long = length-ids c.args.walk.now in
    let at = get_or-ids c.args.walk.now c.loop-d.d-index c.loop-d-test.true in
    subst (IsLive c.args.self.now.uncut.map.now) at (c.requires.walk.live c.loop-d.d-index (omega arith))

pub loop-d-preserved : goal.loop-d-preserved
loop-d-preserved c =
    let map = c.args.self.now.uncut.map.now in
    let u = c.args.self.now.u.0 in
    let ids = ids_of c.args.walk.now in
    let p = c.loop-d.d-index in
    let long = length-ids c.args.walk.now in
    let within : p < length ids = omega arith in
    let at = get_or-ids c.args.walk.now p c.loop-d-test.true in
    let x = dart_of map (get_or ids p 0) in
    let is = dart_of-live map (get_or ids p 0) (c.requires.walk.live p within) in
    let is' = subst (λ d. dart_at map d ≡ Some x) at is in
    let passed = c.mark_tail-best.ensures.passed x.0 x.1 is' in
    let other = c.mark_tail-best.ensures.other x.0 x.1 is' in
    record {
      marked = λ d leaves on m.
          AreMarksUnderWay-step map c.facts.ensures.known c.facts.ensures.uncut u ids c.requires.walk (place_at map u d) p c.loop-d.marks c.loop-d.best within x.0 x.1 is _ _ (omega arith) passed other (c.loop-d.invariant.marked d leaves on m);
      unused = λ y ne old. IsUnused-step map c.facts.ensures.known c.facts.ensures.uncut u ids c.requires.walk 0 p c.loop-d.marks c.loop-d.best within x.0 x.1 is _ _ (omega arith) passed other y ne (c.loop-d.invariant.unused y ne old);
    }

pub returns-clause-marked : goal.returns-clause-marked
returns-clause-marked c = λ d leaves on m.
    let map = c.args.self.now.uncut.map.now in
    let ids = ids_of c.args.walk.now in
    let long = length-ids c.args.walk.now in
    let all : c.loop-d.d-index ≡ length ids = omega arith in
    AreMarksUnderWay-whole map c.facts.ensures.known c.facts.ensures.uncut c.args.self.now.u.0 ids c.requires.walk d leaves on c.loop-d.marks c.loop-d.best
    (subst (λ p. AreMarksUnderWay map c.args.self.now.u.0 ids (place_at map c.args.self.now.u.0 d) p c.loop-d.marks c.loop-d.best) all (c.loop-d.invariant.marked d leaves on m))
