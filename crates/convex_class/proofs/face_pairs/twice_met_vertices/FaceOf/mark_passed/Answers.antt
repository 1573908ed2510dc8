use Rattle.std.proofs.Common.{◌≡◌, length, inl, inr, arith}
use Rattle.half_edges.specs.Map.{IsLive}
use Rattle.euler_faces.specs.FaceWalks.{ids_of}
use Rattle.convex_class.specs.Clear.{IsOffAt}
use Rattle.convex_class.proofs.WalkMarks.{length-ids}
use Rattle.convex_class.proofs.ClearLemmas.{each_dart, tail_below, stamped_each, marked_none, marked_one}
use Rattle.convex_class.proofs.face_pairs.twice_met_vertices.FaceOf.mark_passed.Goals as goal
use Rattle.convex_class.proofs.face_pairs.twice_met_vertices.FaceOf.mark_passed.Goals.{then-z-u-via-then-z-u, then-z-u-via-else-z-u+then-z-a}

pub tail-z-requires : goal.tail-z-requires
tail-z-requires c = each_dart c.args.walk.now (IsLive c.args.self.now.uncut.map.now) c.requires.walk.live c.loop-d.d-index c.loop-d-test.true

pub head-h-requires : goal.head-h-requires
head-h-requires c = each_dart c.args.walk.now (IsLive c.args.self.now.uncut.map.now) c.requires.walk.live c.loop-d.d-index c.loop-d-test.true

pub stamp-best-requires : goal.stamp-best-requires
stamp-best-requires c =
    let map = c.args.self.now.uncut.map.now in
    let live = each_dart c.args.walk.now (IsLive map) c.requires.walk.live c.loop-d.d-index c.loop-d-test.true in
    omega (arith, tail_below map c.facts.ensures.known _ c.tail-z.result.0 live c.tail-z.ensures, c.loop-d.auto.marks, c.requires.marks)

pub loop-d-preserved-then-z-u : goal.loop-d-preserved-then-z-u
loop-d-preserved-then-z-u c =
    marked_none c.args.self.now.uncut.map.now c.args.self.now.u c.args.self.now.a c.args.walk.now c.loop-d.d-index c.tail-z.result.0 c.head-h.result.0 c.loop-d-test.true c.tail-z.ensures c.head-h.ensures c.args.marks.now c.args.best c.loop-d.marks c.loop-d.best (inl (elim c.then-z-u.branch [ then-z-u-via-then-z-u w ↦ inl w.if-z-u.true | then-z-u-via-else-z-u+then-z-a w ↦ inr w.if-z-a.true ])) c.loop-d.invariant

pub loop-d-preserved-then-h-u : goal.loop-d-preserved-then-h-u
loop-d-preserved-then-h-u c = marked_none c.args.self.now.uncut.map.now c.args.self.now.u c.args.self.now.a c.args.walk.now c.loop-d.d-index c.tail-z.result.0 c.head-h.result.0 c.loop-d-test.true c.tail-z.ensures c.head-h.ensures c.args.marks.now c.args.best c.loop-d.marks c.loop-d.best (inr c.if-h-u.true) c.loop-d.invariant

pub loop-d-preserved : goal.loop-d-preserved
loop-d-preserved c = marked_one c.args.self.now.uncut.map.now c.args.self.now.u c.args.self.now.a c.args.walk.now c.loop-d.d-index c.tail-z.result.0 c.head-h.result.0 c.loop-d-test.true c.tail-z.ensures c.head-h.ensures c.args.marks.now c.args.best c.loop-d.marks c.loop-d.best c.stamp-best.new.marks c.stamp-best.result c.stamp-best.ensures c.loop-d.invariant

pub returns : goal.returns
returns c =
    let ids = ids_of c.args.walk.now in
    let long = length-ids c.args.walk.now in
    let whole : c.loop-d.d-index ≡ length ids = omega arith in
    stamped_each c.args.self.now.u c.loop-d.d-index ids (λ d. IsOffAt c.args.self.now.uncut.map.now c.args.self.now.u c.args.self.now.a d) c.args.marks.now c.args.best c.loop-d.marks c.loop-d.best whole c.loop-d.invariant
