use Rattle.std.proofs.Common.{◌≡◌, ◌<◌, ℕ, length, get_or, sym, subst, ◌∙◌, arith}
use Rattle.map_theory.specs.Maps.{HasDart, list_of}
use Rattle.euler_faces.specs.FaceWalks.{ids_of}
use Rattle.convex_class.specs.Clear.{IsOff}
use Rattle.convex_class.specs.Stamps.{AreStamped}
use Rattle.convex_class.proofs.WalkMarks.{length-ids}
use Rattle.convex_class.proofs.ClearLemmas.{head_is, ring_dart, ring_live, heads_more, heads_all, clear_vertex}
use Rattle.convex_class.proofs.face_pairs.twice_met_vertices.Star.least.Goals as goal

pub head-z-requires : goal.head-z-requires
head-z-requires c = ring_live c.args.self.now.uncut.map.now c.args.self.now.u c.args.self.now.ring.now c.args.self.now.darts c.loop-d.d-index c.loop-d-test.true

pub bounds-marks-z : goal.bounds-marks-z
bounds-marks-z c =
    let map = c.args.self.now.uncut.map.now in
    let u = c.args.self.now.u in
    let p = c.loop-d.d-index in
    let w = get_or (list_of map.lists u) p 0 in
    let is = ring_dart map u c.args.self.now.ring.now c.args.self.now.darts p c.loop-d-test.true in
    let same = head_is _ u w c.head-z.result.0 is c.head-z.ensures in
    let l = c.facts.ensures.known.simple.in_range u w (c.facts.ensures.known.is_dart _ u w is) in
    omega (arith, same, l, c.loop-d.auto.marks, c.requires.marks)

pub loop-d-preserved : goal.loop-d-preserved
loop-d-preserved c =
    let map = c.args.self.now.uncut.map.now in
    let u = c.args.self.now.u in
    let p = c.loop-d.d-index in
    let us = list_of map.lists u in
    let w = get_or us p 0 in
    let z = c.head-z.result.0 in
    let is = ring_dart map u c.args.self.now.ring.now c.args.self.now.darts p c.loop-d-test.true in
    let same = head_is _ u w z is c.head-z.ensures in
    let l = c.facts.ensures.known.simple.in_range u w (c.facts.ensures.known.is_dart _ u w is) in
    let z_in : z < length c.loop-d.marks = omega (arith, same, l, c.loop-d.auto.marks, c.requires.marks) in
    heads_more u z p us c.loop-d.marks z_in same c.loop-d.invariant

pub returns-clause-clear : goal.returns-clause-clear
returns-clause-clear c =
    let map = c.args.self.now.uncut.map.now in
    let u = c.args.self.now.u in
    let us = list_of map.lists u in
    let ids = ids_of c.args.self.now.ring.now in
    let mid = c.loop-d.marks in
    let now = c.mark_faces.new.marks in
    let least = c.mark_faces.result in
    let long = length-ids c.args.self.now.ring.now in
    let size = c.args.self.now.darts.long in
    let whole : c.loop-d.d-index ≡ length us = omega arith in
    let heads : (z : ℕ) → HasDart map.lists u z → get_or mid z 0 ≡ u = λ z has. heads_all u c.loop-d.d-index us mid whole c.loop-d.invariant z has.1 in
    let stamped = subst (λ k. AreStamped u k (λ i. IsOff map c.args.self.now.uncut.faces.now (length c.args.self.now.ring.now) u (get_or ids i 0)) mid c.args.best now least) (sym long) c.mark_faces.ensures in
    clear_vertex map c.facts.ensures.known c.args.self.now.uncut.faces.now c.facts.ensures.faces (length c.args.self.now.ring.now) u ids mid c.args.best now least (sym long ∙ size) c.args.self.now.darts heads stamped
