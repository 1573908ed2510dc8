use Rattle.std.proofs.Common.{◌≡◌, ◌<◌, length, subst, arith}
use Rattle.classes.proofs.Marks.{KeepsMarks-counting}
use Rattle.map_lists.specs.Cuts.{cut}
use Rattle.map_theory.specs.Maps.{face_images}
use Rattle.map_theory.proofs.DartLemmas.{IsPermutationOfBelow-face_images}
use Rattle.euler_faces.specs.Numbers.{mark_at}
use Rattle.euler_faces.specs.Search.{IsNumberedBy}
use Rattle.euler_faces.specs.FaceSearch.{no_face, with_face}
use Rattle.euler_faces.proofs.SearchLemmas.{met, unmet}
use Rattle.bipolar.proofs.FaceNumbering.{all_darts, few_entries, few_faces, AreNumberedBelow-none, AreNumberedBelow-old, AreNumberedBelow-new}
use Rattle.bipolar.proofs.dual_orders.numbered_faces.RankedDarts.number_all.Goals as goal

pub loop-d-init : goal.loop-d-init
loop-d-init c =
    AreNumberedBelow-none c.args.self.now.entries.now c.args.self.now.ends.now c.args.self.now.twins.now c.facts.ensures c.args.self.now.rank.now c.args.of.now c.args.arcs.now.items c.args.arc_ends.now.items c.requires.size c.requires.unset c.requires.no_arcs c.requires.no_ends

pub bounds-of-d : goal.bounds-of-d
bounds-of-d c =
    let d_in : c.loop-d.d < length c.args.self.now.entries.now = omega (arith, c.loop-d-test.true) in
    omega (arith, c.loop-d.invariant.size, d_in, all_darts c.args.self.now.entries.now c.args.self.now.ends.now c.args.self.now.twins.now c.facts.ensures)

pub loop-d-preserved-then-of-d : goal.loop-d-preserved-then-of-d
loop-d-preserved-then-of-d c =
    let d_in : c.loop-d.d < length c.args.self.now.entries.now = omega (arith, c.loop-d-test.true) in
    let all = all_darts c.args.self.now.entries.now c.args.self.now.ends.now c.args.self.now.twins.now c.facts.ensures in
    AreNumberedBelow-old c.args.self.now.entries.now c.args.self.now.ends.now c.args.self.now.twins.now c.facts.ensures c.args.self.now.rank.now c.loop-d.of c.loop-d.arcs.items c.loop-d.arc_ends.items c.loop-d.d c.loop-d.invariant d_in
    (met no_face c.loop-d.of c.loop-d.d (omega (arith, c.loop-d.invariant.size, d_in, all)) c.if-of-d.true)

pub overflow_cast-f : goal.overflow_cast-f
overflow_cast-f c =
    let d_in : c.loop-d.d < length c.args.self.now.entries.now = omega (arith, c.loop-d-test.true) in
    let few = few_faces c.args.self.now.entries.now c.args.self.now.ends.now c.args.self.now.twins.now c.facts.ensures c.args.self.now.rank.now c.loop-d.of c.loop-d.arcs.items c.loop-d.arc_ends.items c.loop-d.d c.loop-d.invariant d_in in
    omega (arith, few, d_in, c.len-f.ensures, few_entries c.args.self.now.entries.now c.args.self.now.ends.now c.args.self.now.twins.now c.facts.ensures)

pub walk_face-requires-clause-size : goal.walk_face-requires-clause-size
walk_face-requires-clause-size c =
    let d_in : c.loop-d.d < length c.args.self.now.entries.now = omega (arith, c.loop-d-test.true) in
    omega (arith, c.loop-d.invariant.size, all_darts c.args.self.now.entries.now c.args.self.now.ends.now c.args.self.now.twins.now c.facts.ensures)

pub walk_face-requires-clause-number : goal.walk_face-requires-clause-number
walk_face-requires-clause-number c =
    let d_in : c.loop-d.d < length c.args.self.now.entries.now = omega (arith, c.loop-d-test.true) in
    let few = few_faces c.args.self.now.entries.now c.args.self.now.ends.now c.args.self.now.twins.now c.facts.ensures c.args.self.now.rank.now c.loop-d.of c.loop-d.arcs.items c.loop-d.arc_ends.items c.loop-d.d c.loop-d.invariant d_in in
    omega (arith, few, d_in, c.len-f.ensures, few_entries c.args.self.now.entries.now c.args.self.now.ends.now c.args.self.now.twins.now c.facts.ensures)

pub walk_face-requires-clause-kept : goal.walk_face-requires-clause-kept
walk_face-requires-clause-kept c =
    let d_in : c.loop-d.d < length c.args.self.now.entries.now = omega (arith, c.loop-d-test.true) in
    let lists = cut 0 c.args.self.now.ends.now c.args.self.now.entries.now in
    KeepsMarks-counting (face_images lists) (mark_at (with_face c.loop-d.of)) (length c.loop-d.arc_ends.items) c.loop-d.d (IsPermutationOfBelow-face_images lists c.facts.ensures.simple) c.loop-d.invariant.counting

pub loop-d-preserved : goal.loop-d-preserved
loop-d-preserved c =
    let d_in : c.loop-d.d < length c.args.self.now.entries.now = omega (arith, c.loop-d-test.true) in
    let all = all_darts c.args.self.now.entries.now c.args.self.now.ends.now c.args.self.now.twins.now c.facts.ensures in
    let of = c.loop-d.of in
    let d = c.loop-d.d in
    let off = unmet no_face of d (omega (arith, c.loop-d.invariant.size, d_in, all)) c.if-of-d.false in
    let count : c.len-f.result ≡ length c.loop-d.arc_ends.items = omega (arith, c.len-f.ensures) in
    AreNumberedBelow-new c.args.self.now.entries.now c.args.self.now.ends.now c.args.self.now.twins.now c.facts.ensures c.args.self.now.rank.now of c.loop-d.arcs.items c.loop-d.arc_ends.items d c.loop-d.invariant d_in
    c.walk_face.new.of c.walk_face.new.arcs.items _ c.len.result off c.walk_face.auto.of c.in_ok-walk_face.ensures.marked
    (subst (IsNumberedBy no_face of c.walk_face.new.of) count c.in_ok-walk_face.ensures.numbered) c.in_ok-walk_face.ensures.put c.in_ok-push.ensures.items (omega (arith, c.len.ensures))
