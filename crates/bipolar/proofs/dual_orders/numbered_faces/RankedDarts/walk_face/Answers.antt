use Rattle.std.proofs.Common.{◌<◌, length, set, length-set, refl, ◌∙◌, arith}
use Rattle.classes.proofs.Marks.{IsMarking-none, IsMarking-more, IsMarking-all, unmarked_below-set}
use Rattle.map_lists.specs.Cuts.{cut}
use Rattle.map_theory.specs.Maps.{face_images}
use Rattle.map_theory.proofs.DartLemmas.{length-face_images, IsPermutationOfBelow-face_images}
use Rattle.euler_faces.specs.Numbers.{mark_at}
use Rattle.euler_faces.specs.FaceSearch.{no_face, with_face}
use Rattle.euler_faces.proofs.SearchLemmas.{met, unmet, IsNumbered-set, IsNumbered-chained}
use Rattle.bipolar.proofs.FaceNumbering.{SetsMark-numbered, IsNumbered-none, all_darts, few_entries, twin_in, tail_in, head_in, step_is, ArePutTwins-none, ArePutTwins-more}
use Rattle.bipolar.proofs.dual_orders.numbered_faces.RankedDarts.walk_face.Goals as goal

pub loop-of-init : goal.loop-of-init
loop-of-init c =
    let lists = cut 0 c.args.self.now.ends.now c.args.self.now.entries.now in
    let darts = c.facts.ensures in
    let of = c.args.of.now in
    record {
      size = c.requires.size;
      d_in = c.requires.start_in;
      marking = IsMarking-none (face_images lists) (mark_at (with_face of)) c.args.start (omega (arith, c.requires.start_in, length-face_images lists, all_darts c.args.self.now.entries.now c.args.self.now.ends.now c.args.self.now.twins.now darts)) c.requires.kept;
      numbered = IsNumbered-none of c.args.f;
      put = ArePutTwins-none c.args.self.now.entries.now c.args.self.now.ends.now c.args.self.now.twins.now darts c.args.self.now.rank.now of c.args.arcs.now.items;
    }

pub bounds-self-twin : goal.bounds-self-twin
bounds-self-twin c = twin_in c.args.self.now.entries.now c.args.self.now.ends.now c.args.self.now.twins.now c.facts.ensures c.loop-of.d c.loop-of.invariant.d_in

pub put_upward-requires-clause-tail : goal.put_upward-requires-clause-tail
put_upward-requires-clause-tail c = omega (arith, tail_in c.args.self.now.entries.now c.args.self.now.ends.now c.args.self.now.twins.now c.facts.ensures c.loop-of.d c.loop-of.invariant.d_in, c.args.self.now.ranks)

pub put_upward-requires-clause-head : goal.put_upward-requires-clause-head
put_upward-requires-clause-head c = omega (arith, head_in c.args.self.now.entries.now c.args.self.now.ends.now c.args.self.now.twins.now c.facts.ensures c.loop-of.d c.loop-of.invariant.d_in, c.args.self.now.ranks)

pub after-d-requires-clause-v_in : goal.after-d-requires-clause-v_in
after-d-requires-clause-v_in c = head_in c.args.self.now.entries.now c.args.self.now.ends.now c.args.self.now.twins.now c.facts.ensures c.loop-of.d c.loop-of.invariant.d_in

pub after-d-requires-clause-fits : goal.after-d-requires-clause-fits
after-d-requires-clause-fits c = omega (arith, twin_in c.args.self.now.entries.now c.args.self.now.ends.now c.args.self.now.twins.now c.facts.ensures c.loop-of.d c.loop-of.invariant.d_in, few_entries c.args.self.now.entries.now c.args.self.now.ends.now c.args.self.now.twins.now c.facts.ensures)

pub loop-of-smaller : goal.loop-of-smaller
loop-of-smaller c =
    let h = c.loop-of.invariant in
    let of = c.loop-of.of in
    let d = c.loop-of.d in
    let d_in : d < length of = omega (arith, h.d_in, h.size) in
    unmarked_below-set (length c.args.self.now.entries.now) (mark_at (with_face of)) (mark_at (with_face (set of d c.args.f))) d
    (SetsMark-numbered of (length c.args.self.now.entries.now) d c.args.f d_in c.requires.number) h.d_in (unmet no_face of d d_in c.loop-of-test.true)

pub loop-of-preserved : goal.loop-of-preserved
loop-of-preserved c =
    let lists = cut 0 c.args.self.now.ends.now c.args.self.now.entries.now in
    let darts = c.facts.ensures in
    let h = c.loop-of.invariant in
    let of = c.loop-of.of in
    let d = c.loop-of.d in
    let f = c.args.f in
    let all = all_darts c.args.self.now.entries.now c.args.self.now.ends.now c.args.self.now.twins.now darts in
    let n = length-face_images lists in
    let d_in : d < length of = omega (arith, h.d_in, h.size) in
    let off = unmet no_face of d d_in c.loop-of-test.true in
    let marking = IsMarking-more (face_images lists) (mark_at (with_face c.args.of.now)) (mark_at (with_face of)) (mark_at (with_face (set of d f))) c.args.start d c.after-d.result (IsPermutationOfBelow-face_images lists darts.simple) (omega (arith, c.requires.start_in, n, all)) h.marking
    (SetsMark-numbered of (length (face_images lists)) d f d_in c.requires.number) (c.after-d.ensures ∙ step_is c.args.self.now.entries.now c.args.self.now.ends.now c.args.self.now.twins.now darts d h.d_in) in
    record {
      size = length-set of d f ∙ h.size;
      d_in = omega (arith, marking.within, n, all);
      marking = marking;
      numbered = IsNumbered-chained no_face _ _ _ _ h.numbered (IsNumbered-set no_face of d f c.requires.number d_in off);
      put = ArePutTwins-more c.args.self.now.entries.now c.args.self.now.ends.now c.args.self.now.twins.now darts c.args.self.now.rank.now c.args.of.now of (set of d f) c.args.arcs.now.items c.loop-of.arcs.items c.put_upward.new.arcs.items d f h.numbered h.put h.d_in h.size off c.requires.number refl c.in_ok-put_upward.ensures;
    }

pub returns-clause-marked : goal.returns-clause-marked
returns-clause-marked c = λ i l.
    let lists = cut 0 c.args.self.now.ends.now c.args.self.now.entries.now in
    let darts = c.facts.ensures in
    let h = c.loop-of.invariant in
    let all = all_darts c.args.self.now.entries.now c.args.self.now.ends.now c.args.self.now.twins.now darts in
    let n = length-face_images lists in
    IsMarking-all (face_images lists) (mark_at (with_face c.args.of.now)) (mark_at (with_face c.loop-of.of)) c.args.start c.loop-of.d (IsPermutationOfBelow-face_images lists darts.simple) h.marking (omega (arith, c.requires.start_in, n, all))
    (met no_face c.loop-of.of c.loop-of.d (omega (arith, h.d_in, h.size)) c.loop-of-test.false) i (omega (arith, l, n, all))
