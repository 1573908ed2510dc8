use Rattle.std.proofs.Common.{◌≡◌, false, length, set, ◌∙◌, arith, length-set}
use Rattle.std.proofs.lemmas.Bool.{ne_eqb, eq-eqb}
use Rattle.classes.proofs.Marks.{IsMarking-none, IsMarking-more, IsMarking-all, unmarked_below-set}
use Rattle.map_lists.specs.Cuts.{cut}
use Rattle.map_theory.specs.Maps.{face_images}
use Rattle.map_theory.proofs.DartLemmas.{length-face_images, IsPermutationOfBelow-face_images}
use Rattle.euler_faces.specs.Slots.{walked}
use Rattle.euler_faces.proofs.OrbitLemmas.{SetsMark-walked, HaveTwins-walked, step-is, read_twin}
use Rattle.euler_faces.proofs.stored_map.StoredMap.walk_face.Goals as goal

pub loop-twins-init : goal.loop-twins-init
loop-twins-init c =
    let lists = cut 0 c.args.self.now.ends.now c.args.self.now.entries.now in
    let n = length-face_images lists in
    let count = c.facts.ensures.darts in
    record {
      count = c.requires.long;
      in_twins = c.requires.start_in;
      twins = c.requires.twins;
      marking = IsMarking-none (face_images lists) (walked c.args.twins.now) c.args.start (omega (arith, c.requires.start_in)) c.requires.kept;
    }

pub after-d-requires-clause-v_in : goal.after-d-requires-clause-v_in
after-d-requires-clause-v_in c =
    let h = c.loop-twins.invariant in
    (step-is c.args.self.now.ends.now c.args.self.now.entries.now c.facts.ensures.cuts c.facts.ensures.simple c.loop-twins.d _ h.in_twins
    (read_twin c.args.self.now.ends.now c.args.self.now.entries.now c.facts.ensures.cuts c.facts.ensures.simple c.loop-twins.twins c.loop-twins.d h.in_twins h.twins c.loop-twins-test.true)).0

pub loop-twins-smaller : goal.loop-twins-smaller
loop-twins-smaller c =
    let h = c.loop-twins.invariant in
    let twins = c.loop-twins.twins in
    let d = c.loop-twins.d in
    let in_twins = h.in_twins in
    let count = h.count in
    let off : walked twins d ≡ false = ne_eqb _ _ c.loop-twins-test.true in
    (unmarked_below-set (length c.args.self.now.entries.now) (walked twins) (walked (set twins d 4294967295)) d
    (SetsMark-walked twins (length c.args.self.now.entries.now) d (omega arith)) in_twins off)

pub loop-twins-preserved : goal.loop-twins-preserved
loop-twins-preserved c =
    let lists = cut 0 c.args.self.now.ends.now c.args.self.now.entries.now in
    let h = c.loop-twins.invariant in
    let twins = c.loop-twins.twins in
    let d = c.loop-twins.d in
    let in_twins = h.in_twins in
    let count = h.count in
    let n = length-face_images lists in
    let all = c.facts.ensures.darts in
    let start = c.requires.start_in in
    let step = step-is c.args.self.now.ends.now c.args.self.now.entries.now c.facts.ensures.cuts c.facts.ensures.simple d _ in_twins
    (read_twin c.args.self.now.ends.now c.args.self.now.entries.now c.facts.ensures.cuts c.facts.ensures.simple twins d in_twins h.twins c.loop-twins-test.true) in
    let p = IsPermutationOfBelow-face_images lists c.facts.ensures.simple in
    let marking = IsMarking-more (face_images lists) (walked c.args.twins.now) (walked twins) (walked (set twins d 4294967295)) c.args.start d c.after-d.result p (omega arith) h.marking
    (SetsMark-walked twins (length (face_images lists)) d (omega arith)) (c.after-d.ensures ∙ step.2) in
    record {
      count = length-set twins d _ ∙ h.count;
      in_twins = omega (arith, marking.within);
      twins = HaveTwins-walked lists twins d (omega arith) h.twins;
      marking = marking;
    }

pub returns-clause-walked : goal.returns-clause-walked
returns-clause-walked c = λ i l.
    let lists = cut 0 c.args.self.now.ends.now c.args.self.now.entries.now in
    let h = c.loop-twins.invariant in
    let in_twins = h.in_twins in
    let count = h.count in
    let n = length-face_images lists in
    let all = c.facts.ensures.darts in
    let start = c.requires.start_in in
    IsMarking-all (face_images lists) (walked c.args.twins.now) (walked c.loop-twins.twins) c.args.start c.loop-twins.d (IsPermutationOfBelow-face_images lists c.facts.ensures.simple) h.marking (omega arith)
    (eq-eqb _ _ c.loop-twins-test.false) i (omega arith)
