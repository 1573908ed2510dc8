use Rattle.std.proofs.Common.{refl, sym, ◌∙◌, subst, arith}
use Rattle.std.proofs.lemmas.Bool.{ne_eqb, eq-eqb}
use Rattle.classes.proofs.Orbits.{length-orbits, IsLabels-orbits}
use Rattle.classes.proofs.Marks.{IsCounting-none, IsCounting-le, IsCounting-new, IsCounting-old, IsCounting-all, KeepsMarks-counting}
use Rattle.map_lists.specs.Cuts.{cut}
use Rattle.map_theory.specs.Maps.{face_images, face_classes}
use Rattle.map_theory.proofs.DartLemmas.{length-face_images, IsPermutationOfBelow-face_images}
use Rattle.euler_faces.specs.Slots.{walked}
use Rattle.euler_faces.specs.Corners.{AreCornersBelow}
use Rattle.euler_faces.proofs.OrbitLemmas.{twins_long, HaveTwins-all, none_walked, IsCounting-last}
use Rattle.euler_faces.proofs.TriangleLemmas.{faces_of_three}
use Rattle.euler_faces.proofs.stored_map.StoredMap.count_orbits.Goals as goal
use Rattle.euler_faces.proofs.stored_map.StoredMap.count_orbits.Goals.{then-twins-d+else-count-most, else-twins-d}

pub returns-then-are_triangles-clause-count : goal.returns-then-are_triangles-clause-count
returns-then-are_triangles-clause-count c =
    let lists = cut 0 c.args.self.now.ends.now c.args.self.now.entries.now in
    let all = c.facts.ensures.darts in
    let three = faces_of_three lists c.facts.ensures.simple (subst (AreCornersBelow lists) (sym all) c.if-are_triangles.ensures) in
    omega arith

pub loop-d-init : goal.loop-d-init
loop-d-init c =
    let lists = cut 0 c.args.self.now.ends.now c.args.self.now.entries.now in
    let n = length-face_images lists in
    let o = length-orbits (face_images lists) in
    let all = c.facts.ensures.darts in
    record {
      long = twins_long c.args.self.now.ends.now c.args.self.now.entries.now c.facts.ensures.cuts c.facts.ensures.simple c.args.twins.now c.requires.twins;
      twins = HaveTwins-all lists c.args.twins.now c.requires.twins;
      counting = IsCounting-none (face_classes lists) (walked c.args.twins.now) (λ i l. none_walked lists c.args.twins.now c.requires.twins (omega (arith, c.facts.ensures.few)) i (omega arith));
    }

pub walk_face-requires-clause-kept : goal.walk_face-requires-clause-kept
walk_face-requires-clause-kept c =
    let lists = cut 0 c.args.self.now.ends.now c.args.self.now.entries.now in
    KeepsMarks-counting (face_images lists) (walked c.loop-d.twins) c.loop-d.count c.loop-d.d (IsPermutationOfBelow-face_images lists c.facts.ensures.simple) c.loop-d.invariant.counting

pub overflow_add-count : goal.overflow_add-count
overflow_add-count c =
    let le = IsCounting-le _ _ c.loop-d.count c.loop-d.d c.loop-d.invariant.counting in
    let few = c.facts.ensures.few in
    omega arith

pub returns-then-count-most-clause-count : goal.returns-then-count-most-clause-count
returns-then-count-most-clause-count c =
    let lists = cut 0 c.args.self.now.ends.now c.args.self.now.entries.now in
    let n = length-face_images lists in
    let o = length-orbits (face_images lists) in
    let all = c.facts.ensures.darts in
    let labels = IsLabels-orbits (face_images lists) (IsPermutationOfBelow-face_images lists c.facts.ensures.simple).within in
    IsCounting-last (face_classes lists) (walked c.loop-d.twins) c.loop-d.count c.loop-d.d c.args.most labels c.loop-d.invariant.counting (omega arith)
    (ne_eqb _ _ c.if-twins-d.true) c.requires.most c.if-count-most.true

pub returns-then-count-most-clause-few : goal.returns-then-count-most-clause-few
returns-then-count-most-clause-few c =
    let le = IsCounting-le _ _ c.loop-d.count c.loop-d.d c.loop-d.invariant.counting in
    omega arith

pub loop-d-preserved : goal.loop-d-preserved
loop-d-preserved c =
    let lists = cut 0 c.args.self.now.ends.now c.args.self.now.entries.now in
    let h = c.loop-d.invariant in
    let twins = c.loop-d.twins in
    let d = c.loop-d.d in
    let n = length-face_images lists in
    let o = length-orbits (face_images lists) in
    let all = c.facts.ensures.darts in
    let labels = IsLabels-orbits (face_images lists) (IsPermutationOfBelow-face_images lists c.facts.ensures.simple).within in
    let long = h.long in
    elim c.if-twins-d.branch [
      | then-twins-d+else-count-most w ↦ record {
        long = rw w.twins-is (w.walk_face.auto.twins ∙ h.long);
        twins = rw w.twins-is w.walk_face.ensures.twins;
        counting = rw (w.twins-is, w.count-is) (IsCounting-new (face_classes lists) (walked twins) (walked w.walk_face.new.twins) c.loop-d.count d _ labels h.counting (omega arith)
            (ne_eqb _ _ w.if-twins-d.true) (λ y l. w.walk_face.ensures.walked y (omega arith)) refl);
      }
      | else-twins-d w ↦ record {
        long = rw w.twins-is h.long;
        twins = rw w.twins-is h.twins;
        counting = rw (w.twins-is, w.count-is) (IsCounting-old (face_classes lists) (walked twins) c.loop-d.count d _ labels h.counting (omega arith)
            (eq-eqb _ _ w.if-twins-d.false) refl);
      }
    ]

pub returns-clause-count : goal.returns-clause-count
returns-clause-count c =
    let lists = cut 0 c.args.self.now.ends.now c.args.self.now.entries.now in
    let n = length-face_images lists in
    let o = length-orbits (face_images lists) in
    let all = c.facts.ensures.darts in
    IsCounting-all (face_classes lists) (walked c.loop-d.twins) c.loop-d.count c.loop-d.d c.loop-d.invariant.counting (omega arith)

pub returns-clause-few : goal.returns-clause-few
returns-clause-few c =
    let le = IsCounting-le _ _ c.loop-d.count c.loop-d.d c.loop-d.invariant.counting in
    omega arith
