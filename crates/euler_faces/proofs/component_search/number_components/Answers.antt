use Rattle.std.proofs.Common.{◌-◌, length, arith, refl, sym, ◌∙◌}
use Rattle.std.proofs.lemmas.Bool.{lt-ltb, false≢true}
use Rattle.classes.specs.Classes.{label}
use Rattle.classes.proofs.Classes.{length-classes, IsLabels-classes}
use Rattle.classes.proofs.Marks.{IsCounting-none, IsCounting-le, IsCounting-new, IsCounting-old, IsCounting-all}
use Rattle.map_lists.specs.Cuts.{cut}
use Rattle.map_lists.proofs.CutLemmas.{length-cut}
use Rattle.map_theory.specs.Maps.{darts, component_count, component_classes}
use Rattle.euler_faces.specs.Numbers.{mark_at}
use Rattle.euler_faces.specs.Search.{marks_of}
use Rattle.euler_faces.proofs.SearchLemmas.{component_numbers, met, unmet, components-below, search-kept, unmarked_below-none, all_marked, length-marks_of, IsCounting-full}
use Rattle.euler_faces.proofs.component_search.number_components.Goals as goal
use Rattle.euler_faces.proofs.component_search.number_components.Goals.{then-numbers-v, else-numbers-v}

pub loop-v-init : goal.loop-v-init
loop-v-init c =
    let none = unmarked_below-none (marks_of c.args.numbers.now) (length c.args.ends.now) c.requires.unset in
    record {
      queued = record { marks = c.requires.marks; room = c.requires.room; work = omega arith };
      counting = IsCounting-none (component_classes (cut 0 c.args.ends.now c.args.entries.now)) (mark_at (marks_of c.args.numbers.now)) (λ i l. c.requires.unset i);
      numbers = λ u l t. absurd (false≢true (sym (c.requires.unset u) ∙ t));
    }

pub overflow_add-count : goal.overflow_add-count
overflow_add-count c =
    let le = IsCounting-le _ _ c.loop-v.count c.loop-v.v c.loop-v.invariant.counting in
    let few = c.requires.few in
    omega arith

pub number_component-filled-requires-clause-kept : goal.number_component-filled-requires-clause-kept
number_component-filled-requires-clause-kept c = λ u l.
    search-kept (cut 0 c.args.ends.now c.args.entries.now) (marks_of c.loop-v.numbers) c.loop-v.count c.loop-v.v c.requires.simple c.loop-v.invariant.counting u
    (omega (arith, l, length-cut 0 c.args.ends.now c.args.entries.now))

pub loop-v-preserved : goal.loop-v-preserved
loop-v-preserved c =
    let lists = cut 0 c.args.ends.now c.args.entries.now in
    let long = length-cut 0 c.args.ends.now c.args.entries.now in
    let h = c.loop-v.invariant in
    let n = length-classes (length lists) (darts lists) in
    let labels = IsLabels-classes (length lists) (darts lists) (components-below lists c.requires.simple) in
    elim c.if-numbers-v.branch [
      | then-numbers-v w ↦
          let off = unmet 65535 c.loop-v.numbers c.loop-v.v (omega arith) w.if-numbers-v.true in
          record {
            queued = rw (w.numbers-is, w.queue-is, w.filled-is) w.number_component-filled.ensures.queued;
            counting = rw (w.numbers-is, w.count-is) (IsCounting-new (component_classes lists) (mark_at (marks_of c.loop-v.numbers)) (mark_at (marks_of w.number_component-filled.new.numbers)) c.loop-v.count c.loop-v.v _ labels h.counting (omega arith) off
                (λ y l. w.number_component-filled.ensures.marked y (omega arith)) refl);
            numbers = rw w.numbers-is (λ u l t. component_numbers lists c.loop-v.numbers w.number_component-filled.new.numbers c.loop-v.count c.loop-v.v c.requires.simple h.counting (omega arith) off (λ i m. w.number_component-filled.ensures.marked i (omega arith)) w.number_component-filled.ensures.numbered (λ x m. h.numbers x (omega arith)) u (omega arith) t);
          }
      | else-numbers-v w ↦ record {
        queued = rw (w.numbers-is, w.queue-is, w.filled-is) h.queued;
        counting = rw (w.numbers-is, w.count-is) (IsCounting-old (component_classes lists) (mark_at (marks_of c.loop-v.numbers)) c.loop-v.count c.loop-v.v _ labels h.counting (omega arith) (met 65535 c.loop-v.numbers c.loop-v.v (omega arith) w.if-numbers-v.false) refl);
        numbers = rw w.numbers-is h.numbers;
      }
    ]

pub returns-clause-count : goal.returns-clause-count
unfolding component_count
returns-clause-count c =
    let lists = cut 0 c.args.ends.now c.args.entries.now in
    let long = length-cut 0 c.args.ends.now c.args.entries.now in
    let n = length-classes (length lists) (darts lists) in
    IsCounting-all (component_classes lists) (mark_at (marks_of c.loop-v.numbers)) c.loop-v.count c.loop-v.v c.loop-v.invariant.counting (omega arith)

pub returns-then-filled-ends-clause-count : goal.returns-then-filled-ends-clause-count
unfolding component_count
returns-then-filled-ends-clause-count c =
    let lists = cut 0 c.args.ends.now c.args.entries.now in
    let long = length-cut 0 c.args.ends.now c.args.entries.now in
    let h = c.loop-v.invariant in
    let n = length-classes (length lists) (darts lists) in
    let labels = IsLabels-classes (length lists) (darts lists) (components-below lists c.requires.simple) in
    let same = c.if-filled-ends.true in
    let full = IsCounting-full (length (component_classes lists) - c.loop-v.v) (component_classes lists) (mark_at (marks_of c.loop-v.numbers)) c.loop-v.count c.loop-v.v labels h.counting (omega arith)
    (λ u l. all_marked (marks_of c.loop-v.numbers) (length c.args.ends.now) u (omega (arith, h.queued.work)) (omega arith) (omega (arith, h.queued.marks, length-marks_of 65535 c.loop-v.numbers))) in
    IsCounting-all (component_classes lists) (mark_at (marks_of c.loop-v.numbers)) c.loop-v.count (length (component_classes lists)) full refl

pub returns-then-filled-ends-clause-few : goal.returns-then-filled-ends-clause-few
returns-then-filled-ends-clause-few c =
    let le = IsCounting-le _ _ c.loop-v.count c.loop-v.v c.loop-v.invariant.counting in
    omega arith

pub returns-then-filled-ends-clause-numbers : goal.returns-then-filled-ends-clause-numbers
returns-then-filled-ends-clause-numbers c = λ u l.
    let h = c.loop-v.invariant in
    let same = c.if-filled-ends.true in
    h.numbers u l (all_marked (marks_of c.loop-v.numbers) (length c.args.ends.now) u (omega (arith, h.queued.work)) (omega arith) (omega (arith, h.queued.marks, length-marks_of 65535 c.loop-v.numbers)))

pub returns-clause-few : goal.returns-clause-few
returns-clause-few c =
    let le = IsCounting-le _ _ c.loop-v.count c.loop-v.v c.loop-v.invariant.counting in
    omega arith

pub number_component-filled-requires-clause-is_number : goal.number_component-filled-requires-clause-is_number
number_component-filled-requires-clause-is_number c =
    let le = IsCounting-le _ _ c.loop-v.count c.loop-v.v c.loop-v.invariant.counting in
    omega (arith, c.requires.few)

pub returns-clause-numbers : goal.returns-clause-numbers
returns-clause-numbers c = λ u l.
    let lists = cut 0 c.args.ends.now c.args.entries.now in
    let long = length-cut 0 c.args.ends.now c.args.entries.now in
    let h = c.loop-v.invariant in
    let n = length-classes (length lists) (darts lists) in
    let low = (IsLabels-classes (length lists) (darts lists) (components-below lists c.requires.simple)).low u in
    h.numbers u l (h.counting.known u (omega arith) ∙ lt-ltb (label (component_classes lists) u) c.loop-v.v (omega arith))
