use Rattle.std.proofs.Common.{arith, refl}
use Rattle.classes.specs.Classes.{orbits}
use Rattle.classes.proofs.Orbits.{length-orbits, IsLabels-orbits}
use Rattle.classes.proofs.Marks.{IsCounting-none, IsCounting-new, IsCounting-old, IsCounting-all, IsCounting-le, KeepsMarks-counting}
use Rattle.pg_perm.specs.Marks.{mark}
use Rattle.pg_perm.proofs.orbit_marks.count_orbits.Goals as goal
use Rattle.pg_perm.proofs.orbit_marks.count_orbits.Goals.{then-not-marked-i, else-not-marked-i}

pub loop-i-init : goal.loop-i-init
loop-i-init c = record {
  marks = c.requires.marks;
  counting = IsCounting-none (orbits c.args.images.now) (mark c.args.marked.now) (λ i l. c.requires.unset i);
}

pub overflow_add-count : goal.overflow_add-count
overflow_add-count c =
    omega (arith, IsCounting-le (orbits c.args.images.now) (mark c.loop-i.marked) c.loop-i.count c.loop-i.i c.loop-i.invariant.counting, c.requires.few)

pub mark_orbit-requires-clause-kept : goal.mark_orbit-requires-clause-kept
mark_orbit-requires-clause-kept c =
    KeepsMarks-counting c.args.images.now (mark c.loop-i.marked) c.loop-i.count c.loop-i.i c.requires.bijection c.loop-i.invariant.counting

pub loop-i-preserved : goal.loop-i-preserved
loop-i-preserved c =
    let images = c.args.images.now in
    let h = c.loop-i.invariant in
    let n = length-orbits images in
    let labels = IsLabels-orbits images c.requires.bijection.within in
    elim c.if-not-marked-i.branch [
      | then-not-marked-i w ↦ record {
        marks = rw w.marked-is (let kept = w.mark_orbit.auto.marked in omega (arith, kept, h.marks));
        counting = rw (w.marked-is, w.count-is) (IsCounting-new (orbits images) (mark c.loop-i.marked) (mark w.mark_orbit.new.marked) c.loop-i.count c.loop-i.i _ labels h.counting (omega arith) w.if-not-marked-i.true
            (λ y l. w.mark_orbit.ensures.marked y (omega arith)) refl);
      }
      | else-not-marked-i w ↦ record {
        marks = rw w.marked-is h.marks;
        counting = rw (w.marked-is, w.count-is) (IsCounting-old (orbits images) (mark c.loop-i.marked) c.loop-i.count c.loop-i.i _ labels h.counting (omega arith) w.if-not-marked-i.false refl);
      }
    ]

pub returns : goal.returns
returns c =
    let n = length-orbits c.args.images.now in
    IsCounting-all (orbits c.args.images.now) (mark c.loop-i.marked) c.loop-i.count c.loop-i.i c.loop-i.invariant.counting (omega arith)
