use Rattle.std.proofs.Common.{length, length-set, ◌∙◌, true, set, arith}
use Rattle.std.proofs.lemmas.List.{get_or_default}
use Rattle.classes.proofs.Marks.{IsMarking-none, IsMarking-more, IsMarking-all, unmarked_below-set}
use Rattle.pg_perm.specs.Marks.{mark}
use Rattle.pg_perm.proofs.Marking.{SetsMark-set}
use Rattle.pg_perm.proofs.orbit_marks.mark_orbit.Goals as goal

pub loop-marked-init : goal.loop-marked-init
loop-marked-init c = record {
  marks = c.requires.marks;
  marking = IsMarking-none c.args.images.now (mark c.args.marked.now) c.args.start c.requires.start_in c.requires.kept;
}

pub loop-marked-smaller : goal.loop-marked-smaller
loop-marked-smaller c =
    let h = c.loop-marked.invariant in
    let k = length c.args.images.now in
    unmarked_below-set k _ _ c.loop-marked.x (SetsMark-set k c.loop-marked.marked c.loop-marked.x (omega (arith, h.marks, h.marking.within))) h.marking.within c.loop-marked-test.true

pub loop-marked-preserved : goal.loop-marked-preserved
loop-marked-preserved c =
    let h = c.loop-marked.invariant in
    let images = c.args.images.now in
    record {
      marks = length-set c.loop-marked.marked c.loop-marked.x true ∙ h.marks;
      marking = IsMarking-more images (mark c.args.marked.now) (mark c.loop-marked.marked) (mark (set c.loop-marked.marked c.loop-marked.x true)) c.args.start c.loop-marked.x _
          c.requires.bijection c.requires.start_in h.marking
          (SetsMark-set (length images) c.loop-marked.marked c.loop-marked.x (omega (arith, h.marks, h.marking.within)))
          (get_or_default images c.loop-marked.x 0 c.loop-marked.x h.marking.within);
    }

pub returns : goal.returns
returns c = record {
  marked = IsMarking-all c.args.images.now (mark c.args.marked.now) (mark c.loop-marked.marked) c.args.start c.loop-marked.x c.requires.bijection c.loop-marked.invariant.marking c.requires.start_in c.loop-marked-test.false;
}
