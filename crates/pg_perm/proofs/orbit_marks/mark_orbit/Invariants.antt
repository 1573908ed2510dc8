use Rattle.std.proofs.Common.{◌≡◌, length}
use Rattle.classes.proofs.Marks.{IsMarking, unmarked_below}
use Rattle.pg_perm.specs.Marks.{mark}
use Rattle.pg_perm.proofs.orbit_marks.mark_orbit.Given as goal

abbrev pub invariant-loop-marked : goal.invariant-loop-marked
invariant-loop-marked l = record {
  marks : length l.marked ≡ length l.images;
  marking : IsMarking l.images (mark l.initial.marked) (mark l.marked) l.start l.x;
}

abbrev pub decreases-loop-marked : goal.decreases-loop-marked
decreases-loop-marked l = unmarked_below (mark l.marked) (length l.images)
