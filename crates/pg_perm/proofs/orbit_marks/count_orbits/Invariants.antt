use Rattle.std.proofs.Common.{◌≡◌, length}
use Rattle.classes.specs.Classes.{orbits}
use Rattle.classes.proofs.Marks.{IsCounting}
use Rattle.pg_perm.specs.Marks.{mark}
use Rattle.pg_perm.proofs.orbit_marks.count_orbits.Given as goal

abbrev pub invariant-loop-i : goal.invariant-loop-i
invariant-loop-i l = record {
  marks : length l.marked ≡ length l.images;
  counting : IsCounting (orbits l.images) (mark l.marked) l.count l.i;
}
