use Rattle.std.proofs.Common.{◌≡◌, length}
use Rattle.left_right_lists.proofs.SideLemmas.{AreToldTo}
use Rattle.left_right_lists.proofs.side_tables.put_sides.Given as goal

abbrev pub invariant-loop-x : goal.invariant-loop-x
invariant-loop-x l = record {
  long : length l.table ≡ length l.initial.table;
  told : AreToldTo l.darts l.numbered l.table l.x;
}
