use Rattle.std.proofs.Common.{◌-◌, length, drop}
use Rattle.left_right_blocks.specs.Ties.{AreKept, AreInTurn, AreBelow}
use Rattle.left_right_blocks.proofs.Kept.{by_table}
use Rattle.left_right_blocks.proofs.sides.keep_all.Given as goal

abbrev pub invariant-loop-i : goal.invariant-loop-i
invariant-loop-i l = AreInTurn l.ties → AreBelow (length l.initial.sides) l.ties → AreKept (by_table l.sides) (drop (length l.ties - l.i) l.ties)
