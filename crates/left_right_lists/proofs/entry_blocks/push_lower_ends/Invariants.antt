use Rattle.std.proofs.Common.{◌≡◌, ◌++◌, ◌-◌, length, drop}
use Rattle.left_right_lists.specs.Blocks.{uppers}
use Rattle.left_right_lists.proofs.entry_blocks.push_lower_ends.Given as goal

abbrev pub invariant-loop-i : goal.invariant-loop-i
invariant-loop-i l = l.list.items ≡ l.initial.list.items ++ uppers (drop (length l.ds - l.i) l.ds)
