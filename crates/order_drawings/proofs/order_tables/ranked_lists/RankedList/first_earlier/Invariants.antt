use Rattle.std.proofs.Common.{ℕ, ◌<◌, ◌≤◌}
use Rattle.order_drawings.specs.Rows.{rank_at}
use Rattle.order_drawings.proofs.order_tables.ranked_lists.RankedList.first_earlier.Given as goal

abbrev pub invariant-loop-i : goal.invariant-loop-i
invariant-loop-i l = (j : ℕ) → l.from ≤ j → j < l.i → l.self.k ≤ rank_at l.self.list.now l.self.ranks.now j
