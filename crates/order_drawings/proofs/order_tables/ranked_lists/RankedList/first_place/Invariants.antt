use Rattle.std.proofs.Common.{ℕ, ◌<◌}
use Rattle.order_drawings.specs.Rows.{IsFirstPlace}
use Rattle.order_drawings.proofs.order_tables.ranked_lists.RankedList.first_place.Given as goal

abbrev pub invariant-loop-i : goal.invariant-loop-i
invariant-loop-i l = (j : ℕ) → j < l.i → ¬ IsFirstPlace l.self.list.now l.self.ranks.now l.self.k j
