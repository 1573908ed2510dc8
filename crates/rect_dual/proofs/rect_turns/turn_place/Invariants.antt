use Rattle.std.proofs.Common.{◌≡◌, ◌<◌, ℕ, false, slice_index}
use Rattle.canon_order.specs.Marks.{is_set}
use Rattle.rect_dual.proofs.rect_turns.turn_place.Given as goal

abbrev pub invariant-loop-i : goal.invariant-loop-i
invariant-loop-i l = (j : ℕ) → j < l.i → is_set l.runs (slice_index l.row j) ≡ false
