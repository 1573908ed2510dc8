-- Each vertex before this place has the stamp.
use Rattle.std.proofs.Common.{ℕ, ◌<◌, ◌≡◌, length, get_or}
use Rattle.rect_class.proofs.separation_by_corners.stamp_all.Given as goal

abbrev pub invariant-loop-u : goal.invariant-loop-u
invariant-loop-u l = (length l.marks.items ≡ length l.initial.marks.items) × ((k : ℕ) → k < l.u-index → get_or l.marks.items (get_or l.us k 0) 0 ≡ l.stamp)
