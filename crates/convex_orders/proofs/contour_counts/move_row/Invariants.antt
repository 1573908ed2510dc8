use Rattle.std.proofs.Common.{◌<◌, ◌==◌, ℕ, length, slice_index, count_by, take}
use Rattle.convex_orders.specs.Ways.{IsMoved}
use Rattle.convex_orders.proofs.contour_counts.move_row.Given as goal

abbrev pub invariant-loop-u : goal.invariant-loop-u
invariant-loop-u l = (f : ℕ) → f < length l.counts → IsMoved l.way (slice_index l.initial.counts f) (count_by (λ u. u == f) (take l.u-index l.row)) (slice_index l.counts f)
