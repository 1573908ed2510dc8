use Rattle.std.proofs.Common.{◌<◌, ℕ, length, slice_index}
use Rattle.convex_orders.specs.Counts.{met_below}
use Rattle.convex_orders.specs.Ways.{IsMoved}
use Rattle.convex_orders.proofs.contour_counts.move_rows.Given as goal

abbrev pub invariant-loop-i : goal.invariant-loop-i
invariant-loop-i l = (f : ℕ) → f < length l.counts → IsMoved l.way (slice_index l.initial.counts f) (met_below l.own l.vs l.i f) (slice_index l.counts f)
