use Rattle.std.proofs.Common.{◌<◌, ℕ, length, slice_index}
use Rattle.convex_orders.specs.Contours.{number_at}
use Rattle.convex_orders.specs.Counts.{numbered_below}
use Rattle.convex_orders.specs.Ways.{IsMoved}
use Rattle.convex_orders.proofs.contour_counts.move_edges.Given as goal

abbrev pub invariant-loop-i : goal.invariant-loop-i
invariant-loop-i l = (f : ℕ) → f < length l.counts → IsMoved l.way (slice_index l.initial.counts f) (numbered_below (number_at l.inner l.vs) l.i f) (slice_index l.counts f)
