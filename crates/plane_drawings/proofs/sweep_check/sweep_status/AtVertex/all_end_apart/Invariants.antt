use Rattle.std.proofs.Common.{ℕ, ◌+◌, ◌<◌, ◌≤◌, length, slice_index_or}
use Rattle.plane_drawings.specs.Drawing.{place}
use Rattle.plane_drawings.specs.declared.plane_sweep.line.Line.{Line}
use Rattle.plane_drawings.specs.PlaneSweepLines.{Ends}
use Rattle.plane_drawings.proofs.sweep_check.sweep_status.AtVertex.all_end_apart.Given as goal

abbrev pub invariant-loop-k : goal.invariant-loop-k
invariant-loop-k l = (j : ℕ) (d : Line) → l.begin ≤ j → j < l.k → j + 1 < length l.status → Ends (place l.self.places.now) (slice_index_or l.status j d) (slice_index_or l.status (j + 1) d)
