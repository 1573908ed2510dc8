use Rattle.std.proofs.Common.{◌+◌, ◌-◌, ◌≤◌, length}
use Rattle.plane_drawings.proofs.sweep_check.sweep_status.AtVertex.count_around.Given as goal

abbrev pub invariant-loop-begin : goal.invariant-loop-begin
invariant-loop-begin l = (l.begin ≤ l.end) × (l.end ≤ length l.lower + length l.upper)

abbrev pub decreases-loop-begin : goal.decreases-loop-begin
decreases-loop-begin l = l.end - l.begin
