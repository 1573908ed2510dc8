use Rattle.std.proofs.Common.{ℕ, ◌<◌, ◌≤◌, ◌≡◌, slice_index_or}
use Rattle.plane_drawings.specs.declared.plane_sweep.line.Line.{Line}
use Rattle.plane_drawings.proofs.sweep_check.sweep_status.run_end.Given as goal

abbrev pub invariant-loop-k : goal.invariant-loop-k
invariant-loop-k l = (j : ℕ) (d : Line) → l.begin ≤ j → j < l.k → (slice_index_or l.status j d).high ≡ l.v
