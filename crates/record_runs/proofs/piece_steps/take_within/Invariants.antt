use Rattle.std.proofs.Common.{◌≡◌, ℕ, ◌+◌, ◌-◌, ◌≤◌, List, ◌++◌, length, take}
use Rattle.record_runs.specs.Run.{IsCounted, IsAt}
use Rattle.record_runs.proofs.piece_steps.take_within.Given as goal

-- the bytes before `done` have been consumed, and their records answered
abbrev pub invariant-loop-done : goal.invariant-loop-done
invariant-loop-done g l = record {
  in_range : l.done ≤ length l.piece;
  counted : IsCounted (g.F.Format.place l.run.reader) l.run.records l.run.refused l.run.taken;
  moved : l.run.taken ≡ l.fn.run.taken + l.done;
  at : (consumed front : List ℕ) → IsAt g.F.Format.At (g.J.Job.answers (g.J.Job.kind l.fn.job)) consumed (front ++ l.fn.text.items) l.fn.run.reader l.fn.run.records l.fn.run.refused → IsAt g.F.Format.At (g.J.Job.answers (g.J.Job.kind l.fn.job)) (consumed ++ take l.done l.piece) (front ++ l.text.items) l.run.reader l.run.records l.run.refused;
  same : g.J.Job.kind l.job ≡ g.J.Job.kind l.fn.job;
}

abbrev pub decreases-loop-done : goal.decreases-loop-done
decreases-loop-done g l = length l.piece - l.done
