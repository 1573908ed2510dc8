use Rattle.std.proofs.Common.{◌≡◌, ◌-◌, [], length}
use Rattle.record_runs.specs.Outcome.{ports}
use Rattle.record_runs.specs.Run.{IsCounted, Stands}
use Rattle.record_runs.proofs.main_loop.run_counted.Given as goal

abbrev pub invariant-reads : goal.invariant-reads
invariant-reads g l = record {
  counted : IsCounted (g.F.Format.place l.run.reader) l.run.records l.run.refused l.run.taken;
  room : length l.buffer ≡ 4096;
  same : g.J.Job.kind l.job ≡ g.J.Job.kind l.fn.job;
  stands : Stands g.F.Format.At (g.J.Job.answers (g.J.Job.kind l.fn.job)) (ports (g.S.Source.left l.fn.src) (g.S.Source.faults l.fn.src) (g.K.Sink.written l.fn.out) (g.K.Sink.faults l.fn.out)) (ports (g.S.Source.left l.src) (g.S.Source.faults l.src) (g.K.Sink.written l.out) (g.K.Sink.faults l.out)) [] l.run.reader l.run.records l.run.refused;
}

abbrev pub decreases-reads : goal.decreases-reads
decreases-reads g l = 16777216 - l.run.taken
