use Rattle.std.proofs.Common.{append_assoc}
use Rattle.record_runs.proofs.StopLemmas.{at-answered}
use Rattle.record_runs.proofs.piece_steps.take_record.Goals as goal

pub returns-in-Ok-clause-at : goal.returns-in-Ok-clause-at
returns-in-Ok-clause-at g c = λ consumed front at.
    let block = c.in-Ok.ensures.block in
    let read = rw (c.in-Ok-Ended.field-0-is) at (c.in-Ok-Ended.ensures.reads consumed at.records at.read) in
    rw (c.count_record.ensures, block.2, ← append_assoc front c.args.text.now.items block.0)
    (at-answered g.F.Format.reads (g.J.Job.answers (g.J.Job.kind c.args.job.now)) g.F.Format.At at _ c.record.result.now block.0 c.in-Ok.served
    (rw c.record.ensures read) block.1 c.in-Ok.ensures.served)
