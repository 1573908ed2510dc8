use Rattle.std.proofs.Common.{arith}
use Rattle.std.proofs.lemmas.List.{length-take}
use Rattle.std.proofs.lemmas.Result.{MatchResult-weaker}
use Rattle.pg_io.proofs.Growth.{Takes-gives}
use Rattle.record_runs.proofs.EndLemmas.{stands-few, stands-few_read, stands-read, stands-end}
use Rattle.record_runs.proofs.main_loop.read_once.Goals as goal

pub returns-in-Ok-eq0-clause-outcome : goal.returns-in-Ok-eq0-clause-outcome
returns-in-Ok-eq0-clause-outcome g c = λ start stands.
    let format = g.F.Format in
    let job = g.J.Job.answers (g.J.Job.kind c.args.job.now) in
    let read = c.in-Ok-eq0.ensures in
    let next = stands-end format.reads job format.At format.place format.ending c.lawful.ensures.place_is c.lawful.ensures.is_read c.requires.counted stands
    _ _ _ _ _ c.in-Ok-eq0.field-0-test read.given read.end read.kept in
    let ended = c.finish.ensures start _ _ next.0 next.1 in (
      ended.0,
      ended.1,
      stands-few format.reads job format.At format.place format.ending c.lawful.ensures.place_is c.lawful.ensures.is_read c.requires.counted next.0,
    )

pub returns-in-Ok-clause-outcome : goal.returns-in-Ok-clause-outcome
returns-in-Ok-clause-outcome g c = λ start stands.
    let format = g.F.Format in
    let job = g.J.Job.answers (g.J.Job.kind c.args.job.now) in
    let read = c.in-Ok.ensures in
    let next = stands-read format.reads job format.At format.place format.ending c.lawful.ensures.place_is c.lawful.ensures.is_read c.requires.counted stands
    _ _ _ (Takes-gives read.given) read.kept in
    MatchResult-weaker c.consume.result (c.consume.ensures.outcome start _ _ next)
    (λ x is. is)
    (λ end is. (
      is.0,
      is.1,
      stands-few_read format.reads job format.At format.place format.ending c.lawful.ensures.place_is c.lawful.ensures.is_read c.requires.counted stands _ _ (Takes-gives read.given)
          (omega (arith, read.within, length-take c.in-Ok.given c.read.new.buf)),
    ))
