use Rattle.std.proofs.Common.{arith}
use Rattle.record_runs.proofs.EndLemmas.{ends-all, ends-failed, ends-bad, ends-done, ends-refused, ends-counts, failed-counts}
use Rattle.record_runs.proofs.main_loop.finish.Goals as goal

pub returns-in-Err : goal.returns-in-Err
returns-in-Err g c = λ start left faults stands all.
    let format = g.F.Format in
    let job = g.J.Job.answers (g.J.Job.kind c.args.job.now) in
    rw c.failed.ensures (
      ends-failed format.reads job stands.wrote _ _ _ _ _ c.in-Err.failure c.lawful.ensures.has
          (ends-all format.reads job format.At format.place format.ending c.lawful.ensures.place_is c.lawful.ensures.is_read c.requires stands _ c.end-end.ensures all)
          c.in-Err.ensures.err,
      failed-counts format.reads job _ _ _ c.in-Err.failure,
    )

pub returns-then-not-is_well : goal.returns-then-not-is_well
returns-then-not-is_well g c = λ start left faults stands all.
    let format = g.F.Format in
    let job = g.J.Job.answers (g.J.Job.kind c.args.job.now) in
    let ends = ends-all format.reads job format.At format.place format.ending c.lawful.ensures.place_is c.lawful.ensures.is_read c.requires stands _ c.end-end.ensures all in
    (ends-bad format.reads job stands.wrote ends c.in-Ok.ensures.ok c.in-Ok.ensures.kept c.if-not-is_well.ensures.bad, ends-counts format.reads job ends)

pub returns-then-run-eq0 : goal.returns-then-run-eq0
returns-then-run-eq0 g c = λ start left faults stands all.
    let format = g.F.Format in
    let job = g.J.Job.answers (g.J.Job.kind c.args.job.now) in
    let ends = ends-all format.reads job format.At format.place format.ending c.lawful.ensures.place_is c.lawful.ensures.is_read c.requires stands _ c.end-end.ensures all in
    (ends-done format.reads job stands.wrote ends c.in-Ok.ensures.ok c.in-Ok.ensures.kept c.if-not-is_well.ensures.well c.if-run-eq0.true (λ input told. (all input told).0), ends-counts format.reads job ends)

pub returns : goal.returns
returns g c = λ start left faults stands all.
    let format = g.F.Format in
    let job = g.J.Job.answers (g.J.Job.kind c.args.job.now) in
    let ends = ends-all format.reads job format.At format.place format.ending c.lawful.ensures.place_is c.lawful.ensures.is_read c.requires stands _ c.end-end.ensures all in
    (ends-refused format.reads job stands.wrote ends c.in-Ok.ensures.ok c.in-Ok.ensures.kept c.if-not-is_well.ensures.well (let some = c.if-run-eq0.false in omega arith) (λ input told. (all input told).0), ends-counts format.reads job ends)
