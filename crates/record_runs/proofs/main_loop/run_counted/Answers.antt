use Rattle.record_runs.proofs.main_loop.run_counted.Goals as goal

pub returns-in-Err-clause-outcome : goal.returns-in-Err-clause-outcome
returns-in-Err-clause-outcome g c =
    let outcome = rw c.reads.invariant.same at c.in-Err.ensures.outcome in
    (outcome _ c.reads.invariant.stands).0

pub returns-in-Err-clause-counts : goal.returns-in-Err-clause-counts
returns-in-Err-clause-counts g c =
    let outcome = rw c.reads.invariant.same at c.in-Err.ensures.outcome in
    (outcome _ c.reads.invariant.stands).1

pub returns-in-Err-clause-limit : goal.returns-in-Err-clause-limit
returns-in-Err-clause-limit g c =
    let outcome = rw c.reads.invariant.same at c.in-Err.ensures.outcome in
    (outcome _ c.reads.invariant.stands).2
