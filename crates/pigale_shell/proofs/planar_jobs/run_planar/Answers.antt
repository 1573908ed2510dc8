use Rattle.planar_code.proofs.ProgressLemmas.{Progress-start}
use Rattle.pigale_shell.proofs.planar_jobs.run_planar.Goals as goal

pub run_records-requires : goal.run_records-requires
run_records-requires g c = rw c.new.ensures Progress-start

pub returns-clause-outcome : goal.returns-clause-outcome
returns-clause-outcome g c = rw c.new-planar.ensures at c.run_records.ensures.outcome
