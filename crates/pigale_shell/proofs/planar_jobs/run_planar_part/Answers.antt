use Rattle.planar_code.proofs.ProgressLemmas.{Progress-start}
use Rattle.pigale_shell.proofs.planar_jobs.run_planar_part.Goals as goal

pub run_counted-requires : goal.run_counted-requires
run_counted-requires g c = rw c.new.ensures Progress-start

pub returns-clause-outcome : goal.returns-clause-outcome
returns-clause-outcome g c = rw c.new-planar.ensures at c.run_counted.ensures.outcome

pub returns-clause-counts : goal.returns-clause-counts
returns-clause-counts g c = rw c.new-planar.ensures at c.run_counted.ensures.counts
