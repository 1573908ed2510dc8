use Rattle.pigale_shell.proofs.embed.run_graphs.Goals as goal

pub returns-clause-outcome : goal.returns-clause-outcome
returns-clause-outcome g c = rw c.new-job.ensures at c.run_records.ensures.outcome
