use Rattle.pigale_shell.proofs.embed.run_graph_part.Goals as goal

pub returns-clause-outcome : goal.returns-clause-outcome
returns-clause-outcome g c = rw c.new-embed.ensures at c.run_counted.ensures.outcome

pub returns-clause-counts : goal.returns-clause-counts
returns-clause-counts g c = rw c.new-embed.ensures at c.run_counted.ensures.counts
