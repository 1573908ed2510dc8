use Rattle.pigale_shell.proofs.OneTextLemmas.{one_refusal_line}
use Rattle.pigale_shell.proofs.laws.one_refusal_line.Goals as goal

pub returns : goal.returns
returns c = one_refusal_line c.map_jobs_are_lawful.ensures
