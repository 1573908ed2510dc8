use Rattle.pigale_shell.proofs.OneTextLemmas.{one_text}
use Rattle.pigale_shell.proofs.laws.one_text.Goals as goal

pub returns : goal.returns
returns c = one_text c.one_figure_verdict.ensures
