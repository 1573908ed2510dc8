use Rattle.pigale_shell.proofs.OneTextLemmas.{one_graph_refusal_line}
use Rattle.pigale_shell.proofs.laws.one_graph_refusal_line.Goals as goal

pub returns : goal.returns
returns c = one_graph_refusal_line
