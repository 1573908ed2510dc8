use Rattle.graph6_text.proofs.LineLemmas.{one_graph}
use Rattle.graph6_text.proofs.laws.one_graph.Goals as goal

pub returns : goal.returns
returns c = one_graph
