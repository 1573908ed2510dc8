use Rattle.graph6_text.proofs.LineLemmas.{lines_are_graphs}
use Rattle.graph6_text.proofs.laws.lines_are_graphs.Goals as goal

pub returns : goal.returns
returns c = lines_are_graphs
