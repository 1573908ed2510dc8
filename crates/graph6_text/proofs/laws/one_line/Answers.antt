use Rattle.graph6_text.proofs.LineLemmas.{one_line}
use Rattle.graph6_text.proofs.laws.one_line.Goals as goal

pub returns : goal.returns
returns c = one_line
