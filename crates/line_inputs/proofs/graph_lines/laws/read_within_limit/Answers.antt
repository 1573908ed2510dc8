use Rattle.line_inputs.proofs.GraphLinesWholeLemmas.{read-limited}
use Rattle.line_inputs.proofs.graph_lines.laws.read_within_limit.Goals as goal

pub returns : goal.returns
returns c = read-limited
