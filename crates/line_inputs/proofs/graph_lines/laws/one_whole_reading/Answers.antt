use Rattle.line_inputs.proofs.GraphLinesWholeLemmas.{whole-one}
use Rattle.line_inputs.proofs.graph_lines.laws.one_whole_reading.Goals as goal

pub returns : goal.returns
returns c = whole-one
