use Rattle.line_inputs.proofs.GraphLinesUniqueLemmas.{reading-unique}
use Rattle.line_inputs.proofs.graph_lines.laws.one_reading.Goals as goal

pub returns : goal.returns
returns c = reading-unique
