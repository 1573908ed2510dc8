use Rattle.line_inputs.proofs.GraphLinesWholeLemmas.{parts-read}
use Rattle.line_inputs.proofs.graph_lines.laws.parts_are_read.Goals as goal

pub returns : goal.returns
returns c = parts-read
