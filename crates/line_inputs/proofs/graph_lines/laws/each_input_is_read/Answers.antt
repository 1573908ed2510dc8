use Rattle.line_inputs.proofs.GraphLinesUniqueLemmas.{each-is-read}
use Rattle.line_inputs.proofs.graph_lines.laws.each_input_is_read.Goals as goal

pub returns : goal.returns
returns c = each-is-read
