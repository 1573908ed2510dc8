-- An input is read byte after byte.
use Rattle.line_inputs.proofs.ReadsLemmas.{each-reads}
use Rattle.line_inputs.proofs.figure_lines.laws.each_input_is_read.Goals as goal

pub returns : goal.returns
returns c = each-reads
