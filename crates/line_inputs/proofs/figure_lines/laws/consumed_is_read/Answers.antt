-- By what is open.
use Rattle.line_inputs.proofs.FigureLinesReadLemmas.{IsAt-reads}
use Rattle.line_inputs.proofs.figure_lines.laws.consumed_is_read.Goals as goal

pub returns : goal.returns
returns c = IsAt-reads
