-- Item by item, and then the ending.
use Rattle.line_inputs.proofs.FigureLinesUniqueLemmas.{reading-unique}
use Rattle.line_inputs.proofs.figure_lines.laws.one_reading.Goals as goal

pub returns : goal.returns
returns c = reading-unique
