use Rattle.line_inputs.proofs.FigureLinesReadLemmas.{IsAt-too_long}
use Rattle.line_inputs.proofs.figure_lines.reader.FigureReaderFormat.too_long.Goals as goal

pub returns-clause-reading : goal.returns-clause-reading
returns-clause-reading c = λ consumed records at full byte tail. IsAt-too_long c.args.self.now consumed records at full byte tail
