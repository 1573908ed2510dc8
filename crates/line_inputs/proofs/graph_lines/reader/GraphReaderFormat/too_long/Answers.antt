use Rattle.line_inputs.proofs.GraphLinesReadLemmas.{IsAt-too_long}
use Rattle.line_inputs.proofs.graph_lines.reader.GraphReaderFormat.too_long.Goals as goal

pub returns-clause-reading : goal.returns-clause-reading
returns-clause-reading c = λ consumed records at full byte tail. IsAt-too_long c.args.self.now consumed records at full byte tail
