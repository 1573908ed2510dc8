use Rattle.line_inputs.proofs.GraphLinesReadLemmas.{IsAt-reads, IsAt-begins, reading-begins}
use Rattle.line_inputs.proofs.graph_lines.reader.GraphReaderFormat.lawful.Goals as goal

pub returns-clause-is_read : goal.returns-clause-is_read
returns-clause-is_read c = IsAt-reads

pub returns-clause-begins : goal.returns-clause-begins
returns-clause-begins c = IsAt-begins

pub returns-clause-has : goal.returns-clause-has
returns-clause-has c = reading-begins
