-- Lines of an open figure have been read up to here.
use Rattle.std.proofs.Common.{◌-◌, ◌≤◌, length}
use Rattle.line_inputs.specs.FigureLinesProgress.{IsReadTo}
use Rattle.line_inputs.proofs.figure_lines.whole_text.read_figure.Given as goal

abbrev pub invariant-loop-text : goal.invariant-loop-text
invariant-loop-text l = record {
  within : l.next ≤ length l.bytes;
  read : IsReadTo l.bytes l.at l.line l.next l.number l.begun;
}

abbrev pub decreases-loop-text : goal.decreases-loop-text
decreases-loop-text l = length l.bytes - l.next
