use Rattle.std.proofs.Common.{ℕ, ◌+◌, ◌-◌, ◌≤◌, List, [], length}
use Rattle.std.specs.Prelude.{Some}
use Rattle.record_runs.specs.Texts.{input_limit}
use Rattle.figure_text.specs.declared.figure.Figure.{Figure}
use Rattle.line_inputs.specs.FigureLinesProgress.{Progress}
use Rattle.line_inputs.specs.FigureLinesState.{TakesRun}
use Rattle.line_inputs.specs.declared.figure_lines.begun_figure.Due.TheVariants.{Row}
use Rattle.line_inputs.proofs.figure_lines.line_batch.rows_run.Given as goal

-- the bytes before `bytes` are whole lines of the figure
abbrev pub invariant-loop-bytes : goal.invariant-loop-bytes
invariant-loop-bytes l = record {
  within : l.bytes ≤ length l.part;
  few : l.lines ≤ l.bytes;
  taken : (consumed : List ℕ) (figures : List Figure) (number : ℕ) → length consumed + length l.part ≤ input_limit → Progress consumed figures number [] (Some (record { first = l.first; due = Row l.fn.rows })) → TakesRun consumed figures number l.part [] l.bytes l.lines (record { first = l.first; due = Row l.rows });
}

abbrev pub decreases-loop-bytes : goal.decreases-loop-bytes
decreases-loop-bytes l = length l.part - l.bytes
