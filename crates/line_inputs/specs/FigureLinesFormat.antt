-- Figures as a format of runs.
use Rattle.std.specs.Prelude.{ℕ, ◌+◌, Bool, true, false}
use Rattle.record_runs.specs.Texts.{Reads}
use Rattle.figure_text.specs.declared.figure.Figure.{Figure}
use Rattle.line_inputs.specs.FigureLinesReading.{IsReading, BeginsWith}
use Rattle.line_inputs.specs.declared.figure_lines.ending.Ending.{Ending}
use Rattle.line_inputs.specs.declared.figure_lines.ending.Ending.TheVariants.{Well, BadLine, Limit, EndInFigure, TooLong}

-- an input that does not end well
abbrev pub IsBad : Ending → Type 0
IsBad Well = ⊥
IsBad (BadLine k) = Unit {0}
IsBad (Limit k) = Unit {0}
IsBad (EndInFigure k) = Unit {0}
IsBad TooLong = Unit {0}

abbrev pub ended_well : Ending → Bool
ended_well Well = true
ended_well (BadLine k) = false
ended_well (Limit k) = false
ended_well (EndInFigure k) = false
ended_well TooLong = false

-- an ending as it is in a longer input, with so many lines before this one
abbrev pub ending_behind : ℕ → Ending → Ending
ending_behind lines Well = Well
ending_behind lines (BadLine k) = BadLine (lines + k)
ending_behind lines (Limit k) = Limit (lines + k)
ending_behind lines (EndInFigure k) = EndInFigure (lines + k)
ending_behind lines TooLong = TooLong

abbrev pub figures : Reads Figure Ending
figures = record {
  IsReading = IsReading;
  BeginsWith = BeginsWith;
  well = Well;
  IsBad = IsBad;
}
