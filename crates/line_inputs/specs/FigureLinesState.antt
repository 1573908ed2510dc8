-- What contracts see of a reader, and what pieces do to it.
use Rattle.std.specs.Prelude.{ℕ, ◌+◌, ◌<◌, ◌≤◌, ◌≡◌, List, [], ◌∷◌, ◌++◌, length, take, Option, Some, None}
use Rattle.figure_text.specs.declared.figure.Figure.{Figure}
use Rattle.line_inputs.specs.FigureLinesProgress.{Progress, Closes, IsWhole}
use Rattle.line_inputs.specs.declared.figure_lines.ending.Ending.{Ending}
use Rattle.line_inputs.specs.declared.figure_lines.ending.Ending.TheVariants.{Well, BadLine, EndInFigure}
use Rattle.line_inputs.specs.declared.figure_lines.begun_figure.Begun.{Begun}
use Rattle.line_inputs.specs.declared.figure_lines.open_line.Line.{Line}
use Rattle.line_inputs.specs.declared.figure_lines.open_line.Line.TheVariants.{Open, Closed, Ran}
use Rattle.line_inputs.specs.declared.figure_lines.line_batch.Front.{Front}
use Rattle.line_inputs.specs.declared.figure_lines.line_batch.Front.TheVariants.{Lines, NoLine}

-- A reader: how many bytes it has consumed, the number of the open line and what has come of it, the figure that has begun,
-- and the one that became whole last.
pub record State : Type 0 where
  pub place : ℕ
  pub line : ℕ
  pub pending : List ℕ
  pub begun : Option Begun
  pub figure : Figure

-- the bytes consumed are these figures, notes, and what is open
pub record IsAt (state : State) (consumed : List ℕ) (figures : List Figure) : Type 0 where
  pub placed : length consumed ≡ state.place
  pub progress : Progress consumed figures state.line state.pending state.begun

-- how the bytes consumed end if no more come
abbrev pub ending_by : Option Begun → ℕ → List ℕ → Ending
ending_by None line [] = Well
ending_by None line (b ∷ pending) = BadLine line
ending_by (Some begun) line pending = EndInFigure begun.first

-- a figure goes on after the first `bytes` bytes of a part, which are `lines` whole lines
abbrev pub TakesRun : List ℕ → List Figure → ℕ → List ℕ → List ℕ → ℕ → ℕ → Begun → Type 0
TakesRun consumed figures line part pending bytes lines begun = Progress (consumed ++ take bytes part) figures (line + lines) pending (Some begun)

-- a part of a piece ends within the open line, closes it, or begins with whole lines of a figure
abbrev pub IsLinePart : List ℕ → Line → Type 0
IsLinePart part (Open begun) = Unit {0}
IsLinePart part (Closed k after) = (0 < k) × (k ≤ length part) × IsWhole after
IsLinePart part (Ran run) = (0 < run.bytes) × (run.bytes ≤ length part) × (run.lines ≤ run.bytes)

-- what a part of a piece makes of the bytes before it, as `IsLinePart` has it
abbrev pub TakesLine : List ℕ → List Figure → ℕ → List ℕ → List ℕ → Line → Type 0
TakesLine consumed figures line part pending (Open begun) = Progress (consumed ++ part) figures line pending begun
TakesLine consumed figures line part pending (Closed k after) = (pending ≡ []) × Closes (consumed ++ take k part) figures line after
TakesLine consumed figures line part pending (Ran run) = TakesRun consumed figures line part pending run.bytes run.lines run.begun

-- a part begins with whole lines of a figure, or none is taken
abbrev pub IsFrontPart : List ℕ → Front → Type 0
IsFrontPart part (Lines run) = (0 < run.bytes) × (run.bytes ≤ length part) × (run.lines ≤ run.bytes)
IsFrontPart part (NoLine begun) = Unit {0}

-- what the front of a part makes of the bytes before it, as `IsFrontPart` has it
abbrev pub TakesFront : List ℕ → List Figure → ℕ → List ℕ → List ℕ → Front → Type 0
TakesFront consumed figures line part pending (Lines run) = TakesRun consumed figures line part pending run.bytes run.lines run.begun
TakesFront consumed figures line part pending (NoLine begun) = Progress consumed figures line pending begun
