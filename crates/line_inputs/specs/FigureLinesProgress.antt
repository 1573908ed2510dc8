-- How far the bytes consumed so far have been read.
use Rattle.std.specs.Prelude.{ℕ, ◌+◌, ◌≤◌, ◌≡◌, List, [], ◌∷◌, ◌++◌, length, drop, Option, Some, None, Ok, Err}
use Rattle.figure_text.specs.declared.figure.Figure.{Figure}
use Rattle.figure_text.specs.declared.vertex_lines.Draft.{Draft}
use Rattle.figure_text.specs.declared.figure_ends.Item.{Item}
use Rattle.figure_text.specs.declared.figure_ends.Item.TheVariants.{Drawn, Note}
use Rattle.figure_text.specs.declared.fault.TextFault.{TextFault}
use Rattle.figure_text.specs.declared.fault.TextFault.TheVariants as fault
use Rattle.figure_text.specs.Laws.{IsAnswer}
use Rattle.figure_text.specs.Reading.{IsPlain, Rows}
use Rattle.figure_text.specs.Figures.{Begins}
use Rattle.figure_text.specs.Drafts.{drafted}
use Rattle.line_inputs.specs.FigureLinesReading.{AreItems, figures_of, IsReading}
use Rattle.line_inputs.specs.FigureLinesFormat.{IsBad}
use Rattle.line_inputs.specs.Given.{IsGiven}
use Rattle.line_inputs.specs.Heads.{head_kind, HasGraph}
use Rattle.line_inputs.specs.declared.figure_lines.ending.Ending.{Ending}
use Rattle.line_inputs.specs.declared.figure_lines.ending.Ending.TheVariants.{Well, BadLine, Limit, EndInFigure, TooLong}
use Rattle.line_inputs.specs.declared.figure_lines.first_line.Head.{Head}
use Rattle.line_inputs.specs.declared.figure_lines.first_line.Head.TheVariants.{Bars}
use Rattle.line_inputs.specs.declared.figure_lines.begun_figure.Begun.{Begun}
use Rattle.line_inputs.specs.declared.figure_lines.begun_figure.Due.{Due}
use Rattle.line_inputs.specs.declared.figure_lines.begun_figure.Due.TheVariants.{Row, Columns}
use Rattle.line_inputs.specs.declared.figure_lines.closed_line.After.{After}
use Rattle.line_inputs.specs.declared.figure_lines.closed_line.After.TheVariants.{Goes, Whole, Bad}

-- A figure begins at the front of a text, on the line with the number `first`, with its first line and some of its n lines of
-- vertices, or of branches and paths, of which this is the draft. What is left is the line with the number `line`.
pub record IsBegun (head : Head) (n first line : ℕ) (draft : Draft) (text rest : List ℕ) : Type 0 where
  pub body : List ℕ
  pub begins : Begins (head_kind head) n text body
  pub graph : HasGraph head begins.line
  pub lines : List (List ℕ)
  pub rows : Rows (head_kind head) body lines rest
  pub counted : line ≡ first + 1 + length lines
  pub gives : draft ≡ drafted (head_kind head) lines

-- a figure has begun, and this line of it is due
abbrev pub IsDue : Due → ℕ → ℕ → List ℕ → List ℕ → Type 0
IsDue (Row rows) first line text pending = IsBegun rows.held.head rows.held.n first line rows.held.draft text pending
IsDue (Columns bars) first line text pending = IsBegun Bars (length bars.draft.lists) first line bars.draft text pending

-- What stands behind the items: a line alone, or a figure that has begun.
abbrev pub IsOpen : Option Begun → ℕ → ℕ → List ℕ → List ℕ → Type 0
IsOpen None first line text pending = (line ≡ first) × (text ≡ pending)
IsOpen (Some begun) first line text pending = (begun.first ≡ first) × IsDue begun.due first line text pending

-- The bytes consumed are figures and notes, and what has come of the next one, whose last line is open.
pub record Progress (consumed : List ℕ) (figures : List Figure) (line : ℕ) (pending : List ℕ) (open_figure : Option Begun) : Type 0 where
  pub items : List Item
  pub at : ℕ
  pub first : ℕ
  pub are : AreItems consumed 0 1 items at first
  pub figures_are : figures ≡ figures_of items
  pub within : at ≤ length consumed
  pub plain : IsPlain pending
  pub stands : IsOpen open_figure first line (drop at consumed) pending

-- an input ends badly at a line that is closed
abbrev pub IsAtLine : Ending → Type 0
IsAtLine Well = ⊥
IsAtLine (BadLine k) = Unit {0}
IsAtLine (Limit k) = Unit {0}
IsAtLine (EndInFigure k) = ⊥
IsAtLine TooLong = ⊥

-- the fault of such an ending; for an ending that is none, a fault of no meaning
abbrev pub fault_at : Ending → TextFault
fault_at Well = fault.NoMemory
fault_at (BadLine k) = fault.BadLine k
fault_at (Limit k) = fault.Limit k
fault_at (EndInFigure k) = fault.EndInFigure k
fault_at TooLong = fault.NoMemory

-- A line with this number ends a text that begins on the line `first`, outside a figure. It is a note, the figure goes on
-- or is whole, or every longer text is bad at that line.
abbrev pub Makes : ℕ → ℕ → List ℕ → After → Type 0
Makes first number text (Goes None) = IsAnswer text 0 first (Ok (Note (length text) (number + 1)))
Makes first number text (Goes (Some begun)) = (begun.first ≡ first) × IsDue begun.due first (number + 1) text []
Makes first number text (Whole fig) = IsAnswer text 0 first (Ok (Drawn fig (length text) (number + 1)))
Makes first number text (Bad ending) = IsAtLine ending × ((more : List ℕ) → IsAnswer (text ++ more) 0 first (Err (fault_at ending)))

-- what became of a line with this number that was closed, where a text ends: the figure goes on or none has begun, or one is
-- whole, or an input that begins so ends badly here, however it goes on
abbrev pub Closes : List ℕ → List Figure → ℕ → After → Type 0
Closes text figures line (Goes open_figure) = Progress text figures (line + 1) [] open_figure
Closes text figures line (Whole fig) = Progress text (figures ++ fig ∷ []) (line + 1) [] None
Closes text figures line (Bad ending) = IsBad ending × ((tail : List ℕ) → IsReading (text ++ tail) figures ending)

-- a figure that became whole is one that may be judged
abbrev pub IsWhole : After → Type 0
IsWhole (Goes open_figure) = Unit {0}
IsWhole (Whole fig) = IsGiven fig
IsWhole (Bad ending) = Unit {0}

-- the fault of a text that ends in a figure that has begun, or in this line outside one
abbrev pub end_fault : Option Begun → ℕ → TextFault
end_fault (Some begun) line = fault.EndInFigure begun.first
end_fault None line = fault.BadLine line

-- From an offset on, where the line `first` begins, whole lines of a figure that is open stand up to `next`, where the line
-- `number` begins, or none.
pub record IsReadTo (bytes : List ℕ) (at first next number : ℕ) (begun : Option Begun) : Type 0 where
  pub text : List ℕ
  pub parts : drop at bytes ≡ text ++ drop next bytes
  pub placed : at + length text ≡ next
  pub stands : IsOpen begun first number text []
