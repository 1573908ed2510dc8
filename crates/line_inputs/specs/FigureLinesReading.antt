-- How an input of figures is read: as figures and notes, and one ending.
use Rattle.std.specs.Prelude.{ℕ, ◌<◌, ◌≤◌, ◌≡◌, ◌⊎◌, List, [], ◌∷◌, length, take, drop, Ok, Err}
use Rattle.record_runs.specs.Texts.{input_limit}
use Rattle.figure_text.specs.declared.figure.Figure.{Figure}
use Rattle.figure_text.specs.declared.fault.TextFault.TheVariants as fault
use Rattle.figure_text.specs.declared.figure_ends.Item.{Item}
use Rattle.figure_text.specs.declared.figure_ends.Item.TheVariants.{Drawn, Note, End}
use Rattle.figure_text.specs.Reading.{IsPlain}
use Rattle.figure_text.specs.Laws.{IsAnswer}
use Rattle.line_inputs.specs.declared.figure_lines.ending.Ending.{Ending}
use Rattle.line_inputs.specs.declared.figure_lines.ending.Ending.TheVariants.{Well, BadLine, Limit, EndInFigure, TooLong}

-- Figures and notes stand one after another from an offset and a line of a text up to others.
abbrev pub AreItems : List ℕ → ℕ → ℕ → List Item → ℕ → ℕ → Type 0
AreItems bytes at line [] at' line' = (at' ≡ at) × (line' ≡ line)
AreItems bytes at line (Drawn fig next after ∷ items) at' line' =
    IsAnswer bytes at line (Ok (Drawn fig next after)) × AreItems bytes next after items at' line'
AreItems bytes at line (Note next after ∷ items) at' line' =
    IsAnswer bytes at line (Ok (Note next after)) × AreItems bytes next after items at' line'
AreItems bytes at line (End ∷ items) at' line' = ⊥

-- the figures among items
abbrev pub figures_of : List Item → List Figure
figures_of [] = []
figures_of (Drawn fig next after ∷ items) = fig ∷ figures_of items
figures_of (Note next after ∷ items) = figures_of items
figures_of (End ∷ items) = figures_of items

-- How an input of `total` bytes ends, of which these are read, where items stop at this offset and line. In a longer
-- input than is read no line is judged that is not closed, and none is missed.
abbrev pub EndsAs : ℕ → List ℕ → ℕ → ℕ → Ending → Type 0
EndsAs total bytes at line Well = (total ≤ input_limit) × (at ≡ length bytes)
EndsAs total bytes at line (BadLine k) =
    IsAnswer bytes at line (Err (fault.BadLine k)) × ((total ≤ input_limit) ⊎ (¬ IsPlain (drop at bytes)))
EndsAs total bytes at line (Limit k) = IsAnswer bytes at line (Err (fault.Limit k))
EndsAs total bytes at line (EndInFigure k) = IsAnswer bytes at line (Err (fault.EndInFigure k)) × (total ≤ input_limit)
EndsAs total bytes at line TooLong =
    (input_limit < total) × (IsPlain (drop at bytes) ⊎ ((k : ℕ) × IsAnswer bytes at line (Err (fault.EndInFigure k))))

-- the first bytes of an input that are read hold these figures first, beside notes
pub record BeginsWith (input : List ℕ) (figures : List Figure) : Type 0 where
  pub items : List Item
  pub at : ℕ
  pub line : ℕ
  pub are : AreItems (take input_limit input) 0 1 items at line
  pub figures_are : figures ≡ figures_of items

-- The reading of an input: its figures within the limit, and the ending where they stop.
pub record IsReading (input : List ℕ) (figures : List Figure) (ending : Ending) : Type 0 where
  pub items : List Item
  pub at : ℕ
  pub line : ℕ
  pub are : AreItems (take input_limit input) 0 1 items at line
  pub figures_are : figures ≡ figures_of items
  pub ends : EndsAs (length input) (take input_limit input) at line ending
