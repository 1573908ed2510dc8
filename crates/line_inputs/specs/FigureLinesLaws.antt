-- Laws on how inputs of figures are read.
use Rattle.std.specs.Prelude.{ℕ, ◌≡◌, ◌≤◌, List, length}
use Rattle.record_runs.specs.Texts.{input_limit}
use Rattle.figure_text.specs.declared.figure.Figure.{Figure}
use Rattle.line_inputs.specs.FigureLinesReading.{IsReading}
use Rattle.line_inputs.specs.FigureLinesState.{State, IsAt, ending_by}
use Rattle.line_inputs.specs.declared.figure_lines.ending.Ending.{Ending}

-- each input is read in one way at most
abbrev pub OneReading : Type 0
OneReading =
    (input : List ℕ) (figures figures' : List Figure) (ending ending' : Ending) → IsReading input figures ending → IsReading input figures' ending'
    → (figures ≡ figures') × (ending ≡ ending')

-- each input is read in one way at least
abbrev pub EachInputIsRead : Type 0
EachInputIsRead = (input : List ℕ) → (figures : List Figure) × (ending : Ending) × IsReading input figures ending

-- what a reader has consumed is read as the figures that it answered, and ends as it says
abbrev pub ConsumedIsRead : Type 0
ConsumedIsRead =
    (state : State) (consumed : List ℕ) (figures : List Figure) → IsAt state consumed figures → length consumed ≤ input_limit
    → IsReading consumed figures (ending_by state.begun state.line state.pending)
