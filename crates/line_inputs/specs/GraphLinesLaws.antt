-- Laws on how inputs of lines are read.
use Rattle.std.specs.Prelude.{ℕ, ◌≡◌, List}
use Rattle.graphs.specs.Graphs.{EdgeGraph}
use Rattle.line_inputs.specs.GraphLinesReading.{IsReading}
use Rattle.line_inputs.specs.declared.graph_lines.ending.Ending.{Ending}

-- each input is read in one way at most
abbrev pub OneReading : Type 0
OneReading =
    (input : List ℕ) (graphs graphs' : List EdgeGraph) (ending ending' : Ending) → IsReading input graphs ending → IsReading input graphs' ending'
    → (graphs ≡ graphs') × (ending ≡ ending')

-- each input is read in one way at least
abbrev pub EachInputIsRead : Type 0
EachInputIsRead = (input : List ℕ) → (graphs : List EdgeGraph) × (ending : Ending) × IsReading input graphs ending
