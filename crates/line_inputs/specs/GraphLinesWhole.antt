-- How an input of graph6 lines of any length is read: as one is that is within the limit.
use Rattle.std.specs.Prelude.{ℕ, ◌+◌, ◌<◌, ◌≤◌, ◌≡◌, ◌↔◌, List, ◌++◌, length}
use Rattle.record_runs.specs.Texts.{input_limit}
use Rattle.graphs.specs.Graphs.{EdgeGraph}
use Rattle.graph6_text.specs.Header.{header_length}
use Rattle.line_inputs.specs.GraphLinesReading.{lines_in, HasLines, EndsAs, IsReading}
use Rattle.line_inputs.specs.GraphLinesFormat.{ending_behind}
use Rattle.line_inputs.specs.declared.graph_lines.ending.Ending.{Ending}
use Rattle.line_inputs.specs.declared.graph_lines.ending.Ending.TheVariants.{Well}

-- The reading of an input of any length: the graphs of its lines, and the ending where they stop, which is that of an input
-- within the limit.
pub record IsWholeReading (input : List ℕ) (graphs : List EdgeGraph) (ending : Ending) : Type 0 where
  pub rest : List ℕ
  pub has : HasLines (lines_in input) graphs rest
  pub ends : EndsAs 0 rest (length graphs + 1) ending

-- an input within the limit is read as one of any length is
abbrev pub ReadWithinLimit : Type 0
ReadWithinLimit =
    (input : List ℕ) (graphs : List EdgeGraph) (ending : Ending) → length input ≤ input_limit
    → IsReading input graphs ending ↔ IsWholeReading input graphs ending

-- an input of any length is read in one way at most
abbrev pub OneWholeReading : Type 0
OneWholeReading =
    (input : List ℕ) (graphs graphs' : List EdgeGraph) (ending ending' : Ending) → IsWholeReading input graphs ending
    → IsWholeReading input graphs' ending' → (graphs ≡ graphs') × (ending ≡ ending')

-- Two parts of an input, of which the first has a graph and ends well, and the second begins with no header. The input has the
-- graphs of the first and then those of the second, and ends as the second does.
abbrev pub PartsAreRead : Type 0
PartsAreRead =
    (first second : List ℕ) (graphs graphs' : List EdgeGraph) (ending : Ending) → IsWholeReading first graphs Well → 0 < length graphs
    → header_length second ≡ 0 → IsWholeReading second graphs' ending
    → IsWholeReading (first ++ second) (graphs ++ graphs') (ending_behind (length graphs) ending)
