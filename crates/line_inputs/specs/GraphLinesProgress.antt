-- How far the bytes consumed so far have been read.
use Rattle.std.specs.Prelude.{ℕ, ◌+◌, ◌≤◌, ◌≡◌, Bool, true, false, List, [], ◌∷◌, ◌++◌, length, drop, Option, Some, None}
use Rattle.graphs.specs.Graphs.{EdgeGraph}
use Rattle.graph6_text.specs.Header.{header_length}
use Rattle.graph6_text.specs.Lines.{IsLine}
use Rattle.graph6_text.specs.Faults.{line_fault}
use Rattle.graph6_text.specs.declared.graph6_lines.G6Fault.{G6Fault}
use Rattle.figure_text.specs.Reading.{IsPlain}
use Rattle.line_inputs.specs.GraphLinesReading.{lines_in, HasLines, IsTooMany, IsReading}
use Rattle.line_inputs.specs.GraphLinesFormat.{IsBad}
use Rattle.line_inputs.specs.declared.graph_lines.ending.Ending.{Ending}
use Rattle.line_inputs.specs.declared.graph_lines.ending.Ending.TheVariants.{Well, BadLine, Limit, TooLong}
use Rattle.line_inputs.specs.declared.graph_lines.open_line.Judged.{Judged}
use Rattle.line_inputs.specs.declared.graph_lines.open_line.Judged.TheVariants.{Header, Graph, Bad}

-- the header is the same however the bytes go on
pub record IsSettled (bytes : List ℕ) : Type 0 where
  pub within : header_length bytes ≤ length bytes
  pub same : (more : List ℕ) → header_length (bytes ++ more) ≡ header_length bytes

-- Bytes of which no line is closed are the open line; behind the first closed line a header is left out.
abbrev pub Stands : Bool → List ℕ → List EdgeGraph → List ℕ → Type 0
Stands true consumed graphs pending = (consumed ≡ pending) × (graphs ≡ [])
Stands false consumed graphs pending = IsSettled consumed × HasLines (lines_in consumed) graphs pending

-- The bytes consumed are the lines of these graphs, and an open line with this number.
pub record Progress (consumed : List ℕ) (graphs : List EdgeGraph) (number : ℕ) (first : Bool) (pending : List ℕ) : Type 0 where
  pub counted : number ≡ length graphs + 1
  pub plain : IsPlain pending
  pub stands : Stands first consumed graphs pending

-- a line without the header, where it is the first one
abbrev pub behind_header : Bool → List ℕ → List ℕ
behind_header true line = drop (header_length line) line
behind_header false line = line

-- how an input ends with line k, which has this fault
abbrev pub Judges : ℕ → List ℕ → G6Fault → Option Ending → Type 0
Judges k line fault None = line_fault line ≡ None
Judges k line fault (Some Well) = ⊥
Judges k line fault (Some (BadLine j)) = (j ≡ k) × (line_fault line ≡ Some fault) × ¬ IsTooMany fault
Judges k line fault (Some (Limit j)) = (j ≡ k) × (line_fault line ≡ Some fault) × IsTooMany fault
Judges k line fault (Some TooLong) = ⊥

-- what line k is, without the header
abbrev pub IsJudged : ℕ → List ℕ → Judged → Type 0
IsJudged k line Header = ⊥
IsJudged k line (Graph g) = IsLine line g
IsJudged k line (Bad ending) = (fault : G6Fault) × Judges k line fault (Some ending)

-- what became of line k, which was closed, where a text ends
abbrev pub Closes : List ℕ → List EdgeGraph → ℕ → Judged → Type 0
Closes text graphs k Header = Progress text graphs k false []
Closes text graphs k (Graph g) = Progress text (graphs ++ g ∷ []) (k + 1) false []
Closes text graphs k (Bad ending) = IsBad ending × ((tail : List ℕ) → IsReading (text ++ tail) graphs ending)
