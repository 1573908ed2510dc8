-- What contracts see of a reader, and what pieces do to it.
use Rattle.std.specs.Prelude.{ℕ, ◌<◌, ◌≤◌, ◌≡◌, Bool, List, [], ◌∷◌, ◌++◌, length, take}
use Rattle.graphs.specs.Graphs.{EdgeGraph}
use Rattle.line_inputs.specs.GraphLinesProgress.{Progress, Closes, behind_header}
use Rattle.line_inputs.specs.declared.graph_lines.ending.Ending.{Ending}
use Rattle.line_inputs.specs.declared.graph_lines.ending.Ending.TheVariants.{Well, BadLine}
use Rattle.line_inputs.specs.declared.graph_lines.open_line.Line.{Line}
use Rattle.line_inputs.specs.declared.graph_lines.open_line.Line.TheVariants.{Open, Closed}

-- A reader: how many bytes it has consumed, the number of the open line, whether it is the first one, what has come of it, and the graph that was read last.
pub record State : Type 0 where
  pub place : ℕ
  pub line : ℕ
  pub first : Bool
  pub pending : List ℕ
  pub graph : EdgeGraph

-- the bytes consumed are the lines of these graphs, and what is open
pub record IsAt (state : State) (consumed : List ℕ) (graphs : List EdgeGraph) : Type 0 where
  pub placed : length consumed ≡ state.place
  pub progress : Progress consumed graphs state.line state.first state.pending

-- how the bytes consumed end if no more come
abbrev pub ending_of : List ℕ → ℕ → Ending
ending_of [] line = Well
ending_of (b ∷ rest) line = BadLine line

abbrev pub ending_by : Bool → ℕ → List ℕ → Ending
ending_by first line pending = ending_of (behind_header first pending) line

-- a part of a piece ends within the open line, or closes it
abbrev pub IsLinePart : List ℕ → Line → Type 0
IsLinePart part Open = Unit {0}
IsLinePart part (Closed k judged) = (0 < k) × (k ≤ length part)

abbrev pub TakesLine : List ℕ → List EdgeGraph → ℕ → Bool → List ℕ → List ℕ → Line → Type 0
TakesLine consumed graphs line first part pending Open = Progress (consumed ++ part) graphs line first pending
TakesLine consumed graphs line first part pending (Closed k judged) = (pending ≡ []) × Closes (consumed ++ take k part) graphs line judged
