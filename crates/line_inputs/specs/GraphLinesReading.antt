-- How an input of graph6 lines is read: as graphs, and one ending.
use Rattle.std.specs.Prelude.{ℕ, ◌+◌, ◌<◌, ◌≤◌, ◌≡◌, ◌⊎◌, List, [], ◌∷◌, ◌++◌, length, take, drop, Some}
use Rattle.record_runs.specs.Texts.{input_limit}
use Rattle.graphs.specs.Graphs.{EdgeGraph}
use Rattle.graph6_text.specs.Header.{header_length}
use Rattle.graph6_text.specs.Lines.{IsLine}
use Rattle.graph6_text.specs.Faults.{line_fault}
use Rattle.graph6_text.specs.declared.graph6_lines.G6Fault.{G6Fault}
use Rattle.graph6_text.specs.declared.graph6_lines.G6Fault.TheVariants.{BadByte, LongCount, TooMany, ShortLine, ExtraByte, Padding, NoMemory}
use Rattle.figure_text.specs.Reading.{IsPlain, closed}
use Rattle.line_inputs.specs.declared.graph_lines.ending.Ending.{Ending}
use Rattle.line_inputs.specs.declared.graph_lines.ending.Ending.TheVariants.{Well, BadLine, Limit, TooLong}

-- the bytes of an input that are read
abbrev pub first_bytes : List ℕ → List ℕ
first_bytes input = take input_limit input

-- bytes without the header, where they begin with it
abbrev pub lines_in : List ℕ → List ℕ
lines_in bytes = drop (header_length bytes) bytes

-- the lines are those of the graphs, one by one
abbrev pub AreLines : List (List ℕ) → List EdgeGraph → Type 0
AreLines [] [] = Unit {0}
AreLines [] (g ∷ graphs) = ⊥
AreLines (l ∷ lines) [] = ⊥
AreLines (l ∷ lines) (g ∷ graphs) = IsPlain l × IsLine l g × AreLines lines graphs

-- a text is closed lines of these graphs, and what is left behind them
pub record HasLines (text : List ℕ) (graphs : List EdgeGraph) (rest : List ℕ) : Type 0 where
  pub lines : List (List ℕ)
  pub parts : text ≡ closed lines ++ rest
  pub are : AreLines lines graphs

-- a line is closed at the front of a text, and this is its fault
pub record HasFault (text : List ℕ) (fault : G6Fault) : Type 0 where
  pub line : List ℕ
  pub rest : List ℕ
  pub parts : text ≡ line ++ 10 ∷ rest
  pub plain : IsPlain line
  pub is : line_fault line ≡ Some fault

-- a fault of the line of a graph with too many vertices, and any other
abbrev pub IsTooMany : G6Fault → Type 0
IsTooMany (BadByte i) = ⊥
IsTooMany LongCount = ⊥
IsTooMany (TooMany n) = Unit {0}
IsTooMany ShortLine = ⊥
IsTooMany (ExtraByte i) = ⊥
IsTooMany (Padding i) = ⊥
IsTooMany NoMemory = ⊥

-- How an input of `total` bytes ends, where this is left of the bytes that are read, from line k on. In a longer input
-- than is read no line is judged that is not closed.
abbrev pub EndsAs : ℕ → List ℕ → ℕ → Ending → Type 0
EndsAs total rest k Well = (total ≤ input_limit) × (rest ≡ [])
EndsAs total rest k (BadLine j) =
    (j ≡ k) × (((fault : G6Fault) × HasFault rest fault × ¬ IsTooMany fault) ⊎ ((total ≤ input_limit) × IsPlain rest × (0 < length rest)))
EndsAs total rest k (Limit j) = (j ≡ k) × (fault : G6Fault) × HasFault rest fault × IsTooMany fault
EndsAs total rest k TooLong = (input_limit < total) × IsPlain rest

-- the first bytes of an input hold the lines of these graphs first
pub record BeginsWith (input : List ℕ) (graphs : List EdgeGraph) : Type 0 where
  pub rest : List ℕ
  pub has : HasLines (lines_in (first_bytes input)) graphs rest

-- The reading of an input: the graphs of its lines within the limit, and the ending where they stop.
pub record IsReading (input : List ℕ) (graphs : List EdgeGraph) (ending : Ending) : Type 0 where
  pub rest : List ℕ
  pub has : HasLines (lines_in (first_bytes input)) graphs rest
  pub ends : EndsAs (length input) rest (length graphs + 1) ending
