-- What a closed line is that stands outside a figure.
use Rattle.std.specs.Prelude.{ℕ, ◌≡◌, ◌≤◌, IsTrue, IsFalse, List, Some}
use Rattle.graphs.specs.Graphs.{EdgeGraph}
use Rattle.graph6_text.specs.Lines.{IsLine as IsGraphLine}
use Rattle.figure_text.specs.declared.line_shapes.Kind.{Kind}
use Rattle.figure_text.specs.declared.first_lines.Front.{Front}
use Rattle.figure_text.specs.declared.first_lines.Front.TheVariants.{Note, Begins, Limit, Bad}
use Rattle.figure_text.specs.Words.{words_of, part_at}
use Rattle.figure_text.specs.Lines.{rows_due, kind_of, IsFirstLine, FirstInRange}
use Rattle.figure_text.specs.Reading.{is_note}

-- a line has the shape of the first line of a figure of this kind
pub record IsFirstOf (kind : Kind) (line : List ℕ) : Type 0 where
  pub shape : IsFirstLine line
  pub job : kind_of (words_of line) ≡ Some kind

-- there is a line of a vertex, or of branches, and there are not too many
abbrev pub IsRowCount : ℕ → Type 0
IsRowCount n = (1 ≤ n) × (n ≤ 4095)

-- what its words say of a line that is no note
abbrev pub IsFrontBy : List ℕ → Front → Type 0
IsFrontBy line Note = ⊥
IsFrontBy line (Begins kind n) = IsFirstOf kind line × FirstInRange line × (rows_due kind (words_of line) ≡ n) × IsRowCount n
IsFrontBy line (Limit kind) = IsFirstOf kind line × (¬ FirstInRange line)
IsFrontBy line Bad = ¬ IsFirstLine line

-- a line is a note, or it is what its words say
abbrev pub IsFront : List ℕ → Front → Type 0
IsFront line Note = IsTrue (is_note line)
IsFront line (Begins kind n) = IsFalse (is_note line) × IsFrontBy line (Begins kind n)
IsFront line (Limit kind) = IsFalse (is_note line) × IsFrontBy line (Limit kind)
IsFront line Bad = IsFalse (is_note line) × IsFrontBy line Bad

-- the graph of a witness, which is a part of its first line
abbrev pub IsGraphOf : List ℕ → EdgeGraph → Type 0
IsGraphOf line graph = IsGraphLine (part_at line 4) graph
