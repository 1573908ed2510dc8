-- The reading of a text from an offset on: a figure, a note, the end, or a bad place.
use Rattle.std.specs.Prelude.{ℕ, ℤ, ◌+◌, ◌<◌, ◌≤◌, ◌≡◌, ◌⊎◌, IsTrue, IsFalse, List, [], ◌∷◌, ◌++◌, length, drop, map, slice_index_or, Some}
use Rattle.pg_plane.specs.declared.figures.BarFigure.{BarFigure}
use Rattle.pg_plane.specs.declared.figures.RectFigure.{RectFigure}
use Rattle.figure_text.specs.declared.figure.Figure.{Figure}
use Rattle.figure_text.specs.declared.figure.Figure.TheVariants.{Grid as GridFigure, Bars as BarsFigure, Rects as RectsFigure, Witness as WitnessFigure}
use Rattle.figure_text.specs.declared.line_words.Word.{Word}
use Rattle.figure_text.specs.declared.line_shapes.Kind.{Kind}
use Rattle.figure_text.specs.declared.line_shapes.Kind.TheVariants.{Grid, Bars, Rects, Witness}
use Rattle.figure_text.specs.declared.fault.TextFault.{TextFault}
use Rattle.figure_text.specs.declared.fault.TextFault.TheVariants.{BadLine, EndInFigure, Limit, NoMemory}
use Rattle.figure_text.specs.declared.figure_ends.Item.{Item}
use Rattle.figure_text.specs.declared.figure_ends.Item.TheVariants.{Drawn, Note, End}
use Rattle.figure_text.specs.declared.figure_ends.Columns.{Columns}
use Rattle.figure_text.specs.declared.figure_ends.Columns.TheVariants.{Good as GoodColumns, Bad as BadColumns, Limit as FarColumns, NoMemory as NoColumns}
use Rattle.map_lists.specs.Lists.{Lists}
use Rattle.map_lists.specs.declared.ids.VertexId.{VertexId}
use Rattle.graphs.specs.Graphs.{EdgeGraph}
use Rattle.kuratowski.specs.declared.witness.Kind.{Kind as Subdivided}
use Rattle.kuratowski.specs.declared.witness.Witness.{Witness as SubdivisionWitness}
use Rattle.figure_text.specs.Words.{words_of}
use Rattle.figure_text.specs.Lines.{rows_due, kind_of, integer_of, IsFirstLine, FirstInRange, IsColumnsLine, ColumnsInRange}
use Rattle.figure_text.specs.Reading.{IsPlain, IsLine, Rows, RowsFail, is_note, point_of, vertices_from, of_lines}
use Rattle.figure_text.specs.Drafts.{integer_in}
use Rattle.figure_text.specs.Front.{IsGraphOf}

-- the numbers of the line of the columns
abbrev pub columns_of : List Word → List ℤ
columns_of words = map integer_of (drop 1 words)

-- the bars that lines of vertices and a line of columns give
abbrev pub bars_of : List (List ℕ) → List ℕ → BarFigure
bars_of lines columns =
    record {
      y = of_lines (integer_in 2) lines;
      x1 = of_lines (integer_in 4) lines;
      x2 = of_lines (integer_in 5) lines;
      column = columns_of (words_of columns);
    }

-- the rectangles that lines of vertices give
abbrev pub rects_of : List (List ℕ) → RectFigure
rects_of lines =
    record { x1 = of_lines (integer_in 2) lines; x2 = of_lines (integer_in 3) lines; y1 = of_lines (integer_in 5) lines; y2 = of_lines (integer_in 6) lines }

-- vertices by their numbers
abbrev pub ids : List ℕ → List VertexId
ids us = map (λ u. record { 0 = u }) us

-- the witness whose branches are the first list and whose paths are the others
abbrev pub witness_of : Subdivided → Lists → SubdivisionWitness
witness_of kind lists = record { kind = kind; branch = ids (slice_index_or lists 0 []); paths = map ids (drop 1 lists) }

-- the first line of a figure of this kind with n lines of vertices, or of branches and paths
pub record IsHead (kind : Kind) (n : ℕ) (line : List ℕ) : Type 0 where
  pub shape : IsFirstLine line
  pub range : FirstInRange line
  pub job : kind_of (words_of line) ≡ Some kind
  pub rows : rows_due kind (words_of line) ≡ n

-- The lines behind the first line `head` of a figure are at the front of a text, and give this figure.
abbrev pub IsBody : Kind → ℕ → List ℕ → List ℕ → List ℕ → Figure → Type 0
IsBody (Grid job) n head text rest fig =
    (lines : List (List ℕ)) × Rows (Grid job) text lines rest × (length lines ≡ n)
    × (fig ≡ GridFigure job (of_lines (vertices_from 4) lines) (of_lines point_of lines))
IsBody Bars n head text rest fig =
    (lines : List (List ℕ)) × (columns : List ℕ) × Rows Bars text lines (columns ++ 10 ∷ rest) × (length lines ≡ n) × IsPlain columns
    × IsColumnsLine (words_of columns) × ColumnsInRange (words_of columns)
    × (fig ≡ BarsFigure (of_lines (vertices_from 6) lines) (bars_of lines columns))
IsBody Rects n head text rest fig =
    (lines : List (List ℕ)) × Rows Rects text lines rest × (length lines ≡ n) × (fig ≡ RectsFigure (of_lines (vertices_from 7) lines) (rects_of lines))
IsBody (Witness kind) n head text rest fig =
    (graph : EdgeGraph) × (lines : List (List ℕ)) × IsGraphOf head graph × Rows (Witness kind) text lines rest × (length lines ≡ n)
    × (fig ≡ WitnessFigure graph (witness_of kind (of_lines (vertices_from 1) lines)))

-- how many lines follow the first
abbrev pub lines_due : Kind → ℕ → ℕ
lines_due (Grid job) n = n
lines_due Bars n = n + 1
lines_due Rects n = n
lines_due (Witness kind) n = n

-- the line of the columns does not come behind those of all vertices
abbrev pub ColumnsFail : ℕ → List ℕ → ℕ → TextFault → Type 0
ColumnsFail n text first (BadLine k) =
    (lines : List (List ℕ)) × (line : List ℕ) × (rest : List ℕ) × Rows Bars text lines (line ++ 10 ∷ rest) × (length lines ≡ n) × IsPlain line
    × (¬ IsColumnsLine (words_of line)) × (k ≡ first + 1 + n)
ColumnsFail n text first (Limit k) =
    (lines : List (List ℕ)) × (line : List ℕ) × (rest : List ℕ) × Rows Bars text lines (line ++ 10 ∷ rest) × (length lines ≡ n) × IsPlain line
    × IsColumnsLine (words_of line) × (¬ ColumnsInRange (words_of line)) × (k ≡ first + 1 + n)
ColumnsFail n text first (EndInFigure k) =
    (lines : List (List ℕ)) × (rest : List ℕ) × Rows Bars text lines rest × (length lines ≡ n) × IsPlain rest × (k ≡ first)
ColumnsFail n text first NoMemory = Unit {0}

-- the lines behind the first do not all come
abbrev pub BodyFails : Kind → ℕ → List ℕ → ℕ → TextFault → Type 0
BodyFails (Grid job) n text first fault = RowsFail (Grid job) n text first fault
BodyFails Bars n text first fault = RowsFail Bars n text first fault ⊎ ColumnsFail n text first fault
BodyFails Rects n text first fault = RowsFail Rects n text first fault
BodyFails (Witness kind) n text first fault = RowsFail (Witness kind) n text first fault

-- the figure whose first line `head` has the number `first` and ends before this text, which is the end of some bytes
abbrev pub IsDrawn : Kind → ℕ → List ℕ → List ℕ → List ℕ → ℕ → Item → Type 0
IsDrawn kind n head bytes text first (Drawn fig next after) =
    IsBody kind n head text (drop next bytes) fig × (next ≤ length bytes) × (after ≡ first + 1 + lines_due kind n)
IsDrawn kind n head bytes text first (Note next after) = ⊥
IsDrawn kind n head bytes text first End = ⊥

-- what a line of columns is worth
abbrev pub JudgesColumns : List Word → Columns → Type 0
JudgesColumns words (GoodColumns list) = IsColumnsLine words × ColumnsInRange words × (list ≡ columns_of words)
JudgesColumns words BadColumns = ¬ IsColumnsLine words
JudgesColumns words FarColumns = IsColumnsLine words × (¬ ColumnsInRange words)
JudgesColumns words NoColumns = Unit {0}

-- a figure begins at the front of a text, with a first line of this kind and n lines of vertices, or of branches and paths
pub record Begins (kind : Kind) (n : ℕ) (text rest : List ℕ) : Type 0 where
  pub line : List ℕ
  pub is : IsLine text line rest
  pub other : IsFalse (is_note line)
  pub head : IsHead kind n line

-- What stands at an offset of a text, on the line with the number `first`: a figure or a note, with the offset and the
-- number of the line behind it, or the end.
abbrev pub StandsAt : List ℕ → ℕ → ℕ → Item → Type 0
StandsAt bytes at first (Drawn fig next after) =
    (kind : Kind) × (n : ℕ) × (text : List ℕ) × (begins : Begins kind n (drop at bytes) text) × IsDrawn kind n begins.line bytes text first (Drawn fig next after)
StandsAt bytes at first (Note next after) =
    (line : List ℕ) × IsLine (drop at bytes) line (drop next bytes) × IsTrue (is_note line) × (next ≤ length bytes) × (after ≡ first + 1)
StandsAt bytes at first End = at ≡ length bytes

-- a line that begins no figure, in a place for one
abbrev pub FirstFails : List ℕ → ℕ → TextFault → Type 0
FirstFails text first (BadLine k) =
    (k ≡ first)
    × ((IsPlain text × (0 < length text))
    ⊎ ((line : List ℕ) × (rest : List ℕ) × IsLine text line rest × IsFalse (is_note line) × (¬ IsFirstLine line)))
FirstFails text first (Limit k) =
    (k ≡ first)
    × ((line : List ℕ) × (rest : List ℕ) × IsLine text line rest × IsFalse (is_note line) × IsFirstLine line × (¬ FirstInRange line))
FirstFails text first (EndInFigure k) = ⊥
FirstFails text first NoMemory = Unit {0}

-- Why nothing stands there: its first line is bad, or it begins a figure of which another line is.
abbrev pub FailsAt : List ℕ → ℕ → ℕ → TextFault → Type 0
FailsAt bytes at first fault =
    FirstFails (drop at bytes) first fault
    ⊎ ((kind : Kind) × (n : ℕ) × (text : List ℕ) × Begins kind n (drop at bytes) text × BodyFails kind n text first fault)
