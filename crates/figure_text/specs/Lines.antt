-- Which shape a line of a figure has, by its words, and the ranges of its numbers.
use Rattle.std.specs.Prelude.{ℕ, ℤ, pos, neg_ℤ, ◌+◌, ◌-◌, ◌≡◌, ◌≤◌, ◌==◌, nat_lt, Bool, true, false, not, min, if◌then◌else◌, IsTrue, List, length, drop, All, Option, Some, None, option_map}
use Rattle.figure_text.specs.declared.figure.GridJob.TheVariants.{Shift as ByShift, Schnyder as BySchnyder, Convex as ByConvex}
use Rattle.figure_text.specs.declared.line_words.Signed.{Signed}
use Rattle.figure_text.specs.declared.line_words.Word.{Word}
use Rattle.figure_text.specs.declared.line_words.Word.TheVariants.{Number, Closing, Named, Other}
use Rattle.figure_text.specs.declared.line_words.Name.{Name}
use Rattle.figure_text.specs.declared.line_words.Name.TheVariants.{Figure, Shift, Schnyder, Convex, Bars, Rect, Columns, Witness, K5, K33, Branch, Path}
use Rattle.figure_text.specs.declared.line_shapes.Kind.{Kind}
use Rattle.figure_text.specs.declared.line_shapes.Kind.TheVariants.{Grid, Bars as BarKind, Rects as RectKind, Witness as WitnessKind}
use Rattle.graph6_text.specs.Faults.{line_fault}
use Rattle.graph6_text.specs.declared.graph6_lines.G6Fault.{G6Fault}
use Rattle.graph6_text.specs.declared.graph6_lines.G6Fault.TheVariants.{TooMany}
use Rattle.kuratowski.specs.declared.witness.Kind.{Kind as Subdivided}
use Rattle.kuratowski.specs.declared.witness.Kind.TheVariants.{K5 as FiveJoined, K33 as ThreeByThree}
use Rattle.kuratowski.specs.Witnesses.{branch_count, pairs_of}
use Rattle.figure_text.specs.Words.{word_at, words_of, part_at}

-- the size of the number that a word is, and 0 for any other word
abbrev pub size : Word → ℕ
size (Number z) = z.size
size (Closing z) = z.size
size (Named name) = 0
size Other = 0

-- a number without a minus
abbrev pub is_natural : Word → Bool
is_natural (Number z) = not z.negative
is_natural (Closing z) = false
is_natural (Named name) = false
is_natural Other = false

abbrev pub is_number : Word → Bool
is_number (Number z) = true
is_number (Closing z) = false
is_number (Named name) = false
is_number Other = false

-- a number before a colon
abbrev pub is_closing : Word → Bool
is_closing (Number z) = false
is_closing (Closing z) = true
is_closing (Named name) = false
is_closing Other = false

-- coordinates are from -1048576 to 1048576
abbrev pub IsInside : Word → Type 0
IsInside word = size word ≤ 1048576

-- the numbers of neighbours are from 1 to 65535
abbrev pub IsVertex : Word → Type 0
IsVertex word = (1 ≤ size word) × (size word ≤ 65535)

-- `columns` and numbers
pub record IsColumnsLine (words : List Word) : Type 0 where
  pub word : word_at words 0 ≡ Named Columns
  pub numbers : All (λ w. IsTrue (is_number w)) (drop 1 words)

abbrev pub ColumnsInRange : List Word → Type 0
ColumnsInRange words = All (λ w. IsInside w) (drop 1 words)

-- the graph that a witness subdivides, by its word
abbrev pub subdivided_of : Word → Option Subdivided
subdivided_of (Number z) = None
subdivided_of (Closing z) = None
subdivided_of Other = None
subdivided_of (Named K5) = Some FiveJoined
subdivided_of (Named K33) = Some ThreeByThree
subdivided_of (Named name) = None

-- the kind of a figure by the word of its job, and that of a witness by one word more
abbrev pub kind_by : Word → Word → Option Kind
kind_by (Number z) next = None
kind_by (Closing z) next = None
kind_by Other next = None
kind_by (Named Shift) next = Some (Grid ByShift)
kind_by (Named Schnyder) next = Some (Grid BySchnyder)
kind_by (Named Convex) next = Some (Grid ByConvex)
kind_by (Named Bars) next = Some BarKind
kind_by (Named Rect) next = Some RectKind
kind_by (Named Witness) next = option_map (λ k. WitnessKind k) (subdivided_of next)
kind_by (Named name) next = None

abbrev pub kind_of : List Word → Option Kind
kind_of words = kind_by (word_at words 2) (word_at words 3)

-- `branch` and the number of each branch, and then `path` and some numbers
abbrev pub row_name : ℕ → Name
row_name place = if place == 1 then Branch else Path

abbrev pub is_row_length : Subdivided → ℕ → ℕ → Bool
is_row_length kind place len = if place == 1 then len == branch_count kind + 1 else nat_lt 1 len

-- a word is the line of a graph, though perhaps of one with too many vertices
abbrev pub is_graph_shaped : Option G6Fault → Bool
is_graph_shaped None = true
is_graph_shaped (Some (TooMany n)) = true
is_graph_shaped (Some fault) = false

-- what stands behind the word of the job in the first line of a figure: `N`, and for a witness `KIND GRAPH`
abbrev pub IsTail : Option Kind → List ℕ → Type 0
IsTail None line = ⊥
IsTail (Some (Grid job)) line = (length (words_of line) ≡ 4) × IsTrue (is_natural (word_at (words_of line) 3))
IsTail (Some BarKind) line = (length (words_of line) ≡ 4) × IsTrue (is_natural (word_at (words_of line) 3))
IsTail (Some RectKind) line = (length (words_of line) ≡ 4) × IsTrue (is_natural (word_at (words_of line) 3))
IsTail (Some (WitnessKind kind)) line = (length (words_of line) ≡ 5) × IsTrue (is_graph_shaped (line_fault (part_at line 4)))

abbrev pub TailInRange : Option Kind → List ℕ → Type 0
TailInRange None line = Unit {0}
TailInRange (Some (Grid job)) line = (1 ≤ size (word_at (words_of line) 3)) × (size (word_at (words_of line) 3) ≤ 4095)
TailInRange (Some BarKind) line = (1 ≤ size (word_at (words_of line) 3)) × (size (word_at (words_of line) 3) ≤ 4095)
TailInRange (Some RectKind) line = (1 ≤ size (word_at (words_of line) 3)) × (size (word_at (words_of line) 3) ≤ 4095)
TailInRange (Some (WitnessKind kind)) line = line_fault (part_at line 4) ≡ None

-- `figure K JOB N`, or `figure K witness KIND GRAPH`
pub record IsFirstLine (line : List ℕ) : Type 0 where
  pub figure : word_at (words_of line) 0 ≡ Named Figure
  pub number : IsTrue (is_natural (word_at (words_of line) 1))
  pub tail : IsTail (kind_of (words_of line)) line

pub record FirstInRange (line : List ℕ) : Type 0 where
  pub number_least : 1 ≤ size (word_at (words_of line) 1)
  pub number_most : size (word_at (words_of line) 1) ≤ 16777216
  pub tail : TailInRange (kind_of (words_of line)) line

-- how many lines of vertices, or of branches and paths, a first line announces
abbrev pub rows_due : Kind → List Word → ℕ
rows_due (Grid job) words = size (word_at words 3)
rows_due BarKind words = size (word_at words 3)
rows_due RectKind words = size (word_at words 3)
rows_due (WitnessKind kind) words = length (pairs_of kind) + 1

-- the vertex that a number from 1 to 65535 names, from 0
abbrev pub vertex_of : Word → ℕ
vertex_of word = min 65535 (size word - 1)

-- a number from -1048576 to 1048576
abbrev pub signed_value : Signed → ℤ
signed_value z = if z.negative then neg_ℤ (pos (min 1048576 z.size)) else pos (min 1048576 z.size)

abbrev pub integer_of : Word → ℤ
integer_of (Number z) = signed_value z
integer_of (Closing z) = signed_value z
integer_of (Named name) = pos 0
integer_of Other = pos 0
