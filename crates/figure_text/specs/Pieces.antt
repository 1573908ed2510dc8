-- What stands before the neighbours in the line of a vertex: one description for each kind of figure.
use Rattle.std.specs.Prelude.{ℕ, ◌≡◌, ◌<◌, Bool, true, IsTrue, List, [], ◌∷◌, length, slice_index_or}
use Rattle.figure_text.specs.declared.line_shapes.Kind.{Kind}
use Rattle.figure_text.specs.declared.line_shapes.Kind.TheVariants.{Grid, Bars, Rects, Witness}
use Rattle.figure_text.specs.declared.front_pieces.Piece.{Piece}
use Rattle.figure_text.specs.declared.front_pieces.Piece.TheVariants.{Place, Literal, Row, Value, Last}
use Rattle.figure_text.specs.declared.line_words.Word.{Word}
use Rattle.figure_text.specs.declared.line_words.Word.TheVariants.{Named}
use Rattle.figure_text.specs.declared.line_words.Name.TheVariants.{At, X, Y}
use Rattle.figure_text.specs.Words.{word_at}
use Rattle.figure_text.specs.Lines.{size, is_natural, is_number, is_closing, row_name, is_row_length, IsInside}

-- `V at X Y:`, `V y Y x A B:` and `V x A B y C D:`
abbrev pub grid_front : List Piece
grid_front = Place ∷ Literal At ∷ Value ∷ Last ∷ []

abbrev pub bar_front : List Piece
bar_front = Place ∷ Literal Y ∷ Value ∷ Literal X ∷ Value ∷ Last ∷ []

abbrev pub rect_front : List Piece
rect_front = Place ∷ Literal X ∷ Value ∷ Value ∷ Literal Y ∷ Value ∷ Last ∷ []

-- `branch` or `path`, in the lines of a witness
abbrev pub row_front : List Piece
row_front = Row ∷ []

-- the words before the vertices of a line
abbrev pub pieces : Kind → List Piece
pieces (Grid job) = grid_front
pieces Bars = bar_front
pieces Rects = rect_front
pieces (Witness kind) = row_front

-- how many words stand before the vertices of a line
abbrev pub front_length : Kind → ℕ
front_length kind = length (pieces kind)

-- a word of the line at this place has the shape of a piece
abbrev pub Fits : ℕ → Piece → Word → Type 0
Fits place Place word = IsTrue (is_natural word) × (size word ≡ place)
Fits place (Literal name) word = word ≡ Named name
Fits place Row word = word ≡ Named (row_name place)
Fits place Value word = IsTrue (is_number word)
Fits place Last word = IsTrue (is_closing word)

-- a number of a vertex is within the range of coordinates
abbrev pub IsWithin : Piece → Word → Type 0
IsWithin Place word = Unit {0}
IsWithin (Literal name) word = Unit {0}
IsWithin Row word = Unit {0}
IsWithin Value word = IsInside word
IsWithin Last word = IsInside word

-- each of the first words stands so to its piece
abbrev pub Along : (Piece → Word → Type 0) → List Piece → List Word → Type 0
Along Stands pieces words = (i : ℕ) → i < length pieces → Stands (slice_index_or pieces i Row) (word_at words i)

-- the line at this place may have `len` words
abbrev pub is_long : Kind → ℕ → ℕ → Bool
is_long (Grid job) place len = true
is_long Bars place len = true
is_long Rects place len = true
is_long (Witness kind) place len = is_row_length kind place len
