-- Numbers at the end of a line that are written plainly, and what is taken of them.
use Rattle.std.specs.Prelude.{ℕ, ℤ, false, ◌+◌, ◌<◌, ◌≡◌, ◌≤◌, IsTrue, List, ◌∷◌, ◌++◌, length, slice_index, slice_index_or}
use Rattle.figure_text.specs.declared.line_words.Digits.{Digits}
use Rattle.figure_text.specs.declared.line_words.Word.{Word}
use Rattle.figure_text.specs.declared.line_words.Word.TheVariants.{Number, Closing}
use Rattle.figure_text.specs.declared.line_words.Next.{Next}
use Rattle.figure_text.specs.declared.front_pieces.Piece.{Piece}
use Rattle.figure_text.specs.declared.front_pieces.Piece.TheVariants.{Place, Literal, Row, Value, Last}
use Rattle.figure_text.specs.declared.vertex_fronts.LineFront.{LineFront}
use Rattle.figure_text.specs.Words.{word_at, words_left, words_of}
use Rattle.figure_text.specs.Lines.{size, is_natural, is_number, integer_of, signed_value, IsInside, IsVertex}
use Rattle.figure_text.specs.Pieces.{Fits, IsWithin, Along}

-- the words from a place on begin with this number
pub record IsPlainAt (line : List ℕ) (at : ℕ) (digits : Digits) : Type 0 where
  pub words : words_left line at ≡ Number (record { negative = false; size = digits.value }) ∷ words_left line (digits.end + 1)
  pub order : at ≤ digits.end
  pub within : digits.end ≤ length line

-- the words from a place on begin with this number before a colon
pub record IsClosingAt (line : List ℕ) (at : ℕ) (digits : Digits) : Type 0 where
  pub words : words_left line at ≡ Closing (record { negative = false; size = digits.value }) ∷ words_left line (digits.end + 1)
  pub order : at ≤ digits.end
  pub within : digits.end ≤ length line

-- the words from a place on begin with this number, which is that of a vertex: from 1 to 65535
pub record IsVertexAt (line : List ℕ) (at : ℕ) (digits : Digits) : Type 0 where
  pub plain : IsPlainAt line at digits
  pub least : 1 ≤ digits.value
  pub most : digits.value ≤ 65535

-- a word that is the number of a vertex
abbrev pub IsNeighbour : Word → Type 0
IsNeighbour word = IsTrue (is_natural word) × IsVertex word

-- the words from a place on begin with this number, which is a coordinate: at most 2^20
pub record IsCoordinateAt (line : List ℕ) (at : ℕ) (digits : Digits) : Type 0 where
  pub plain : IsPlainAt line at digits
  pub most : digits.value ≤ 1048576

-- a word that is a number within the range of coordinates
abbrev pub IsCoordinateWord : Word → Type 0
IsCoordinateWord word = IsTrue (is_number word) × IsInside word

-- a natural number as an integer
abbrev pub plain_value : ℕ → ℤ
plain_value n = signed_value (record { negative = false; size = n })

-- the words of this piece have a number that is kept for the vertex
abbrev pub IsHeld : Piece → Type 0
IsHeld Place = ⊥
IsHeld (Literal name) = ⊥
IsHeld Row = ⊥
IsHeld Value = Unit {0}
IsHeld Last = Unit {0}

-- a word that is plainly written has this size, where a piece holds a number
abbrev pub IsSize : Piece → Word → ℕ → Type 0
IsSize Place word n = Unit {0}
IsSize (Literal name) word n = Unit {0}
IsSize Row word n = Unit {0}
IsSize Value word n = integer_of word ≡ plain_value n
IsSize Last word n = integer_of word ≡ plain_value n

-- the words from a place on begin with this one, which is a good piece of a front
pub record IsPieceAt (piece : Piece) (place : ℕ) (line : List ℕ) (at : ℕ) (next : Next) : Type 0 where
  pub words : words_left line at ≡ next.word ∷ words_left line (next.end + 1)
  pub near : next.end ≤ length line + 2
  pub fits : Fits place piece next.word
  pub within : IsWithin piece next.word
  pub size : IsSize piece next.word (size next.word)

-- The first words of a line are good pieces, one by one, with these numbers; the others stand from a place on.
pub record IsFrontOf (pieces : List Piece) (place : ℕ) (line : List ℕ) (front : LineFront) : Type 0 where
  pub words : List Word
  pub parts : words ++ words_left line front.end ≡ words_of line
  pub long : length words ≡ length pieces
  pub fits : Along (Fits place) pieces words
  pub within : Along IsWithin pieces words
  pub room : length front.numbers ≡ 7
  pub sizes : (i : ℕ) → i < length pieces → IsSize (slice_index_or pieces i Row) (word_at words i) (slice_index front.numbers i)
