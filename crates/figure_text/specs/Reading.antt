-- The reading of the text of figures: closed lines one after another, each with the shape that is due.
use Rattle.std.specs.Prelude.{ℕ, ◌+◌, ◌<◌, ◌≡◌, ◌≢◌, Bool, ◌||◌, IsTrue, bytes_eq, List, [], ◌∷◌, ◌++◌, length, take, drop, map, flat_map, slice_index_or, All, codes}
use Rattle.pg_plane.specs.declared.grid_points.Point.{Point}
use Rattle.figure_text.specs.declared.line_words.Word.{Word}
use Rattle.figure_text.specs.declared.line_shapes.Kind.{Kind}
use Rattle.figure_text.specs.declared.line_shapes.Judged.{Judged}
use Rattle.figure_text.specs.declared.line_shapes.Judged.TheVariants.{Bad, Limit as BeyondLimit, Good}
use Rattle.figure_text.specs.declared.fault.TextFault.{TextFault}
use Rattle.figure_text.specs.declared.fault.TextFault.TheVariants.{BadLine, EndInFigure, Limit, NoMemory}
use Rattle.figure_text.specs.Words.{words_of, word_at}
use Rattle.figure_text.specs.Lines.{is_natural, vertex_of, integer_of, IsVertex}
use Rattle.figure_text.specs.Pieces.{pieces, front_length, Fits, IsWithin, Along, is_long}

-- a line without the byte 10 that closes it
abbrev pub IsPlain : List ℕ → Type 0
IsPlain line = All (λ b. b ≢ 10) line

-- lines, each closed by byte 10
abbrev pub closed : List (List ℕ) → List ℕ
closed lines = flat_map (λ line. line ++ 10 ∷ []) lines

-- a line is closed at the front of a text, and this is left behind it
pub record IsLine (text line rest : List ℕ) : Type 0 where
  pub parts : text ≡ line ++ 10 ∷ rest
  pub plain : IsPlain line

-- what a line is worth, by its shape and the ranges of its numbers
abbrev pub Judges : Type 0 → Type 0 → Judged → Type 0
Judges shape range Bad = ¬ shape
Judges shape range BeyondLimit = shape × ¬ range
Judges shape range Good = shape × range

-- the shape of the line of a vertex, or of one of a witness
pub record IsRow (kind : Kind) (place : ℕ) (words : List Word) : Type 0 where
  pub front : Along (Fits place) (pieces kind) words
  pub long : IsTrue (is_long kind place (length words))
  pub vertices : All (λ w. IsTrue (is_natural w)) (drop (front_length kind) words)

-- the numbers of the line of a vertex, or of one of a witness, are within their ranges
pub record RowInRange (kind : Kind) (words : List Word) : Type 0 where
  pub front : Along IsWithin (pieces kind) words
  pub vertices : All (λ w. IsVertex w) (drop (front_length kind) words)

-- the text begins with the words and a space
abbrev pub begins : List ℕ → List ℕ → Bool
begins line word = bytes_eq (take (length word) line) word

-- a note: what other jobs write
abbrev pub is_note : List ℕ → Bool
is_note line =
    begins line (codes "count ") || begins line (codes "refused ") || begins line (codes "verdict ") || begins line (codes "end ")
    || begins line (codes "stop ")

-- a line that is the next vertex's, within its ranges
abbrev pub IsGoodRow : Kind → ℕ → List ℕ → Type 0
IsGoodRow kind place line = IsRow kind place (words_of line) × RowInRange kind (words_of line)

-- Closed lines at the front of a text, each the line of the next vertex from vertex 1 on, and what is left.
pub record Rows (kind : Kind) (text : List ℕ) (lines : List (List ℕ)) (rest : List ℕ) : Type 0 where
  pub parts : text ≡ closed lines ++ rest
  pub plain : All IsPlain lines
  pub good : (i : ℕ) → i < length lines → IsGoodRow kind (i + 1) (slice_index_or lines i [])

-- The text begins with fewer than n good lines of vertices, closed one after another, and goes on with `rest`: a line of the n is still due there.
pub record StopsAt (kind : Kind) (n : ℕ) (text : List ℕ) (lines : List (List ℕ)) (rest : List ℕ) : Type 0 where
  pub rows : Rows kind text lines rest
  pub few : length lines < n

-- the point that the line of a vertex gives
abbrev pub point_of : List Word → Point
point_of words = record { x = integer_of (word_at words 2); y = integer_of (word_at words 3) }

-- the words from number n on, as vertices
abbrev pub vertices_from : ℕ → List Word → List ℕ
vertices_from n words = map vertex_of (drop n words)

-- a kind of line, of each of some lines
abbrev pub of_lines : {A : Type 0} → (List Word → A) → List (List ℕ) → List A
of_lines value lines = map (λ line. value (words_of line)) lines

-- The n lines behind the first line `line` of a figure do not all come: one has another shape, or a number outside its
-- range, or the text ends before it is closed.
abbrev pub RowsFail : Kind → ℕ → List ℕ → ℕ → TextFault → Type 0
RowsFail kind n text first (BadLine k) =
    (lines : List (List ℕ)) × (line : List ℕ) × (rest : List ℕ) × StopsAt kind n text lines (line ++ 10 ∷ rest) × IsPlain line
    × (¬ IsRow kind (length lines + 1) (words_of line)) × (k ≡ first + 1 + length lines)
RowsFail kind n text first (Limit k) =
    (lines : List (List ℕ)) × (line : List ℕ) × (rest : List ℕ) × StopsAt kind n text lines (line ++ 10 ∷ rest) × IsPlain line
    × IsRow kind (length lines + 1) (words_of line) × (¬ RowInRange kind (words_of line)) × (k ≡ first + 1 + length lines)
RowsFail kind n text first (EndInFigure k) =
    (lines : List (List ℕ)) × (rest : List ℕ) × StopsAt kind n text lines rest × IsPlain rest × (k ≡ first)
RowsFail kind n text first NoMemory = Unit {0}
