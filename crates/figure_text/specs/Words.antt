-- The words of a line, and the numbers among them.
use Rattle.std.specs.Prelude.{ℕ, ◌+◌, ◌-◌, ◌*◌, Bool, true, false, not, ◌&&◌, ◌==◌, nat_lt, min, if◌then◌else◌, List, [], ◌∷◌, ◌++◌, ◌≡◌, length, take, drop, map, slice_index, slice_index_or, codes, bytes_eq, Option, Some, None, option_map}
use Rattle.std.specs.List.{slice_split}
use Rattle.decimals.specs.Numbers.{decimal_from, canonical}
use Rattle.figure_text.specs.declared.line_words.Signed.{Signed}
use Rattle.figure_text.specs.declared.line_words.Word.{Word}
use Rattle.figure_text.specs.declared.line_words.Word.TheVariants.{Number, Closing, Named, Other}
use Rattle.figure_text.specs.declared.line_words.Name.TheVariants.{Figure, Shift, Schnyder, Convex, Bars, Rect, At, Y, X, Columns, Witness, K5, K33, Branch, Path}

-- what numbers beyond all ranges are taken for
abbrev pub far : ℕ
far = 100000000

-- the number that a word is, if it is one
abbrev pub number_of : List ℕ → Option ℕ
number_of word = if canonical word then option_map (min far) (decimal_from 0 word) else None

-- a number without a minus
abbrev pub plus : Option ℕ → Option Signed
plus None = None
plus (Some n) = Some (record { negative = false; size = n })

-- a number behind a minus, which is not 0
abbrev pub minus : Option ℕ → Option Signed
minus None = None
minus (Some n) = if n == 0 then None else Some (record { negative = true; size = n })

-- the signed number that a word is, if it is one
abbrev pub signed_of : List ℕ → Option Signed
signed_of [] = None
signed_of (b ∷ bytes) = if b == 45 then minus (number_of bytes) else plus (number_of (b ∷ bytes))

-- a signed number, or one before a colon
abbrev pub numeral_word : Option Signed → Option Signed → Word
numeral_word (Some z) closed = Number z
numeral_word None (Some z) = Closing z
numeral_word None None = Other

-- the signed number before the colon with which a word ends
abbrev pub closing_of : List ℕ → Option Signed
closing_of word = if slice_index word (length word - 1) == 58 then signed_of (take (length word - 1) word) else None

-- what a word is
abbrev pub word_of : List ℕ → Word
word_of word =
    if bytes_eq word (codes "figure") then Named Figure
    else if bytes_eq word (codes "shift") then Named Shift
    else if bytes_eq word (codes "schnyder") then Named Schnyder
    else if bytes_eq word (codes "convex") then Named Convex
    else if bytes_eq word (codes "bars") then Named Bars
    else if bytes_eq word (codes "rect") then Named Rect
    else if bytes_eq word (codes "at") then Named At
    else if bytes_eq word (codes "y") then Named Y
    else if bytes_eq word (codes "x") then Named X
    else if bytes_eq word (codes "columns") then Named Columns
    else if bytes_eq word (codes "witness") then Named Witness
    else if bytes_eq word (codes "K5") then Named K5
    else if bytes_eq word (codes "K33") then Named K33
    else if bytes_eq word (codes "branch") then Named Branch
    else if bytes_eq word (codes "path") then Named Path
    else numeral_word (signed_of word) (closing_of word)

-- what stands between the spaces of a line
abbrev pub parts_of : List ℕ → List (List ℕ)
parts_of line = slice_split (λ b. b == 32) line

-- part number i of a line
abbrev pub part_at : List ℕ → ℕ → List ℕ
part_at line i = slice_index_or (parts_of line) i []

-- the words of a line
abbrev pub words_of : List ℕ → List Word
words_of line = map word_of (parts_of line)

-- word number i
abbrev pub word_at : List Word → ℕ → Word
word_at words i = slice_index_or words i Other

-- a word is neither a number nor a word of figures
pub record HasOther (words : List Word) : Type 0 where
  pub front : List Word
  pub rest : List Word
  pub is : words ≡ front ++ Other ∷ rest

-- the words from a place on
abbrev pub words_left : List ℕ → ℕ → List Word
words_left line at = if nat_lt (length line) at then [] else words_of (drop at line)
