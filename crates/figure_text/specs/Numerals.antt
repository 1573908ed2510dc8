-- The texts of small numbers behind a space, at the end of seven bytes.
use Rattle.std.specs.Prelude.{ℕ, ◌≡◌, ◌-◌, ◌<◌, ◌≤◌, List, ◌∷◌, length, drop, decimal, slice_index_or}
use Rattle.figure_text.specs.declared.number_texts.Numeral.{Numeral}

-- the text of a number behind a space
pub record IsNumeral (number : ℕ) (text : Numeral) : Type 0 where
  pub seven : length text.bytes ≡ 7
  pub within : text.length ≤ 7
  pub spaced : drop (7 - text.length) text.bytes ≡ 32 ∷ decimal number

-- each is the text of its place
abbrev pub AreNumerals : List Numeral → Type 0
AreNumerals texts = (number : ℕ) (none : Numeral) → number < length texts → IsNumeral number (slice_index_or texts number none)
