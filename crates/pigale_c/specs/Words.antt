-- The words of a text, in which a space stands between each two.
use Rattle.std.specs.Prelude.{ℕ, ◌==◌, ◌≡◌, ◌⊎◌, if◌then◌else◌, List, [], ◌∷◌, ◌++◌, Contains, IsUtf8}

-- the words of a text of which this was read of the first word
abbrev pub words_from : List ℕ → List ℕ → List (List ℕ)
words_from word [] = word ∷ []
words_from word (byte ∷ bytes) = if byte == 32 then word ∷ words_from [] bytes else words_from (word ++ byte ∷ []) bytes

abbrev pub words_in : List ℕ → List (List ℕ)
words_in text = words_from [] text

-- some word is not UTF-8
abbrev pub HasNoText : List (List ℕ) → Type 0
HasNoText words = (word : List ℕ) × Contains words word × ¬ IsUtf8 word

-- these are the words of a text, or none where some word is not UTF-8
abbrev pub GivesWords : List ℕ → List (List ℕ) → Type 0
GivesWords text words = (words ≡ words_in text) ⊎ ((words ≡ []) × HasNoText (words_in text))
