-- The bytes that a run writes: a block for each record, in order, and a last line.
use Rattle.std.specs.Prelude.{ℕ, ◌+◌, List, [], ◌∷◌, ◌++◌, codes, decimal}
use Rattle.map_lists.specs.Lists.{Lists}
use Rattle.map_theory.specs.Maps.{vertex_count, edge_count, face_count, component_count, genus}
use Rattle.refusals.specs.declared.conditions.Refusal.{Refusal}
use Rattle.refusals.specs.declared.conditions.Refusal.TheVariants.{OutOfRange, Loop, Repeated, OneSided, Small, Genus, NotConnected, CutVertex, SeparatingPair, OuterNotQuad, NotTriangle, SeparatingTriangle, NoInner}
use Rattle.planar_code.specs.Reading.{Ending, well, end_in_record, bad_count, too_long}

-- a word, a space and a number
abbrev pub word_and_number : List ℕ → ℕ → List ℕ
word_and_number word n = word ++ 32 ∷ decimal n

-- the line of byte 10
abbrev pub line : List ℕ → List ℕ
line text = text ++ 10 ∷ []

-- the number and name of a condition, and what it says of the record, with vertices numbered from 1
abbrev pub refusal_bytes : Refusal → List ℕ
refusal_bytes (OutOfRange v u) = word_and_number (word_and_number (codes "1 OutOfRange") (v + 1)) (u + 1)
refusal_bytes (Loop v) = word_and_number (codes "2 Loop") (v + 1)
refusal_bytes (Repeated v u) = word_and_number (word_and_number (codes "3 Repeated") (v + 1)) (u + 1)
refusal_bytes (OneSided v u) = word_and_number (word_and_number (codes "4 OneSided") (v + 1)) (u + 1)
refusal_bytes (Small n) = word_and_number (codes "5 Small") n
refusal_bytes (Genus g) = word_and_number (codes "6 Genus") g
refusal_bytes NotConnected = codes "7 NotConnected"
refusal_bytes (CutVertex v) = word_and_number (codes "8 CutVertex") (v.0 + 1)
refusal_bytes (SeparatingPair u v) = word_and_number (word_and_number (codes "9 SeparatingPair") (u.0 + 1)) (v.0 + 1)
refusal_bytes OuterNotQuad = codes "10 OuterNotQuad"
refusal_bytes (NotTriangle v u) = word_and_number (word_and_number (codes "11 NotTriangle") (v.0 + 1)) (u.0 + 1)
refusal_bytes (SeparatingTriangle a b c) =
    word_and_number (word_and_number (word_and_number (codes "12 SeparatingTriangle") (a.0 + 1)) (b.0 + 1)) (c.0 + 1)
refusal_bytes NoInner = codes "13 NoInner"

-- the line that refuses record k for such a condition
unfoldable pub refusal_line : ℕ → Refusal → List ℕ
refusal_line k refusal = line (word_and_number (codes "refused") k ++ 32 ∷ refusal_bytes refusal)

-- the line of the five counts
unfoldable pub counts_line : ℕ → ℕ → ℕ → ℕ → ℕ → ℕ → List ℕ
counts_line k n m f c g =
    line (word_and_number (codes "count") k ++ 32 ∷ word_and_number (codes "n") n ++ 32 ∷ word_and_number (codes "m") m
    ++ 32 ∷ word_and_number (codes "f") f ++ 32 ∷ word_and_number (codes "c") c ++ 32 ∷ word_and_number (codes "genus") g)

-- the count line of a simple map that is record k
abbrev pub count_line : ℕ → Lists → List ℕ
count_line k lists =
    counts_line k (vertex_count lists) (edge_count lists) (face_count lists) (component_count lists) (genus lists)

-- the last line where the input ended well
unfoldable pub end_line : ℕ → ℕ → List ℕ
end_line records refused = line (word_and_number (codes "end records") records ++ 32 ∷ word_and_number (codes "refused") refused)

-- the last line of a run, by the ending of its input
unfoldable pub last_line : ℕ → ℕ → Ending → List ℕ
last_line records refused well = end_line records refused
last_line records refused (end_in_record at) = line (word_and_number (codes "stop EndInRecord") at)
last_line records refused (bad_count at) = line (word_and_number (codes "stop BadCount") at)
last_line records refused too_long = line (codes "stop TooLong")

-- the line of a run whose words are bad
unfoldable pub bad_words_line : List ℕ
bad_words_line = line (codes "stop BadWords")
