-- Marks on the numbers below k, as a list.
use Rattle.std.specs.Prelude.{ℕ, ◌<◌, ◌≡◌, Bool, true, false, List, length, slice_index_or}
use Rattle.classes.specs.Classes.{image}

-- whether i is marked
abbrev pub mark : List Bool → ℕ → Bool
mark marked i = slice_index_or marked i false

-- the image of a marked number is marked
abbrev pub KeepsMarks : List ℕ → List Bool → Type 0
KeepsMarks images marked = (i : ℕ) → i < length images → mark marked i ≡ true → mark marked (image images i) ≡ true
