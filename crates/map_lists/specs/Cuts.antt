-- A list cut into consecutive pieces, by the places where they end.
use Rattle.std.specs.Prelude.{ℕ, ◌+◌, ◌≤◌, ◌≡◌, List, [], ◌∷◌, ◌++◌, length, slice_range}

-- the pieces of a list, the first of which begins at `from`
abbrev pub cut : {A : Type 0} → ℕ → List ℕ → List A → List (List A)
cut from [] entries = []
cut from (end ∷ ends) entries = slice_range entries from end ∷ cut end ends entries

-- each piece ends no earlier than it begins, and the last one ends where the list does
abbrev pub AreCuts : ℕ → List ℕ → ℕ → Type 0
AreCuts from [] total = from ≡ total
AreCuts from (end ∷ ends) total = (from ≤ end) × AreCuts end ends total

-- the entries of lists, list after list
abbrev pub joined : {A : Type 0} → List (List A) → List A
joined [] = []
joined (us ∷ lists) = us ++ joined lists

-- for each of some lists the place behind its last entry, where they are joined in order from `from` on
abbrev pub ends_from : {A : Type 0} → ℕ → List (List A) → List ℕ
ends_from from [] = []
ends_from from (us ∷ lists) = (from + length us) ∷ ends_from (from + length us) lists
