-- Lists that a structure of links holds.
use Rattle.std.specs.Prelude.{ℕ, ◌≡◌, List, ◌∷◌}
use Rattle.chained_lists.specs.Chains.{put, AreLinked}
use Rattle.chained_lists.specs.declared.ChainedLists.{ChainedLists}

-- the lists that links stand for
abbrev pub Holds : ChainedLists → (ℕ → List ℕ) → Type 0
Holds chains lists = AreLinked chains.next.items chains.first.items chains.last.items lists

-- links stand for these lists without the first number of one, which was x
abbrev pub IsPopped : ChainedLists → (ℕ → List ℕ) → ℕ → ℕ → Type 0
IsPopped chains lists p x = (rest : List ℕ) × ((lists p ≡ x ∷ rest) × Holds chains (put p rest lists))

-- a list begins with x
abbrev pub BeginsWith : List ℕ → ℕ → Type 0
BeginsWith xs x = (rest : List ℕ) × (xs ≡ x ∷ rest)
