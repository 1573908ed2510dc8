-- Orders of the tetrahedron's vertices that wrong bodies would give: none is as a wood has them.
use Rattle.std.proofs.Common.{ℕ, List, [], ◌∷◌, arith}
use Rattle.map_lists.specs.Lists.{Lists}
use Rattle.map_theory.specs.Maps.{entry_after}
use Rattle.wood_runs.specs.Parents.{Colour}
use Rattle.wood_laws.specs.Arranged.{IsArranged}

abbrev tetrahedron : Lists
tetrahedron = (1 ∷ 2 ∷ 3 ∷ []) ∷ (0 ∷ 3 ∷ 2 ∷ []) ∷ (0 ∷ 1 ∷ 3 ∷ []) ∷ (0 ∷ 2 ∷ 1 ∷ []) ∷ []

-- root three comes first
drawn_from_the_last : (parent : Colour → ℕ → ℕ) (rest : List ℕ) → IsArranged tetrahedron (0, 1) parent (3 ∷ rest) → ⊥
drawn_from_the_last parent rest a = omega (arith, a.first)

-- the children of root three come after it
children_of_colour_three_for_one : (parent : Colour → ℕ → ℕ) → IsArranged tetrahedron (0, 1) parent (1 ∷ 0 ∷ 3 ∷ 2 ∷ []) → ⊥
unfolding entry_after
children_of_colour_three_for_one parent a = omega (arith, a.last)

-- root three comes right after root one
root_three_after_root_one : (parent : Colour → ℕ → ℕ) → IsArranged tetrahedron (0, 1) parent (1 ∷ 3 ∷ 0 ∷ 2 ∷ []) → ⊥
root_three_after_root_one parent a = omega (arith, a.second)
