-- The lists of edited maps, as they were worked out by hand.
use Rattle.std.proofs.Common.{◌≡◌, true, false, [], ◌∷◌, Some, None, refl}
use Rattle.map_lists.specs.Lists.{Lists}
use Rattle.map_theory.specs.Edges.{without_edge}
use Rattle.half_edges.specs.Edges.{corner_place, with_edge}
use Rattle.half_edges.specs.Map.{AreMapFacts}
use Rattle.half_edges.specs.Induced.{induced_lists}
use Rattle.half_edges.specs.declared.edge_edits.Corner.TheVariants.{After}

k4 : Lists
k4 = (1 ∷ 2 ∷ 3 ∷ []) ∷ (0 ∷ 3 ∷ 2 ∷ []) ∷ (0 ∷ 1 ∷ 3 ∷ []) ∷ (0 ∷ 2 ∷ 1 ∷ []) ∷ []

-- a square 0, 1, 2, 3 with the diagonal from 0 to 2
square : Lists
square = (1 ∷ 3 ∷ 2 ∷ []) ∷ (0 ∷ 2 ∷ []) ∷ (3 ∷ 1 ∷ 0 ∷ []) ∷ (0 ∷ 2 ∷ []) ∷ []

-- the other diagonal, after these two darts
other_diagonal : Lists
other_diagonal = (1 ∷ 3 ∷ 2 ∷ []) ∷ (0 ∷ 2 ∷ 3 ∷ []) ∷ (3 ∷ 1 ∷ 0 ∷ []) ∷ (0 ∷ 1 ∷ 2 ∷ []) ∷ []

square-with_edge : with_edge square 1 (Some 2) 3 (Some 0) ≡ other_diagonal
unfolding square other_diagonal
square-with_edge = refl

square-without_edge : without_edge other_diagonal 1 3 ≡ square
unfolding square other_diagonal
square-without_edge = refl

-- an edge between two isolated vertices
isolated-with_edge : with_edge ([] ∷ [] ∷ []) 0 None 1 None ≡ (1 ∷ []) ∷ (0 ∷ []) ∷ []
isolated-with_edge = refl

-- the place of a corner at a dart from 1 to 2 under the id 1
place-after : (known : AreMapFacts square 1 (None ∷ Some (1, 2) ∷ [])) → corner_place (record { lists = square; spare = 1; ids = None ∷ Some (1, 2) ∷ []; known = known }) (After (record { 0 = 1 })) ≡ Some (1, Some 2)
unfolding square
place-after known = refl

k4-induced : induced_lists (true ∷ false ∷ true ∷ true ∷ []) k4 ≡ (1 ∷ 2 ∷ []) ∷ (0 ∷ 2 ∷ []) ∷ (0 ∷ 1 ∷ []) ∷ []
unfolding k4
k4-induced = refl
