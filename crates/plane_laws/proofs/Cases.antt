-- The definitions that the laws cite, run on a small map.
use Rattle.std.proofs.Common.{◌≡◌, ◌+◌, eqb, not, [], ◌∷◌, refl}
use Rattle.map_lists.specs.Lists.{Lists}
use Rattle.plane_laws.specs.Kept.{with_kept}
use Rattle.plane_laws.specs.WithEdge.{with_edge_after}
use Rattle.plane_laws.specs.Smoothed.{smoothed}

-- the tetrahedron
abbrev tetrahedron : Lists
tetrahedron = (1 ∷ 3 ∷ 2 ∷ []) ∷ (0 ∷ 2 ∷ 3 ∷ []) ∷ (0 ∷ 3 ∷ 1 ∷ []) ∷ (0 ∷ 1 ∷ 2 ∷ []) ∷ []

-- without the edges 0-3 and 1-2 it is a square
square_kept : with_kept (λ v u. not (eqb (v + u) 3)) tetrahedron ≡ (1 ∷ 2 ∷ []) ∷ (0 ∷ 3 ∷ []) ∷ (0 ∷ 3 ∷ []) ∷ (1 ∷ 2 ∷ []) ∷ []
square_kept = refl

-- a path of three vertices with its middle taken out
path_smoothed : smoothed ((1 ∷ []) ∷ (0 ∷ 2 ∷ []) ∷ (1 ∷ []) ∷ []) 1 0 2 ≡ (2 ∷ []) ∷ [] ∷ (0 ∷ []) ∷ []
path_smoothed = refl

-- a square with a diagonal
diagonal : with_edge_after ((1 ∷ 3 ∷ []) ∷ (2 ∷ 0 ∷ []) ∷ (3 ∷ 1 ∷ []) ∷ (0 ∷ 2 ∷ []) ∷ []) 0 1 2 3 ≡ (1 ∷ 2 ∷ 3 ∷ []) ∷ (2 ∷ 0 ∷ []) ∷ (3 ∷ 0 ∷ 1 ∷ []) ∷ (0 ∷ 2 ∷ []) ∷ []
diagonal = refl
