-- The definitions, run on worked cases: the edge of 0 and 2 contracted in a path 0, 2, 1, 3.
use Rattle.std.proofs.Common.{◌≡◌, true, false, [], ◌∷◌, refl}
use Rattle.graphs.specs.Graphs.{EdgeGraph}
use Rattle.embed_contraction.specs.Contracted.{before_left, contracted_edge}

abbrev path : EdgeGraph
path = record { n = 4; edges = (0, 2) ∷ (1, 2) ∷ (1, 3) ∷ [] }

-- 2 leaves, and 3 becomes 2
fallen : before_left 2 2 ≡ 3
fallen = refl

-- 0 has the neighbour of 2
joined : contracted_edge path 0 2 0 1 ≡ true
joined = refl

-- 1 keeps the other, under its new number
kept : contracted_edge path 0 2 1 2 ≡ true
kept = refl

-- 0 and the last are not adjacent
not_joined : contracted_edge path 0 2 0 2 ≡ false
not_joined = refl
