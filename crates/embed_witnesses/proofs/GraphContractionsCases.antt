-- The definitions, run on worked cases: a wheel with the hub 0 and the rim 1, 2, 3, 4.
use Rattle.std.proofs.Common.{◌≡◌, [], ◌∷◌, refl}
use Rattle.graphs.specs.Graphs.{EdgeGraph}
use Rattle.graphs.specs.Bits.{pairs}
use Rattle.conn_parts.specs.GraphLists.{graph_lists}
use Rattle.embed_witnesses.specs.ContractedEdges.{contraction}

abbrev wheel : EdgeGraph
wheel = record { n = 5; edges = (0, 1) ∷ (0, 2) ∷ (0, 3) ∷ (0, 4) ∷ (1, 2) ∷ (1, 4) ∷ (2, 3) ∷ (3, 4) ∷ [] }

-- with a spoke contracted, what were 2 and 4 are split by two
spoke : graph_lists (contraction wheel 0 1) ≡ (1 ∷ 2 ∷ 3 ∷ []) ∷ (0 ∷ 2 ∷ []) ∷ (0 ∷ 1 ∷ 3 ∷ []) ∷ (0 ∷ 2 ∷ []) ∷ []
unfolding pairs
spoke = refl

-- with an edge of the rim contracted, all four are adjacent
rim : graph_lists (contraction wheel 1 2) ≡ (1 ∷ 2 ∷ 3 ∷ []) ∷ (0 ∷ 2 ∷ 3 ∷ []) ∷ (0 ∷ 1 ∷ 3 ∷ []) ∷ (0 ∷ 1 ∷ 2 ∷ []) ∷ []
unfolding pairs
rim = refl
