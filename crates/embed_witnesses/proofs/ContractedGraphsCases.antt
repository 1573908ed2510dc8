-- The definitions, run on worked cases: edges contracted in a square 0, 1, 2, 3 with the diagonal from 0 to 2.
use Rattle.std.proofs.Common.{◌≡◌, [], ◌∷◌, refl}
use Rattle.graphs.specs.Graphs.{EdgeGraph}
use Rattle.graphs.specs.Bits.{pairs}
use Rattle.embed_witnesses.specs.ContractedEdges.{contracted_among}

abbrev square : EdgeGraph
square = record { n = 4; edges = (0, 1) ∷ (0, 2) ∷ (0, 3) ∷ (1, 2) ∷ (2, 3) ∷ [] }

-- the diagonal: 1 and 3 have both ends for neighbours, and one edge each is left; 3 becomes 2
diagonal : contracted_among square 0 2 (pairs 3) ≡ (0, 1) ∷ (0, 2) ∷ []
unfolding pairs
diagonal = refl

-- a side: 1 leaves, and a triangle is left
side : contracted_among square 0 1 (pairs 3) ≡ (0, 1) ∷ (0, 2) ∷ (1, 2) ∷ []
unfolding pairs
side = refl
