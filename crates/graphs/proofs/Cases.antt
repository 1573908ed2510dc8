-- Worked cases: the edges of two graphs by their bits.
use Rattle.std.proofs.Common.{◌≡◌, [], ◌∷◌, refl}
use Rattle.graphs.specs.Bits.{pair_place, has_bit, is_set, pairs, edges_of}

-- K3,3 is the line EFz_: the bits 000111 111011 100 and three zeros
bipartite : edges_of 6 (70 ∷ 122 ∷ 95 ∷ []) ≡ (0, 3) ∷ (0, 4) ∷ (0, 5) ∷ (1, 3) ∷ (1, 4) ∷ (1, 5) ∷ (2, 3) ∷ (2, 4) ∷ (2, 5) ∷ []
unfolding edges_of pairs is_set has_bit pair_place
bipartite = refl

-- the cycle 0 1 2 3 is the line Cl
cycle : edges_of 4 (108 ∷ []) ≡ (0, 1) ∷ (0, 3) ∷ (1, 2) ∷ (2, 3) ∷ []
unfolding edges_of pairs is_set has_bit pair_place
cycle = refl
