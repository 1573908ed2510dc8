-- The definitions, run on a worked case: in a path 0, 2, 1, 3 the ends 0 and 2 merged.
use Rattle.std.proofs.Common.{◌≡◌, [], ◌∷◌, map, refl}
use Rattle.std.specs.List.{range_with_len}
use Rattle.graphs.specs.Graphs.{EdgeGraph}
use Rattle.graphs.specs.Bits.{pairs}
use Rattle.embed_witnesses.specs.Merged.{merged, old_number}

abbrev path : EdgeGraph
path = record { n = 4; edges = (0, 2) ∷ (1, 2) ∷ (1, 3) ∷ [] }

ends_merged : merged path 0 2 ≡ record { n = 4; edges = (0, 1) ∷ (1, 3) ∷ [] }
unfolding pairs
ends_merged = refl

numbers : map (old_number 4 2) (range_with_len 0 4) ≡ 0 ∷ 1 ∷ 3 ∷ 2 ∷ []
numbers = refl
