-- Searches as wrong bodies would leave them.
use Rattle.std.proofs.Common.{ℕ, List, [], ◌∷◌, refl, arith}
use Rattle.graph_search.specs.Lows.{AreLows}
use Rattle.graph_search.specs.UnderWay.{IsSearching}

-- of the path 0, 1, 2 the low point of vertex 1 by its last neighbour alone
number_of_a_neighbour_left : (zero_low two_low : ℕ) → AreLows ((1 ∷ []) ∷ (0 ∷ 2 ∷ []) ∷ (1 ∷ []) ∷ []) (0 ∷ 1 ∷ 2 ∷ []) (3 ∷ 3 ∷ 3 ∷ []) (zero_low ∷ 2 ∷ two_low ∷ []) → ⊥
number_of_a_neighbour_left zero_low two_low lows =
    omega (arith, (lows.at 1 (omega arith)).least 0 (record { w = 1; within = record { from = omega arith; before = omega arith }; dart = (omega arith, (0, omega arith, refl)) }))

-- of one edge, whose second vertex was seen, that vertex is left at once
seen_vertex_left_at_once : (parent cursor : List ℕ) → IsSearching ((1 ∷ []) ∷ (0 ∷ []) ∷ []) (0 ∷ 1 ∷ []) (0 ∷ 1 ∷ []) (0 ∷ 0 ∷ []) parent cursor 2 0 → ⊥
seen_vertex_left_at_once parent cursor s =
    omega (arith, s.state.top_most 1 (omega arith) (omega arith) refl)
