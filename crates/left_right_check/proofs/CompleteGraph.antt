-- The complete graph on five vertices: sides that cannot be, in the forest that is a line from 0 to 4.
use Rattle.std.proofs.Common.{◌≡◌, ℕ, zero, suc, true, false, List, [], ◌∷◌, length, get_or, refl, sym, ap₂, subst, ◌∙◌, inl, inr, arith}
use Rattle.graphs.specs.Graphs.{EdgeGraph}
use Rattle.graphs.specs.Bits.{pair_place, has_bit, is_set, pairs, edges_of}
use Rattle.left_right_check.specs.Ties.{ReturnsBy, AreTied, HasNoMap}
use Rattle.left_right_check.proofs.TieLemmas.{forest_by_places, placed_past, alike_by_fork, opposite_by_fork, AreTied-more, HasNoMap-odd, IsPlaced}

abbrev k5 : EdgeGraph
k5 = record { n = 5; edges = (0, 1) ∷ (0, 2) ∷ (0, 3) ∷ (0, 4) ∷ (1, 2) ∷ (1, 3) ∷ (1, 4) ∷ (2, 3) ∷ (2, 4) ∷ (3, 4) ∷ [] }

abbrev parents : List ℕ
parents = 0 ∷ 0 ∷ 1 ∷ 2 ∷ 3 ∷ []

abbrev depths : List ℕ
depths = 0 ∷ 1 ∷ 2 ∷ 3 ∷ 4 ∷ []

abbrev Returns : ℕ → ℕ → ℕ → ℕ → Type 0
Returns = ReturnsBy k5 parents depths

from_two : Returns 2 0 2 0
from_two = record { edge = refl; higher = omega arith; above = record { depths = omega arith; line = refl }; under = record { depths = omega arith; line = refl }; branch = inl (refl, refl); away = λ e. omega arith }

from_three_by_two : Returns 2 3 3 1
from_three_by_two = record { edge = refl; higher = omega arith; above = record { depths = omega arith; line = refl }; under = record { depths = omega arith; line = refl }; branch = inr (λ e. omega arith, refl); away = λ e. omega arith }

from_four_by_two : Returns 2 3 4 1
from_four_by_two = record { edge = refl; higher = omega arith; above = record { depths = omega arith; line = refl }; under = record { depths = omega arith; line = refl }; branch = inr (λ e. omega arith, refl); away = λ e. omega arith }

three_to_none : Returns 3 0 3 0
three_to_none = record { edge = refl; higher = omega arith; above = record { depths = omega arith; line = refl }; under = record { depths = omega arith; line = refl }; branch = inl (refl, refl); away = λ e. omega arith }

three_to_one : Returns 3 1 3 1
three_to_one = record { edge = refl; higher = omega arith; above = record { depths = omega arith; line = refl }; under = record { depths = omega arith; line = refl }; branch = inl (refl, refl); away = λ e. omega arith }

four_to_none : Returns 3 4 4 0
four_to_none = record { edge = refl; higher = omega arith; above = record { depths = omega arith; line = refl }; under = record { depths = omega arith; line = refl }; branch = inr (λ e. omega arith, refl); away = λ e. omega arith }

four_to_one : Returns 3 4 4 1
four_to_one = record { edge = refl; higher = omega arith; above = record { depths = omega arith; line = refl }; under = record { depths = omega arith; line = refl }; branch = inr (λ e. omega arith, refl); away = λ e. omega arith }

four_to_two : Returns 3 4 4 2
four_to_two = record { edge = refl; higher = omega arith; above = record { depths = omega arith; line = refl }; under = record { depths = omega arith; line = refl }; branch = inr (λ e. omega arith, refl); away = λ e. omega arith }

placed : (v : ℕ) → IsPlaced k5 parents depths v
placed zero some = absurd (omega (arith, some))
placed (suc zero) some = (refl, refl)
placed (suc (suc zero)) some = (refl, refl)
placed (suc (suc (suc zero))) some = (refl, refl)
placed (suc (suc (suc (suc zero)))) some = (refl, refl)
placed (suc (suc (suc (suc (suc v))))) some = placed_past k5 parents depths (suc (suc (suc (suc (suc v))))) (omega arith) some

-- the edges from 3 to 1 and from 4 to 2 are on different sides, and each of them is on that of the edge from 4 to 1
apart : AreTied k5 parents depths true 3 1 4 2
apart = opposite_by_fork k5 parents depths 3 1 4 3 1 4 2 4 0 3 1 (λ e. omega arith) three_to_one four_to_two three_to_one four_to_none (omega arith) (omega arith)

alike : AreTied k5 parents depths false 3 1 4 2
alike =
    AreTied-more k5 parents depths false false 3 1 4 1 4 2
    (alike_by_fork k5 parents depths 2 3 0 3 1 4 1 2 0 (λ e. omega arith) from_three_by_two from_four_by_two from_two (omega arith) (omega arith))
    (alike_by_fork k5 parents depths 3 4 0 4 1 4 2 3 0 (λ e. omega arith) four_to_one four_to_two three_to_none (omega arith) (omega arith))

no_map : HasNoMap k5
no_map = HasNoMap-odd k5 parents depths 3 1 4 2 (forest_by_places k5 parents depths placed) apart alike

two_bytes : (xs : List ℕ) (x y : ℕ) → length xs ≡ 2 → get_or xs 0 0 ≡ x → get_or xs 1 0 ≡ y → xs ≡ x ∷ y ∷ []
two_bytes [] x y long first second = absurd (omega (arith, long))
two_bytes (a ∷ []) x y long first second = absurd (omega (arith, long))
two_bytes (a ∷ b ∷ []) x y long first second = ap₂ (λ a b. a ∷ b ∷ []) first second
two_bytes (a ∷ b ∷ c ∷ xs) x y long first second = absurd (omega (arith, long))

all_pairs : edges_of 5 (126 ∷ 123 ∷ []) ≡ k5.edges
unfolding edges_of pairs is_set has_bit pair_place
all_pairs = refl

-- a graph on five vertices whose bytes have all bits
pub k5_by_bytes : (graph : EdgeGraph) (body : List ℕ) → graph.n ≡ 5 → graph.edges ≡ edges_of graph.n body → length body ≡ 2 → get_or body 0 0 ≡ 126 → get_or body 1 0 ≡ 123 → HasNoMap graph
k5_by_bytes graph body five edges long first second =
    let bytes : body ≡ 126 ∷ 123 ∷ [] = two_bytes body 126 123 long first second in
    let all : graph.edges ≡ k5.edges = edges ∙ (ap₂ edges_of five bytes ∙ all_pairs) in
    let same : graph ≡ k5 = ap₂ (λ n edges. record { n = n; edges = edges }) five all in
    subst HasNoMap (sym same) no_map
