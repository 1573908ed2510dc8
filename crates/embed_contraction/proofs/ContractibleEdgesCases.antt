-- The definitions, run on worked cases: a square with a diagonal.
use Rattle.std.proofs.Common.{◌≡◌, ℕ, [], ◌∷◌, Contains, refl, arith}
use Rattle.std.proofs.lemmas.Bool.{false≢true}
use Rattle.map_lists.specs.Lists.{Lists}
use Rattle.plane_peeling.proofs.Rings.{each_of_two}
use Rattle.embed_contraction.specs.Linked.{without_vertices, IsThreeLinked}

abbrev square : Lists
square = (1 ∷ 2 ∷ 3 ∷ []) ∷ (0 ∷ 2 ∷ []) ∷ (0 ∷ 1 ∷ 3 ∷ []) ∷ (0 ∷ 2 ∷ []) ∷ []

-- without the ends of the diagonal no edge is left
none_left : without_vertices (0 ∷ 2 ∷ []) square ≡ [] ∷ [] ∷ [] ∷ [] ∷ []
none_left = refl

-- so these part the others
separated : ¬ IsThreeLinked square
separated linked =
    let off : (z : ℕ) → (0 ≡ z → ⊥) → (2 ≡ z → ⊥) → ¬ Contains (0 ∷ 2 ∷ []) z = λ z n n' c. each_of_two (λ w. w ≡ z → ⊥) 0 2 n n' z c refl in
    false≢true (linked 0 2 1 3 (0, (omega arith, (0, omega arith, refl))) (0, (omega arith, (0, omega arith, refl))) (off 1 (λ e. omega arith) (λ e. omega arith)) (off 3 (λ e. omega arith) (λ e. omega arith)))
