-- The generator on small cases, worked out by hand.
use Rattle.std.specs.Prelude.{◌≡◌, [], ◌∷◌, refl}
use Rattle.map_gen.specs.Stacked.{stacking, stacked}

triangle_alone : stacked 3 7 ≡ (1 ∷ 2 ∷ []) ∷ (2 ∷ 0 ∷ []) ∷ (0 ∷ 1 ∷ []) ∷ []
unfolding stacking
triangle_alone = refl

tetrahedron : stacked 4 0 ≡ (1 ∷ 3 ∷ 2 ∷ []) ∷ (2 ∷ 3 ∷ 0 ∷ []) ∷ (0 ∷ 3 ∷ 1 ∷ []) ∷ (0 ∷ 1 ∷ 2 ∷ []) ∷ []
unfolding stacking
tetrahedron = refl

five_vertices : stacked 5 0 ≡ (1 ∷ 4 ∷ 3 ∷ 2 ∷ []) ∷ (2 ∷ 3 ∷ 4 ∷ 0 ∷ []) ∷ (0 ∷ 3 ∷ 1 ∷ []) ∷ (0 ∷ 4 ∷ 1 ∷ 2 ∷ []) ∷ (1 ∷ 3 ∷ 0 ∷ []) ∷ []
unfolding stacking
five_vertices = refl

seven_vertices : stacked 7 1 ≡ (1 ∷ 6 ∷ 3 ∷ 4 ∷ 2 ∷ []) ∷ (2 ∷ 3 ∷ 6 ∷ 0 ∷ []) ∷ (0 ∷ 4 ∷ 5 ∷ 3 ∷ 1 ∷ []) ∷ (0 ∷ 6 ∷ 1 ∷ 2 ∷ 5 ∷ 4 ∷ []) ∷ (0 ∷ 3 ∷ 5 ∷ 2 ∷ []) ∷ (2 ∷ 4 ∷ 3 ∷ []) ∷ (1 ∷ 3 ∷ 0 ∷ []) ∷ []
unfolding stacking
seven_vertices = refl
