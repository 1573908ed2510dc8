-- The definitions run on a small case.
use Rattle.std.proofs.Common.{◌≡◌, [], ◌∷◌, refl}
use Rattle.map_lists.specs.Lists.{Lists}
use Rattle.convex_orders.specs.FaceNumbers.{entry}

-- the triangle: the face round which its darts go from 0 to 1, 2 and 0 has number 0, the other 1
abbrev triangle : Lists
triangle = (1 ∷ 2 ∷ []) ∷ (2 ∷ 0 ∷ []) ∷ (0 ∷ 1 ∷ []) ∷ []

abbrev numbers : Lists
numbers = (0 ∷ 1 ∷ []) ∷ (0 ∷ 1 ∷ []) ∷ (0 ∷ 1 ∷ []) ∷ []

round : entry triangle numbers 1 2 ≡ 0
round = refl

back : entry triangle numbers 2 1 ≡ 1
back = refl
