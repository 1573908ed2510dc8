-- A walk there and back, and a walk round.
use Rattle.std.proofs.Common.{◌≡◌, true, false, [], ◌∷◌, refl}
use Rattle.convex_laws.specs.Walks.{turned, is_odd_on}

-- an edge that is passed twice counts twice
there_and_back : is_odd_on ((0, 1) ∷ (1, 0) ∷ []) 0 1 ≡ false
there_and_back = refl

round : is_odd_on ((0, 1) ∷ (1, 2) ∷ (2, 0) ∷ []) 0 2 ≡ true
round = refl

back : turned ((0, 1) ∷ (1, 2) ∷ []) ≡ (2, 1) ∷ (1, 0) ∷ []
back = refl
