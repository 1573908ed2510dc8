-- A wood of five vertices, as a worked case.
use Rattle.std.proofs.Common.{◌<◌, ℕ, [], ◌∷◌, refl, inl, inr, arith}
use Rattle.wood_runs.specs.Parents.{one, three}
use Rattle.schnyder_wood.specs.Parents.{Parents, IsRoot, IsInnerIn, IsPathLength}

-- the roots are 0, 1 and 4; vertex 2 stands over 0 and 1, vertex 3 over 0, 2 and 1, and vertex 4 over 0, 3 and 1
abbrev five : Parents
five = record { root_one = 0; root_two = 1; root_three = 4; ones = 0 ∷ 0 ∷ 0 ∷ 0 ∷ 0 ∷ []; twos = 0 ∷ 0 ∷ 1 ∷ 1 ∷ 1 ∷ []; threes = 0 ∷ 0 ∷ 3 ∷ 4 ∷ 0 ∷ [] }

-- vertices 2 and 3 are inner
inner : (v : ℕ) → 1 < v → v < 4 → IsInnerIn five v
inner v low high = (omega arith, apart)
  where
    apart : ¬ IsRoot five v
    apart (inl e) = omega (arith, e, low)
    apart (inr (inl e)) = omega (arith, e, low)
    apart (inr (inr e)) = omega (arith, e, high)

-- from 2 by colour three the path goes over 3 to 4
path_up : IsPathLength five three 2 3
path_up = record { steps = 2; leads = (inner 2 (omega arith) (omega arith), (inner 3 (omega arith) (omega arith), refl)); both_ends = refl }

-- and by colour one to 0 at once
path_left : IsPathLength five one 2 2
path_left = record { steps = 1; leads = (inner 2 (omega arith) (omega arith), refl); both_ends = refl }

root_is : IsRoot five 4
root_is = inr (inr refl)
