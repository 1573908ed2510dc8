-- The definitions, run on worked cases.
use Rattle.std.proofs.Common.{◌≡◌, ◌≢◌, ℕ, ◌-◌, Bool, true, false, not, [], ◌∷◌, refl, sym, ◌∙◌, inl, inr, arith}
use Rattle.left_right_laws.specs.Ways.{IsInTurn}
use Rattle.left_right_laws.specs.Forests.{IsReturn, IsLeftRight}

-- 9, 4 and 6 stand in turn, and 9, 6 and 4 do not
in_turn : IsInTurn (4 ∷ 6 ∷ 1 ∷ 9 ∷ []) 9 4 6
in_turn = inr (inl (omega arith, omega arith))

not_in_turn : ¬ IsInTurn (4 ∷ 6 ∷ 1 ∷ 9 ∷ []) 9 6 4
not_in_turn turn = elim turn [ inl h ↦ (let l = h.0 in omega arith) | inr t ↦ elim t [ inl h ↦ (let l = h.0 in omega arith) | inr h ↦ (let l = h.1 in omega arith) ] ]

-- K5, on a line from 0 up to 4
abbrev before : ℕ → ℕ
before v = v - 1

abbrev own : ℕ → ℕ
own v = v

abbrev Returns : ℕ → ℕ → ℕ → ℕ → Type 0
Returns = IsReturn ◌≢◌ before own

from_two : Returns 2 0 2 0
from_two = record { edge = λ e. omega arith; higher = omega arith; above = record { depths = omega arith; line = refl }; under = record { depths = omega arith; line = refl }; branch = inl (refl, refl); away = λ e. omega arith }

from_three_by_two : Returns 2 3 3 1
from_three_by_two = record { edge = λ e. omega arith; higher = omega arith; above = record { depths = omega arith; line = refl }; under = record { depths = omega arith; line = refl }; branch = inr (λ e. omega arith, refl); away = λ e. omega arith }

from_four_by_two : Returns 2 3 4 1
from_four_by_two = record { edge = λ e. omega arith; higher = omega arith; above = record { depths = omega arith; line = refl }; under = record { depths = omega arith; line = refl }; branch = inr (λ e. omega arith, refl); away = λ e. omega arith }

three_to_none : Returns 3 0 3 0
three_to_none = record { edge = λ e. omega arith; higher = omega arith; above = record { depths = omega arith; line = refl }; under = record { depths = omega arith; line = refl }; branch = inl (refl, refl); away = λ e. omega arith }

three_to_one : Returns 3 1 3 1
three_to_one = record { edge = λ e. omega arith; higher = omega arith; above = record { depths = omega arith; line = refl }; under = record { depths = omega arith; line = refl }; branch = inl (refl, refl); away = λ e. omega arith }

four_to_none : Returns 3 4 4 0
four_to_none = record { edge = λ e. omega arith; higher = omega arith; above = record { depths = omega arith; line = refl }; under = record { depths = omega arith; line = refl }; branch = inr (λ e. omega arith, refl); away = λ e. omega arith }

four_to_one : Returns 3 4 4 1
four_to_one = record { edge = λ e. omega arith; higher = omega arith; above = record { depths = omega arith; line = refl }; under = record { depths = omega arith; line = refl }; branch = inr (λ e. omega arith, refl); away = λ e. omega arith }

four_to_two : Returns 3 4 4 2
four_to_two = record { edge = λ e. omega arith; higher = omega arith; above = record { depths = omega arith; line = refl }; under = record { depths = omega arith; line = refl }; branch = inr (λ e. omega arith, refl); away = λ e. omega arith }

-- no bit is the other one
pub no_fixed_bit : (b : Bool) → b ≡ not b → ⊥
no_fixed_bit true e = cc
no_fixed_bit false e = cc

-- it has no partition into left and right
k5_has_no_sides : (left : ℕ → ℕ → Bool) → ¬ IsLeftRight ◌≢◌ before own left
k5_has_no_sides left sides =
    let one = sides 3 1 4 (λ e. omega arith) in
    let two = sides 3 0 4 (λ e. omega arith) in
    let low = sides 2 0 3 (λ e. omega arith) in
    -- (3, 1) and (4, 2) are on different sides, and each of them on that of (4, 1)
    let b = (one.1 3 1 4 2 three_to_one four_to_two).1 (omega arith) in
    let c = (two.1 3 0 4 1 three_to_none four_to_one).1 (omega arith) in
    let d = (two.1 3 0 4 2 three_to_none four_to_two).1 (omega arith) in
    let e = (low.1 2 0 3 1 from_two from_three_by_two).1 (omega arith) in
    let f = (low.1 2 0 4 1 from_two from_four_by_two).1 (omega arith) in
    no_fixed_bit one.0 (sym ((one.1 3 1 4 0 three_to_one four_to_none).0 (omega arith)) ∙ (e ∙ (sym f ∙ (c ∙ (sym d ∙ b)))))
