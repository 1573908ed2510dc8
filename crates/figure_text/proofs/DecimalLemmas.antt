-- The digits of a line, read from a place on.
use Rattle.std.proofs.Common.{◌≡◌, ◌≢◌, ◌++◌, ℕ, ◌+◌, ◌-◌, ◌*◌, ◌^◌, lit≤, ◌<◌, ◌≤◌, true, List, [], ◌∷◌, length, take, drop, length-drop, get_or, refl, sym, ap, ◌∙◌, arith, add-one}
use Rattle.std.proofs.Math.Nat.{pow-le-pow_right}
use Rattle.std.proofs.lemmas.Bool.Decides.{nat_tests}
use Rattle.std.proofs.lemmas.List.{take_more, get_or-drop}
use Rattle.std.specs.Prelude.{Some}
use Rattle.decimals.specs.Numbers.{is_digit, decimal_from}
use Rattle.decimals.proofs.DigitLemmas.{decimal-append}

-- one byte more of a line
pub take-one_more : (line : List ℕ) (at k b : ℕ) → at ≤ k → k < length line → get_or line k 0 ≡ b → take (k + 1 - at) (drop at line) ≡ take (k - at) (drop at line) ++ b ∷ []
take-one_more line at k b order within is =
    let count : k + 1 - at ≡ (k - at) + 1 = omega arith in
    let here : get_or (drop at line) (k - at) 0 ≡ b = get_or-drop at line (k - at) 0 ∙ ap (λ (j : ℕ). get_or line j 0) (omega arith) ∙ is in
    ap (λ (j : ℕ). take j (drop at line)) count
    ∙ take_more (drop at line) (k - at) 0 (omega (arith, length-drop at line)) ∙ ap (λ (c : ℕ). take (k - at) (drop at line) ++ c ∷ []) here

-- eight digits give a number below `far`, and one digit more of fewer than eight
pub below-pow : (j v : ℕ) → j ≤ 8 → v < 10 ^ j → v < 100000000
below-pow j v few near = let most : 10 ^ j ≤ 10 ^ 8 = pow-le-pow_right {n = 10} (lit≤ tt) {i = j} {j = 8} few in omega (arith, most)

pub few-digits : (j v : ℕ) → j < 8 → v < 10 ^ j → v < 10000000
few-digits j v few near = let most : 10 ^ j ≤ 10 ^ 7 = pow-le-pow_right {n = 10} (lit≤ tt) {i = j} {j = 7} (omega arith) in omega (arith, most)

pub digit-near : (j v b : ℕ) → is_digit b ≡ true → v < 10 ^ j → 10 * v + (b - 48) < 10 ^ (j + 1)
digit-near j v b digit near =
    let low : b < 58 = grind (arith, nat_tests) in
    rw (add-one) (omega arith)

pub digits-more : (line : List ℕ) (at k v b : ℕ) → at ≤ k → k < length line → get_or line k 0 ≡ b → decimal_from 0 (take (k - at) (drop at line)) ≡ Some v → is_digit b ≡ true → decimal_from 0 (take (k + 1 - at) (drop at line)) ≡ Some (10 * v + (b - 48))
digits-more line at k v b order within is so_far digit =
    ap (decimal_from 0) (take-one_more line at k b order within is) ∙ decimal-append (take (k - at) (drop at line)) (b ∷ []) 0 v so_far ∙ rw digit refl

-- a digit is no space
pub digit-no_space : (b : ℕ) → is_digit b ≡ true → b ≢ 32
digit-no_space b digit = grind (arith, nat_tests)
