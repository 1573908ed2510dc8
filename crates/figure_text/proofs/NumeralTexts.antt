-- The texts of small numbers at the end of seven bytes.
use Rattle.std.proofs.Common.{◌≡◌, ℕ, suc, ◌+◌, ◌-◌, ◌≤◌, List, [], ◌∷◌, ◌++◌, length, drop, get_or, ap, refl, sym, ◌∙◌, arith}
use Rattle.std.proofs.lemmas.List.{drop-drop, drop-append-le}

-- seven entries
pub seven_entries : (xs : List ℕ) → length xs ≡ 7
    → xs ≡ get_or xs 0 0 ∷ get_or xs 1 0 ∷ get_or xs 2 0 ∷ get_or xs 3 0 ∷ get_or xs 4 0 ∷ get_or xs 5 0 ∷ get_or xs 6 0 ∷ []
seven_entries [] e = absurd (omega (arith, e))
seven_entries (a ∷ []) e = absurd (omega (arith, e))
seven_entries (a ∷ b ∷ []) e = absurd (omega (arith, e))
seven_entries (a ∷ b ∷ c ∷ []) e = absurd (omega (arith, e))
seven_entries (a ∷ b ∷ c ∷ d ∷ []) e = absurd (omega (arith, e))
seven_entries (a ∷ b ∷ c ∷ d ∷ f ∷ []) e = absurd (omega (arith, e))
seven_entries (a ∷ b ∷ c ∷ d ∷ f ∷ g ∷ []) e = absurd (omega (arith, e))
seven_entries (a ∷ b ∷ c ∷ d ∷ f ∷ g ∷ h ∷ []) e = refl
seven_entries (a ∷ b ∷ c ∷ d ∷ f ∷ g ∷ h ∷ x ∷ xs) e = absurd (omega (arith, e))

-- The last bytes of seven stand at the end of a row, where that ends with all of them behind another byte.
pub end_of_seven : (row bytes behind : List ℕ) (start count byte : ℕ) → length bytes ≡ 7 → count ≤ 7
    → drop start row ≡ byte ∷ get_or bytes 0 0 ∷ get_or bytes 1 0 ∷ get_or bytes 2 0 ∷ get_or bytes 3 0 ∷ get_or bytes 4 0 ∷ get_or bytes 5 0 ∷ get_or bytes 6 0 ∷ behind
    → drop (start + 8 - count) row ≡ drop (7 - count) bytes ++ behind
end_of_seven row bytes behind start count byte seven few is =
    let place : start + 8 - count ≡ start + suc (7 - count) = omega arith in
    ap (λ k. drop k row) place
    ∙ sym (drop-drop (suc (7 - count)) start row)
    ∙ ap (λ (xs : List ℕ). drop (suc (7 - count)) xs) is
    ∙ ap (λ (xs : List ℕ). drop (7 - count) (xs ++ behind)) (sym (seven_entries bytes seven))
    ∙ drop-append-le (7 - count) bytes behind (omega arith)
