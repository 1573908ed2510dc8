-- The first bytes of a piece, and the next or the last one.
use Rattle.std.proofs.Common.{◌≡◌, ℕ, suc, ◌+◌, ◌-◌, ◌<◌, ◌≤◌, List, [], ◌∷◌, ◌++◌, length, get_or, take, drop, refl, sym, ap, ◌∙◌, arith}
use Rattle.std.proofs.lemmas.List.{take-append-drop, take_more}
use Rattle.std.proofs.Math.Seq.{drop-cons}

-- the first bytes of a piece, and the next
pub take-next : (piece : List ℕ) (k : ℕ) → 0 < k → k ≤ length piece → take k piece ≡ take (k - 1) piece ++ get_or piece (k - 1) 0 ∷ []
take-next piece k some within =
    let n : k ≡ k - 1 + 1 = omega arith in
    ap (λ (i : ℕ). take i piece) n ∙ take_more piece (k - 1) 0 (omega arith)

-- the first bytes of a piece, the next, and what follows
pub split-next : (piece : List ℕ) (k : ℕ) → 0 < k → k ≤ length piece → piece ≡ take (k - 1) piece ++ (get_or piece (k - 1) 0 ∷ drop (suc (k - 1)) piece)
split-next piece k some within =
    sym (take-append-drop (k - 1) piece) ∙ ap (λ (x : List ℕ). take (k - 1) piece ++ x) (drop-cons piece (k - 1) 0 (omega arith))

-- the first byte of a piece
pub take-first : (piece : List ℕ) → 0 < length piece → take 1 piece ≡ get_or piece 0 0 ∷ []
take-first [] some = absurd (omega arith)
take-first (b ∷ piece) some = refl

-- some numbers and the last
pub last-split : (xs : List ℕ) → 0 < length xs → (front : List ℕ) × (last : ℕ) × (xs ≡ front ++ last ∷ [])
last-split [] some = absurd (omega arith)
last-split (x ∷ []) some = ([], x, refl)
last-split (x ∷ y ∷ xs) some =
    let later = last-split (y ∷ xs) (omega arith) in
    (x ∷ later.0, later.1, ap (λ (zs : List ℕ). x ∷ zs) later.2)
