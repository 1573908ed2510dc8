-- Bytes that pass: with none of them a record ends, and none makes a bad count.
use Rattle.std.proofs.Common.{◌≡◌, ℕ, ◌/◌, ◌%◌, ◌<◌, List, [], ◌∷◌, ◌++◌, length, flat_map, sym, ap, subst, ◌∙◌, arith, append_assoc}
use Rattle.std.proofs.lemmas.List.{append-nil, length-append, same_from_push}
use Rattle.std.proofs.lemmas.Grind.{flat_map-append}
use Rattle.map_lists.specs.Lists.{Lists}
use Rattle.planar_code.specs.Reading.{record_numbers, two_bytes}
use Rattle.planar_code.specs.Scan.{GoesOn, Passes}
use Rattle.planar_code.proofs.RecordLemmas.{numbers-end}
use Rattle.planar_code.proofs.ScanLemmas.{zeros, zeros-append, not_bad-first, not_bad-long, narrow-no_record, wide-no_record, half-no_record}

-- bytes that pass, and more that pass behind them
pub Passes-append : (bytes xs ys : List ℕ) → Passes bytes xs → Passes (bytes ++ xs) ys → Passes bytes (xs ++ ys)
Passes-append bytes [] ys first then =
    let P : List ℕ → Type 0 = λ x. Passes x ys in
    subst P (append-nil bytes) then
Passes-append bytes (x ∷ xs) ys first then =
    let P : List ℕ → Type 0 = λ z. Passes z ys in
    (first.0, Passes-append (bytes ++ x ∷ []) xs ys first.1 (subst P (sym (append_assoc bytes (x ∷ []) xs)) then))

-- the bytes of a narrow record whose numbers close too few lists
pub narrow-passes : (count : ℕ) (xs more : List ℕ) → 0 < count → zeros (xs ++ more) < count → Passes (count ∷ xs) more
narrow-passes count xs [] some few = tt
narrow-passes count xs (b ∷ more) some few =
    let e : zeros ((xs ++ b ∷ []) ++ more) ≡ zeros (xs ++ (b ∷ more)) = ap zeros (append_assoc xs (b ∷ []) more) in
    let here : zeros (xs ++ b ∷ []) < count = omega (arith, zeros-append (xs ++ b ∷ []) more) in
    ((not_bad-first count (xs ++ b ∷ []) some, narrow-no_record count (xs ++ b ∷ []) some here), narrow-passes count (xs ++ b ∷ []) more some (omega arith))

-- the bytes of a wide record at the front of a number
abbrev pub wide_bytes : ℕ → List ℕ → List ℕ
wide_bytes count xs = 0 ∷ flat_map two_bytes (count ∷ xs)

-- half a number more goes on
pub half-goes_on : (count high : ℕ) (xs : List ℕ) → GoesOn (wide_bytes count xs ++ high ∷ [])
half-goes_on count high xs =
    (not_bad-long (wide_bytes count xs ++ high ∷ []) (let pushed = length-append (flat_map two_bytes xs) (high ∷ []) in omega arith), half-no_record (count ∷ xs) high)

-- a number more
pub wide-push : (count n : ℕ) (xs : List ℕ) → (wide_bytes count xs ++ (n / 256) ∷ []) ++ (n % 256) ∷ [] ≡ wide_bytes count (xs ++ n ∷ [])
wide-push count n xs =
    append_assoc (wide_bytes count xs) ((n / 256) ∷ []) ((n % 256) ∷ [])
    ∙ ap (λ (x : List ℕ). 0 ∷ x) (sym (flat_map-append two_bytes (count ∷ xs) (n ∷ [])))

-- a number more goes on where the numbers close too few lists
pub wide-goes_on : (count n : ℕ) (xs : List ℕ) → zeros (xs ++ n ∷ []) < count → GoesOn ((wide_bytes count xs ++ (n / 256) ∷ []) ++ (n % 256) ∷ [])
wide-goes_on count n xs few =
    let P : List ℕ → Type 0 = λ x. GoesOn x in
    subst P (sym (wide-push count n xs))
    (not_bad-long (wide_bytes count (xs ++ n ∷ [])) (let pushed = ap (λ (x : List ℕ). length x) (flat_map-append two_bytes xs (n ∷ [])) in let long = length-append (flat_map two_bytes xs) (two_bytes n) in omega arith), wide-no_record count (xs ++ n ∷ []) few)

-- the bytes of a wide record whose numbers close too few lists
pub wide-passes : (count : ℕ) (xs more : List ℕ) → zeros (xs ++ more) < count → Passes (wide_bytes count xs) (flat_map two_bytes more)
wide-passes count xs [] few = tt
wide-passes count xs (n ∷ more) few =
    let e : zeros ((xs ++ n ∷ []) ++ more) ≡ zeros (xs ++ (n ∷ more)) = ap zeros (append_assoc xs (n ∷ []) more) in
    let here : zeros (xs ++ n ∷ []) < count = omega (arith, zeros-append (xs ++ n ∷ []) more) in
    let P : List ℕ → Type 0 = λ x. Passes x (flat_map two_bytes more) in
    (half-goes_on count (n / 256) xs, (wide-goes_on count n xs here, subst P (sym (wide-push count n xs)) (wide-passes count (xs ++ n ∷ []) more (omega arith))))

-- the last number of some lists is 0
pub ends-zero : (lists : Lists) (xs : List ℕ) (b : ℕ) → 0 < length lists → record_numbers lists ≡ xs ++ b ∷ [] → b ≡ 0
ends-zero [] xs b some e = absurd (omega arith)
ends-zero (us ∷ lists) xs b some e =
    let last = numbers-end us lists in
    (same_from_push xs last.0 b 0 (sym e ∙ last.1)).1
