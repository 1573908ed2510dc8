-- Lists: what a splice leaves, and what is put into another order.
use Rattle.std.proofs.Common.{◌≡◌, ℕ, ◌+◌, ◌-◌, ◌≤◌, List, ◌++◌, length, take, drop, sym, ap, ap₂, ◌∙◌, arith, length-append, append_assoc, take-add}
use Rattle.std.specs.List.Sorted.{IsPermutation}
use Rattle.std.proofs.lemmas.List.Sorted.{length_permutation}
use Rattle.std.specs.List.{copy_within}
use Rattle.std.proofs.lemmas.List.{take-append-drop, take-append-le, take-take, take_at, drop_at, drop-drop, length-take-le, length-drop}
use borrow.Rule.Slice.PartMut.{put_mid}

-- a gap in a list moved down, with what was below it moved behind it
pub gap_down : {X : Type 0} (xs : List X) (begin end place : ℕ) → begin ≤ end → end ≤ length xs → place ≤ begin → (ys : List X) → ys ≡ copy_within xs place begin (end - (begin - place)) → take place ys ++ drop (end - (begin - place)) ys ≡ take begin xs ++ drop end xs
gap_down {X = X} xs begin end place order within less ys e =
    let top = end - (begin - place) in
    let part = take (begin - place) (drop place xs) in
    let rest = drop (top + (begin - place)) xs in
    let whole : ys ≡ take top xs ++ (part ++ rest) = e ∙ append_assoc (take top xs) part rest in
    let front_long : length (take top xs) ≡ top = length-take-le top xs (omega arith) in
    let front : take place ys ≡ take place xs = ap (take place) whole ∙ take-append-le place (take top xs) (part ++ rest) (omega arith) ∙ take-take place top xs (omega arith) in
    let back : drop top ys ≡ part ++ rest = ap (drop top) whole ∙ drop_at (take top xs) (part ++ rest) top front_long in
    let lower : take place xs ++ part ≡ take begin xs = sym (take-add place (begin - place) xs) ∙ ap (λ (n : ℕ). take n xs) (omega arith) in
    ap₂ (λ (us vs : List X). us ++ vs) front back ∙ sym (append_assoc (take place xs) part rest) ∙ ap₂ (λ (us : List X) (n : ℕ). us ++ drop n xs) lower (omega arith)

-- a gap in a list moved up, with what was above it moved below it
pub gap_up : {X : Type 0} (xs : List X) (begin end place : ℕ) → begin ≤ end → begin ≤ place → end + (place - begin) ≤ length xs → (ys : List X) → ys ≡ copy_within xs end (end + (place - begin)) begin → take place ys ++ drop (end + (place - begin)) ys ≡ take begin xs ++ drop end xs
gap_up {X = X} xs begin end place order less within ys e =
    let top = end + (place - begin) in
    let part = take (top - end) (drop end xs) in
    let rest = drop (begin + (top - end)) xs in
    let front_long : length (take begin xs) ≡ begin = length-take-le begin xs (omega arith) in
    let part_long : length part ≡ top - end = length-take-le (top - end) (drop end xs) (omega (arith, length-drop end xs)) in
    let lower_long : length (take begin xs ++ part) ≡ place = length-append (take begin xs) part ∙ omega (arith, front_long, part_long) in
    let front : take place ys ≡ take begin xs ++ part = ap (take place) e ∙ take_at (take begin xs ++ part) rest place lower_long in
    let back : drop top ys ≡ drop top xs =
    ap (drop top) e ∙ ap (λ (n : ℕ). drop n (copy_within xs end top begin)) (omega arith) ∙ sym (drop-drop (top - place) place (copy_within xs end top begin)) ∙ ap (drop (top - place)) (drop_at (take begin xs ++ part) rest place lower_long) ∙ drop-drop (top - place) (begin + (top - end)) xs ∙ ap (λ (n : ℕ). drop n xs) (omega arith) in
    let upper : part ++ drop top xs ≡ drop end xs = ap (λ (us : List X). part ++ us) (ap (λ (n : ℕ). drop n xs) (omega arith) ∙ sym (drop-drop (top - end) end xs)) ∙ take-append-drop (top - end) (drop end xs) in
    ap₂ (λ (us vs : List X). us ++ vs) front back ∙ append_assoc (take begin xs) part (drop top xs) ∙ ap (λ (us : List X). take begin xs ++ us) upper

-- the front of a list with others written behind `begin`
pub filled_front : {X : Type 0} (xs ys : List X) (begin : ℕ) → begin ≤ length xs → take (begin + length ys) (put_mid begin (begin + length ys - begin) xs ys) ≡ take begin xs ++ ys
filled_front xs ys begin l =
    let rest = drop (begin + length ys - begin) (drop begin xs) in
    ap (take (begin + length ys)) (sym (append_assoc (take begin xs) ys rest)) ∙ take_at (take begin xs ++ ys) rest (begin + length ys) (length-append (take begin xs) ys ∙ omega (arith, length-take-le begin xs l))

-- what is behind them is as it was
pub filled_back : {X : Type 0} (xs ys : List X) (begin end : ℕ) → begin + length ys ≤ end → end ≤ length xs → drop end (put_mid begin (begin + length ys - begin) xs ys) ≡ drop end xs
filled_back {X = X} xs ys begin end room within =
    let rest = drop (begin + length ys - begin) (drop begin xs) in
    let top = begin + length ys in
    let long : length (take begin xs ++ ys) ≡ top = length-append (take begin xs) ys ∙ omega (arith, length-take-le begin xs (omega arith)) in
    ap (drop end) (sym (append_assoc (take begin xs) ys rest)) ∙ ap (λ (n : ℕ). drop n ((take begin xs ++ ys) ++ rest)) (omega arith) ∙ sym (drop-drop (end - top) top ((take begin xs ++ ys) ++ rest)) ∙ ap (drop (end - top)) (drop_at (take begin xs ++ ys) rest top long ∙ drop-drop (top - begin) begin xs) ∙ drop-drop (end - top) (begin + (top - begin)) xs ∙ ap (λ (n : ℕ). drop n xs) (omega arith)

-- the front of a list that was put into another order
pub reordered : {X : Type 0} (xs ys : List X) (n : ℕ) → n ≤ length xs → IsPermutation (take n xs) ys → take n (ys ++ drop n xs) ≡ ys
reordered xs ys n l p = take_at ys (drop n xs) n (length_permutation (take n xs) ys p ∙ length-take-le n xs l)
