-- The bytes of a record as they are written.
use Rattle.std.proofs.Common.{◌≡◌, ℕ, ◌+◌, ◌<◌, ◌≤◌, Bool, true, false, List, [], ◌∷◌, ◌++◌, length, get_or, take, map, flat_map, refl, sym, ap, ◌∙◌, arith, append_assoc}
use Rattle.std.proofs.lemmas.List.{append-nil, length-append, map_push, take_all, take_at, take_more, take-take}
use Rattle.std.proofs.lemmas.Grind.{flat_map-append}
use Rattle.std.specs.Prelude.{Result, Ok, Err, OnErr}
use Rattle.map_lists.specs.Lists.{Lists}
use Rattle.planar_code.specs.Reading.{list_numbers, record_numbers}
use Rattle.planar_code.specs.Write.{spelled, first_bytes, record_bytes, is_wide}
use Rattle.planar_code.proofs.ScanLemmas.{record_numbers-push}

-- what was there before a part that was written is there behind it
pub kept : (old mid new more : List ℕ) → mid ≡ old ++ more → take (length mid) new ≡ mid → take (length old) new ≡ old
kept old mid new more grown is =
    sym (take-take (length old) (length mid) new (omega (arith, ap length grown, length-append old more)))
    ∙ ap (λ (x : List ℕ). take (length old) x) (is ∙ grown) ∙ take_at old more (length old) refl

-- the numbers of the first entries of a list
abbrev pub entries_bytes : Bool → List ℕ → List ℕ
entries_bytes wide us = flat_map (spelled wide) (map (λ u. u + 1) us)

-- numbers of one byte each are their own bytes
one-byte : (xs : List ℕ) → flat_map (spelled false) xs ≡ xs
one-byte [] = refl
one-byte (x ∷ xs) = ap (λ (y : List ℕ). x ∷ y) (one-byte xs)

-- the parts of a record
parts-are : (wide : Bool) (lists : Lists) → is_wide lists ≡ wide → first_bytes wide ++ (spelled wide (length lists) ++ flat_map (spelled wide) (record_numbers lists)) ≡ record_bytes lists
parts-are true lists e = rw e refl
parts-are false lists e = rw e (ap (λ (y : List ℕ). length lists ∷ y) (one-byte (record_numbers lists)))

-- the bytes of a record up to its list number v
abbrev pub lists_bytes : Bool → Lists → ℕ → List ℕ
lists_bytes wide lists v = first_bytes wide ++ (spelled wide (length lists) ++ flat_map (spelled wide) (record_numbers (take v lists)))

-- first none of the lists is there
pub lists-begin : (wide : Bool) (lists : Lists) (old first second : List ℕ) → first ≡ old ++ first_bytes wide → second ≡ first ++ spelled wide (length lists) → second ≡ old ++ lists_bytes wide lists 0
lists-begin wide lists old first second is is' =
    is' ∙ ap (λ (x : List ℕ). x ++ spelled wide (length lists)) is ∙ append_assoc old (first_bytes wide) (spelled wide (length lists))
    ∙ ap (λ (x : List ℕ). old ++ (first_bytes wide ++ x)) (sym (append-nil (spelled wide (length lists))))

-- then of a list none of the entries
pub entries-begin : (wide : Bool) (us old before front : List ℕ) → before ≡ old ++ front → before ≡ old ++ (front ++ entries_bytes wide (take 0 us))
entries-begin wide us old before front is = is ∙ ap (λ (x : List ℕ). old ++ x) (sym (append-nil front))

-- one more
entries-push : (wide : Bool) (us : List ℕ) (u : ℕ) → entries_bytes wide (us ++ u ∷ []) ≡ entries_bytes wide us ++ spelled wide (u + 1)
entries-push wide us u =
    ap (λ (x : List ℕ). flat_map (spelled wide) x) (map_push (λ u. u + 1) us u) ∙ flat_map-append (spelled wide) (map (λ u. u + 1) us) ((u + 1) ∷ [])
    ∙ ap (λ (x : List ℕ). entries_bytes wide us ++ x) (append-nil (spelled wide (u + 1)))

pub entries-more : (wide : Bool) (us old before new front : List ℕ) (k : ℕ) → k < length us → before ≡ old ++ (front ++ entries_bytes wide (take k us)) → new ≡ before ++ spelled wide (get_or us k 0 + 1) → new ≡ old ++ (front ++ entries_bytes wide (take (k + 1) us))
entries-more wide us old before new front k k_in is is' =
    let more = spelled wide (get_or us k 0 + 1) in
    is' ∙ ap (λ (x : List ℕ). x ++ more) is ∙ append_assoc old (front ++ entries_bytes wide (take k us)) more
    ∙ ap (λ (x : List ℕ). old ++ x) (append_assoc front (entries_bytes wide (take k us)) more ∙ ap (λ (x : List ℕ). front ++ x) (sym (entries-push wide (take k us) (get_or us k 0)) ∙ ap (λ (x : List ℕ). entries_bytes wide x) (sym (take_more us k 0 k_in))))

-- and one list more
pub lists-more : (wide : Bool) (lists : Lists) (us old before new : List ℕ) (v k : ℕ) → v < length lists → us ≡ get_or lists v [] → length us ≤ k → before ≡ old ++ (lists_bytes wide lists v ++ entries_bytes wide (take k us)) → new ≡ before ++ spelled wide 0 → new ≡ old ++ lists_bytes wide lists (v + 1)
lists-more wide lists us old before new v k v_in list all is is' =
    let zero' = spelled wide 0 in
    let entries = entries_bytes wide us in
    let front = flat_map (spelled wide) (record_numbers (take v lists)) in
    let numbers : record_numbers (take (v + 1) lists) ≡ record_numbers (take v lists) ++ list_numbers us =
    ap (λ (x : Lists). record_numbers x) (take_more lists v [] v_in) ∙ record_numbers-push (take v lists) (get_or lists v []) ∙ ap (λ (x : List ℕ). record_numbers (take v lists) ++ list_numbers x) (sym list) in
    let closed : flat_map (spelled wide) (list_numbers us) ≡ entries ++ zero' = flat_map-append (spelled wide) (map (λ u. u + 1) us) (0 ∷ []) ∙ ap (λ (x : List ℕ). entries ++ x) (append-nil zero') in
    let whole : flat_map (spelled wide) (record_numbers (take (v + 1) lists)) ≡ front ++ (entries ++ zero') =
    ap (λ (x : List ℕ). flat_map (spelled wide) x) numbers ∙ flat_map-append (spelled wide) (record_numbers (take v lists)) (list_numbers us) ∙ ap (λ (x : List ℕ). front ++ x) closed in
    let first = first_bytes wide in
    let count = spelled wide (length lists) in
    let moved : (lists_bytes wide lists v ++ entries) ++ zero' ≡ lists_bytes wide lists (v + 1) =
    append_assoc (first ++ (count ++ front)) entries zero' ∙ append_assoc first (count ++ front) (entries ++ zero')
    ∙ ap (λ (x : List ℕ). first ++ x) (append_assoc count front (entries ++ zero') ∙ ap (λ (x : List ℕ). count ++ x) (sym whole)) in
    is' ∙ ap (λ (x : List ℕ). x ++ zero') (is ∙ ap (λ (x : List ℕ). old ++ (lists_bytes wide lists v ++ entries_bytes wide x)) (take_all k us all))
    ∙ append_assoc old (lists_bytes wide lists v ++ entries) zero' ∙ ap (λ (x : List ℕ). old ++ x) moved

-- and all of them
pub lists-done : (wide : Bool) (lists : Lists) (old new : List ℕ) (v : ℕ) → is_wide lists ≡ wide → length lists ≤ v → new ≡ old ++ lists_bytes wide lists v → new ≡ old ++ record_bytes lists
lists-done wide lists old new v e all is =
    is ∙ ap (λ (x : Lists). old ++ (first_bytes wide ++ (spelled wide (length lists) ++ flat_map (spelled wide) (record_numbers x)))) (take_all v lists all) ∙ ap (λ (x : List ℕ). old ++ x) (parts-are wide lists e)

-- a fact holds also where it is asked for an error alone
pub on_err : {A E : Type 0} {P : Type 0} (r : Result A E) → P → OnErr r P
on_err (Ok x) p = tt
on_err (Err e) p = p
