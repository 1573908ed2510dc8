-- The numbers of a record: how many lists they close, and which bytes are none that end it.
use Rattle.std.proofs.Common.{◌≡◌, ℕ, zero, suc, ◌+◌, ◌*◌, ◌/◌, ◌%◌, ◌<◌, ◌≤◌, List, [], ◌∷◌, ◌++◌, length, map, flat_map, All, refl, sym, ap, ◌∙◌, inl, inr, arith, append_assoc, zero-add, add-one}
use Rattle.std.proofs.lemmas.List.{append-nil, length-append, map_push}
use Rattle.std.proofs.lemmas.List.Elements.{All-push, All-nil}
use Rattle.std.proofs.lemmas.Grind.{flat_map-append}
use Rattle.std.proofs.lemmas.Bool.Decides.{nat_tests}
use Rattle.std.specs.Prelude.{IsFalse}
use Rattle.map_lists.specs.Lists.{Lists}
use Rattle.planar_code.specs.Reading.{list_numbers, record_numbers, two_bytes, IsNarrow, IsRecord, is_bad_count}
use Rattle.planar_code.specs.Open.{numbers_of, Collects}

-- how many numbers are 0
abbrev pub zeros : List ℕ → ℕ
zeros [] = 0
zeros (zero ∷ xs) = suc (zeros xs)
zeros (suc x ∷ xs) = zeros xs

pub zeros-append : (xs ys : List ℕ) → zeros (xs ++ ys) ≡ zeros xs + zeros ys
zeros-append [] ys = sym (zero-add (zeros ys))
zeros-append (zero ∷ xs) ys = omega (arith, zeros-append xs ys)
zeros-append (suc x ∷ xs) ys = zeros-append xs ys

-- an entry of an open list is no 0
zeros-map : (us : List ℕ) → zeros (map (λ u. u + 1) us) ≡ 0
zeros-map [] = refl
zeros-map (u ∷ us) = rw (add-one u) (zeros-map us)

-- each list is closed by one 0
pub zeros-numbers : (lists : Lists) → zeros (record_numbers lists) ≡ length lists
zeros-numbers [] = refl
zeros-numbers (us ∷ lists) =
    omega (arith, zeros-append (list_numbers us) (record_numbers lists), zeros-append (map (λ u. u + 1) us) (0 ∷ []), zeros-map us, zeros-numbers lists)

pub zeros-numbers_of : (lists : Lists) (last : List ℕ) → zeros (numbers_of lists last) ≡ length lists
zeros-numbers_of lists last =
    omega (arith, zeros-append (record_numbers lists) (map (λ u. u + 1) last), zeros-numbers lists, zeros-map last)

-- the numbers of some lists and one more
pub record_numbers-push : (lists : Lists) (us : List ℕ) → record_numbers (lists ++ us ∷ []) ≡ record_numbers lists ++ list_numbers us
record_numbers-push lists us =
    flat_map-append list_numbers lists (us ∷ []) ∙ ap (λ (x : List ℕ). record_numbers lists ++ x) (append-nil (list_numbers us))

-- what joins the lists joins the numbers
pub collected : (number : ℕ) (lists : Lists) (last : List ℕ) (lists' : Lists) (last' : List ℕ) → Collects number lists last lists' last' → numbers_of lists' last' ≡ numbers_of lists last ++ number ∷ []
collected zero lists last lists' last' is =
    rw (is.0, is.1) (append-nil (record_numbers (lists ++ last ∷ [])) ∙ record_numbers-push lists last ∙ sym (append_assoc (record_numbers lists) (map (λ u. u + 1) last) (0 ∷ [])))
collected (suc u) lists last lists' last' is =
    rw (is.0, is.1) (ap (λ (x : List ℕ). record_numbers lists ++ x) (map_push (λ u. u + 1) last u) ∙ sym (append_assoc (record_numbers lists) (map (λ u. u + 1) last) ((u + 1) ∷ [])) ∙ ap (λ (x : ℕ). numbers_of lists last ++ x ∷ []) (add-one u))

-- the open list is empty where a list has just been closed
pub collected-closed : (number : ℕ) (lists : Lists) (last : List ℕ) (lists' : Lists) (last' : List ℕ) → Collects number lists last lists' last' → length lists < length lists' → last' ≡ []
collected-closed zero lists last lists' last' is longer = is.1
collected-closed (suc u) lists last lists' last' is longer = absurd (omega (arith, ap length is.0))

-- at most one list is closed
pub collected-length : (number : ℕ) (lists : Lists) (last : List ℕ) (lists' : Lists) (last' : List ℕ) → Collects number lists last lists' last' → length lists' ≤ length lists + 1
collected-length zero lists last lists' last' is = omega (arith, ap length is.0, length-append lists (last ∷ []))
collected-length (suc u) lists last lists' last' is = omega (arith, ap length is.0)

-- entries stay below the limit
pub collected-small : (limit number : ℕ) (lists : Lists) (last : List ℕ) (lists' : Lists) (last' : List ℕ) → number ≤ limit → All (λ us. All (λ u. u < limit) us) lists → All (λ u. u < limit) last → Collects number lists last lists' last' → All (λ us. All (λ u. u < limit) us) lists'
collected-small limit zero lists last lists' last' low small_lists small_last is =
    rw is.0 (All-push (λ us. All (λ u. u < limit) us) lists last small_lists small_last)
collected-small limit (suc u) lists last lists' last' low small_lists small_last is = rw is.0 small_lists

pub collected-small_last : (limit number : ℕ) (lists : Lists) (last : List ℕ) (lists' : Lists) (last' : List ℕ) → number ≤ limit → All (λ u. u < limit) last → Collects number lists last lists' last' → All (λ u. u < limit) last'
collected-small_last limit zero lists last lists' last' low small is = rw is.1 (All-nil (λ u. u < limit))
collected-small_last limit (suc u) lists last lists' last' low small is = rw is.1 (All-push (λ u. u < limit) last u small low)

-- a first byte other than 0 begins no bad count
pub not_bad-first : (b : ℕ) (xs : List ℕ) → 0 < b → IsFalse (is_bad_count (b ∷ xs))
not_bad-first zero xs positive = absurd (omega arith)
not_bad-first (suc b) [] positive = refl
not_bad-first (suc b) (x ∷ []) positive = refl
not_bad-first (suc b) (x ∷ y ∷ xs) positive = grind (arith, nat_tests)

-- more than three bytes are no bad count
pub not_bad-long : (xs : List ℕ) → 3 < length xs → IsFalse (is_bad_count xs)
not_bad-long xs long = grind (arith, nat_tests)

-- a first byte 0 begins no narrow record
pub zero-not_narrow : (xs : List ℕ) (lists : Lists) → IsNarrow (0 ∷ xs) lists → ⊥
zero-not_narrow xs lists is =
    let none : 0 ≡ length lists = cc in
    omega (arith, is.some_list)

-- a byte 0 is no record, and it is none with one byte more
pub zero-no_record : (lists : Lists) → IsRecord (0 ∷ []) lists → ⊥
zero-no_record lists (inl is) = zero-not_narrow [] lists is
zero-no_record lists (inr is) = let spelled = is.spelled in cc

pub pair-no_record : (b : ℕ) (lists : Lists) → IsRecord (0 ∷ b ∷ []) lists → ⊥
pair-no_record b lists (inl is) = zero-not_narrow (b ∷ []) lists is
pair-no_record b lists (inr is) = let spelled = is.spelled in cc

-- numbers with fewer zeros than the count says are no narrow record
pub narrow-no_record : (n : ℕ) (xs : List ℕ) → 0 < n → zeros xs < n → (lists : Lists) → IsRecord (n ∷ xs) lists → ⊥
narrow-no_record n xs positive few lists x5 = grind (arith, length, record_numbers, zeros-numbers, zeros)

-- pairs of bytes are the bytes of one list of numbers
pairs-injective : (xs ys : List ℕ) → flat_map two_bytes xs ≡ flat_map two_bytes ys → xs ≡ ys
pairs-injective [] [] e = refl
pairs-injective [] (y ∷ ys) e = cc
pairs-injective (x ∷ xs) [] e = cc
pairs-injective (x ∷ xs) (y ∷ ys) e =
    let high : x / 256 ≡ y / 256 = cc in
    let low : x % 256 ≡ y % 256 = cc in
    let same : x ≡ y = omega arith in
    let rest : xs ≡ ys = pairs-injective xs ys (cc) in
    cc

-- pairs of bytes and half a pair are no pairs
half-not_pairs : (xs ys : List ℕ) (high : ℕ) → flat_map two_bytes xs ++ high ∷ [] ≡ flat_map two_bytes ys → ⊥
half-not_pairs [] [] high e = cc
half-not_pairs [] (y ∷ ys) high e = cc
half-not_pairs (x ∷ xs) [] high e = cc
half-not_pairs (x ∷ xs) (y ∷ ys) high e = half-not_pairs xs ys high (cc)

-- numbers with fewer zeros than the count says are no wide record
pub wide-no_record : (n : ℕ) (xs : List ℕ) → zeros xs < n → (lists : Lists) → IsRecord (0 ∷ flat_map two_bytes (n ∷ xs)) lists → ⊥
wide-no_record n xs few lists (inl is) = zero-not_narrow (flat_map two_bytes (n ∷ xs)) lists is
wide-no_record n xs few lists (inr is) =
    let pairs : flat_map two_bytes (n ∷ xs) ≡ flat_map two_bytes (length lists ∷ record_numbers lists) = cc in
    let numbers : n ∷ xs ≡ length lists ∷ record_numbers lists = pairs-injective (n ∷ xs) (length lists ∷ record_numbers lists) pairs in
    let count : n ≡ length lists = cc in
    let rest : xs ≡ record_numbers lists = cc in
    omega (arith, zeros-numbers lists, ap zeros rest)

-- half a number ends no wide record
pub half-no_record : (xs : List ℕ) (high : ℕ) (lists : Lists) → IsRecord (0 ∷ (flat_map two_bytes xs ++ high ∷ [])) lists → ⊥
half-no_record xs high lists (inl is) = zero-not_narrow (flat_map two_bytes xs ++ high ∷ []) lists is
half-no_record xs high lists (inr is) =
    half-not_pairs xs (length lists ∷ record_numbers lists) high (cc)

-- two bytes of a number
pub pair_of : (high low : ℕ) → low < 256 → two_bytes (256 * high + low) ≡ high ∷ low ∷ []
pair_of high low small =
    let upper : (256 * high + low) / 256 ≡ high = omega arith in
    let lower : (256 * high + low) % 256 ≡ low = omega arith in
    cc
