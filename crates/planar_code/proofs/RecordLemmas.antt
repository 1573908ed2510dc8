-- What every record has: it is not empty, and it holds a byte 0 where the header of a file holds none.
use Rattle.std.proofs.Common.{◌≡◌, ℕ, zero, suc, ◌+◌, ◌<◌, ◌≤◌, List, [], ◌∷◌, ◌++◌, length, get_or, take, map, refl, sym, ap, ◌∙◌, inl, inr, arith, append_assoc}
use Rattle.std.proofs.lemmas.List.{append-nil, length-append, take-append-le, take_all, get_or_at, get_or-take, get_or_append_left}
use Rattle.std.proofs.lemmas.Bool.{cases_lt}
use Rattle.std.proofs.lemmas.Slice.Eq.{bytes_eq-Decides}
use Rattle.std.specs.Prelude.{IsTrue, IsFalse}
use Rattle.map_lists.specs.Lists.{Lists}
use Rattle.planar_code.specs.Reading.{list_numbers, record_numbers, IsNarrow, IsRecord, NoRecord, AreRecords, has_bad_count, is_bad_count, header, is_header, header_of}

-- no record has no bytes
pub record-not_empty : (lists : Lists) → IsRecord [] lists → ⊥
record-not_empty lists (inl narrow) = let e = narrow.spelled in cc
record-not_empty lists (inr wide) = let e = wide.spelled in cc

-- no record stands at the front of no bytes
pub NoRecord-nil : NoRecord []
NoRecord-nil zero lists is = record-not_empty lists is
NoRecord-nil (suc n) lists is = record-not_empty lists is

-- where none stands at the front of the bytes, and the bytes with one more are none, none stands at the front of those
pub NoRecord-push : (xs : List ℕ) (b : ℕ) → NoRecord xs → ((lists : Lists) → ¬ IsRecord (xs ++ b ∷ []) lists) → NoRecord (xs ++ b ∷ [])
NoRecord-push xs b none not n lists is =
    elim (cases_lt (length xs) n) [
      | inl more ↦ not lists (let le : length (xs ++ b ∷ []) ≤ n = rw (length-append xs (b ∷ [])) (omega arith) in rw (take_all n (xs ++ b ∷ []) le) at is)
      | inr within ↦ none n lists (rw (take-append-le n xs (b ∷ []) within) at is)
    ]

-- a bad count shows in the first three bytes
pub no_bad_count-push : (xs : List ℕ) (b : ℕ) → IsFalse (has_bad_count xs) → IsFalse (is_bad_count (xs ++ b ∷ [])) → IsFalse (has_bad_count (xs ++ b ∷ []))
no_bad_count-push [] b none not = refl
no_bad_count-push (x ∷ []) b none not = refl
no_bad_count-push (x ∷ y ∷ []) b none not = not
no_bad_count-push (x ∷ y ∷ z ∷ xs) b none not = none

-- bytes with a bad count keep it, however they go on
pub bad_count-append : (xs ys : List ℕ) → IsTrue (has_bad_count xs) → IsTrue (has_bad_count (xs ++ ys))
bad_count-append [] ys bad = cc
bad_count-append (x ∷ []) ys bad = cc
bad_count-append (x ∷ y ∷ []) ys bad = cc
bad_count-append (x ∷ y ∷ z ∷ xs) ys bad = bad

-- three bytes that are a bad count
pub bad_count-parts : (xs : List ℕ) → IsTrue (is_bad_count xs) → (length xs ≡ 3) × IsTrue (has_bad_count xs)
bad_count-parts [] bad = cc
bad_count-parts (x ∷ []) bad = cc
bad_count-parts (x ∷ y ∷ []) bad = cc
bad_count-parts (x ∷ y ∷ z ∷ []) bad = (refl, bad)
bad_count-parts (x ∷ y ∷ z ∷ w ∷ xs) bad = absurd (grind arith)

-- records and one more
pub AreRecords-push : (xs : List ℕ) (records : List Lists) (ys : List ℕ) (lists : Lists) → AreRecords xs records → IsRecord ys lists → AreRecords (xs ++ ys) (records ++ lists ∷ [])
AreRecords-push xs [] ys lists are is = (ys, [], is, refl, ap (λ (x : List ℕ). x ++ ys) are ∙ sym (append-nil ys))
AreRecords-push xs (r ∷ records) ys lists are is =
    (are.0, are.1 ++ ys, are.2, AreRecords-push are.1 records ys lists are.3 is, ap (λ (x : List ℕ). x ++ ys) are.4 ∙ append_assoc are.0 are.1 ys)

-- the numbers of some lists end with a 0
pub numbers-end : (us : List ℕ) (lists : Lists) → (xs : List ℕ) × (record_numbers (us ∷ lists) ≡ xs ++ 0 ∷ [])
numbers-end us [] = (map (λ u. u + 1) us, append-nil (list_numbers us))
numbers-end us (vs ∷ lists) =
    let later = numbers-end vs lists in
    (list_numbers us ++ later.0, ap (λ (x : List ℕ). list_numbers us ++ x) later.1 ∙ sym (append_assoc (list_numbers us) later.0 (0 ∷ [])))

-- some byte of the bytes is 0
abbrev pub HasZero : List ℕ → Type 0
HasZero xs = (i : ℕ) × (i < length xs) × (get_or xs i 1 ≡ 0)

narrow-has_zero : (bytes : List ℕ) (lists : Lists) → IsNarrow bytes lists → HasZero bytes
narrow-has_zero bytes [] is = absurd (let l : 0 < 0 = is.some_list in omega arith)
narrow-has_zero bytes (us ∷ lists) is =
    let last = numbers-end us lists in
    let whole : bytes ≡ (length (us ∷ lists) ∷ last.0) ++ 0 ∷ [] = is.spelled ∙ ap (λ (x : List ℕ). length (us ∷ lists) ∷ x) last.1 in (
      length (length (us ∷ lists) ∷ last.0),
      rw whole (rw (length-append (length (us ∷ lists) ∷ last.0) (0 ∷ [])) (omega arith)),
      ap (λ (x : List ℕ). get_or x (length (length (us ∷ lists) ∷ last.0)) 1) whole ∙ get_or_at (length (us ∷ lists) ∷ last.0) 0 [] 1 _ refl,
    )

-- each record holds a byte 0
pub record-has_zero : (bytes : List ℕ) (lists : Lists) → IsRecord bytes lists → HasZero bytes
record-has_zero bytes lists (inl narrow) = narrow-has_zero bytes lists narrow
record-has_zero bytes lists (inr wide) = (0, rw wide.spelled (omega arith), ap (λ (x : List ℕ). get_or x 0 1) wide.spelled)

-- the header holds none
pub header-no_zero : (i : ℕ) → get_or header i 1 ≡ 0 → ⊥
header-no_zero x0 e = grind arith

-- bytes whose first 15 are not the header have none
pub header_of-none : (xs : List ℕ) → IsFalse (is_header (take 15 xs)) → header_of xs ≡ []
header_of-none xs not = rw not refl

-- at least 15 bytes show whether there is a header
pub header_of-long : (xs ys : List ℕ) → 15 ≤ length xs → header_of (xs ++ ys) ≡ header_of xs
header_of-long xs ys long = rw (take-append-le 15 xs ys long) refl

pub is_header-false : (xs : List ℕ) → (xs ≡ header → ⊥) → IsFalse (is_header xs)
is_header-false xs not = grind (arith, bytes_eq-Decides xs header, not)

-- bytes that are no header, and hold a 0, have none, however they go on
pub header_of-zero : (xs ys : List ℕ) → IsFalse (is_header (take 15 xs)) → HasZero xs → header_of (xs ++ ys) ≡ []
header_of-zero xs ys not has =
    elim (cases_lt (length xs) 15) [
      | inl short ↦ header_of-none (xs ++ ys) (is_header-false (take 15 (xs ++ ys)) (λ (same : take 15 (xs ++ ys) ≡ header).
          header-no_zero has.0 (ap (λ (x : List ℕ). get_or x has.0 1) (sym same)
          ∙ get_or-take 15 (xs ++ ys) has.0 1 (omega (arith, has.1))
          ∙ get_or_append_left xs ys 1 has.0 has.1 ∙ has.2)))
      | inr long ↦ header_of-long xs ys long ∙ header_of-none xs not
    ]
