-- The reading of an input is unique: two records at the front of the same bytes are the same.
use Rattle.std.proofs.Common.{◌≡◌, ℕ, zero, suc, ◌+◌, ◌-◌, ◌*◌, ◌/◌, ◌%◌, ◌<◌, ◌≤◌, List, [], ◌∷◌, ◌++◌, length, flat_map, take, drop, refl, sym, ap, subst, ◌∙◌, inl, inr, arith, append_assoc}
use Rattle.std.proofs.lemmas.List.{append_cancel_left, append_cancel_right, length-append, take_at, take-take, take-append-drop}
use Rattle.std.proofs.lemmas.Grind.{flat_map-append}
use Rattle.std.proofs.Math.Seq.{take-nil, take-append-add}
use Rattle.std.proofs.lemmas.Bool.{false≢true}
use Rattle.std.proofs.lemmas.Bool.Decides.{nat_tests}
use Rattle.std.specs.Prelude.{IsTrue, IsFalse}
use Rattle.map_lists.specs.Lists.{Lists}
use Rattle.planar_code.specs.Reading.{list_numbers, record_numbers, two_bytes, IsNarrow, IsWide, IsRecord, AreRecords, has_bad_count, header_of, input_limit, IsReading, EndsAs, Ending, well, end_in_record, bad_count, too_long}
use Rattle.planar_code.proofs.RecordLemmas.{record-not_empty, bad_count-append}

-- the numbers in one byte each
abbrev one_byte : ℕ → List ℕ
one_byte n = n ∷ []

-- how numbers are spelled, each in bytes that show where they end
abbrev Spells : (ℕ → List ℕ) → Type 0
Spells spell = (x y : ℕ) (xs ys : List ℕ) → spell x ++ xs ≡ spell y ++ ys → (x ≡ y) × (xs ≡ ys)

one_byte-spells : Spells one_byte
one_byte-spells x y xs ys e = (cc, cc)

two_bytes-spells : Spells two_bytes
two_bytes-spells x y xs ys e =
    let high : x / 256 ≡ y / 256 = cc in
    let low : x % 256 ≡ y % 256 = cc in
    (omega arith, cc)

one_byte-all : (xs : List ℕ) → flat_map one_byte xs ≡ xs
one_byte-all [] = refl
one_byte-all (x ∷ xs) = ap (λ (y : List ℕ). x ∷ y) (one_byte-all xs)

module _ (spell : ℕ → List ℕ) (spells : Spells spell) where
  -- a list that is closed by 0
  same_list : (us vs : List ℕ) (xs ys : List ℕ) → flat_map spell (list_numbers us) ++ xs ≡ flat_map spell (list_numbers vs) ++ ys → (us ≡ vs) × (xs ≡ ys)
  same_list [] [] xs ys e =
      (refl, (spells 0 0 ([] ++ xs) ([] ++ ys) (sym (append_assoc (spell 0) [] xs) ∙ e ∙ append_assoc (spell 0) [] ys)).1)
  same_list [] (v ∷ vs) xs ys e =
      let parts = spells 0 (v + 1) ([] ++ xs) (flat_map spell (list_numbers vs) ++ ys) (sym (append_assoc (spell 0) [] xs) ∙ e ∙ append_assoc (spell (v + 1)) (flat_map spell (list_numbers vs)) ys) in
      absurd (omega (arith, parts.0))
  same_list (u ∷ us) [] xs ys e =
      let parts = spells (u + 1) 0 (flat_map spell (list_numbers us) ++ xs) ([] ++ ys) (sym (append_assoc (spell (u + 1)) (flat_map spell (list_numbers us)) xs) ∙ e ∙ append_assoc (spell 0) [] ys) in
      absurd (omega (arith, parts.0))
  same_list (u ∷ us) (v ∷ vs) xs ys e =
      let parts = spells (u + 1) (v + 1) (flat_map spell (list_numbers us) ++ xs) (flat_map spell (list_numbers vs) ++ ys) (sym (append_assoc (spell (u + 1)) (flat_map spell (list_numbers us)) xs) ∙ e ∙ append_assoc (spell (v + 1)) (flat_map spell (list_numbers vs)) ys) in
      let rest = same_list us vs xs ys parts.1 in
      let first : u ≡ v = omega (arith, parts.0) in
      (ap (λ (x : ℕ). x ∷ us) first ∙ ap (λ (x : List ℕ). v ∷ x) rest.0, rest.1)

  -- one list and more
  list-more : (us : List ℕ) (lists : Lists) (xs : List ℕ) → flat_map spell (record_numbers (us ∷ lists)) ++ xs ≡ flat_map spell (list_numbers us) ++ (flat_map spell (record_numbers lists) ++ xs)
  list-more us lists xs =
      ap (λ (x : List ℕ). x ++ xs) (flat_map-append spell (list_numbers us) (record_numbers lists)) ∙ append_assoc (flat_map spell (list_numbers us)) (flat_map spell (record_numbers lists)) xs

  -- as many lists as there are
  same_lists : (lists lists' : Lists) (xs ys : List ℕ) → length lists ≡ length lists' → flat_map spell (record_numbers lists) ++ xs ≡ flat_map spell (record_numbers lists') ++ ys → (lists ≡ lists') × (xs ≡ ys)
  same_lists [] [] xs ys count e = (refl, e)
  same_lists [] (vs ∷ lists') xs ys count e = absurd (omega (arith, count))
  same_lists (us ∷ lists) [] xs ys count e = absurd (omega (arith, count))
  same_lists (us ∷ lists) (vs ∷ lists') xs ys count e =
      let first = same_list us vs (flat_map spell (record_numbers lists) ++ xs) (flat_map spell (record_numbers lists') ++ ys) (sym (list-more us lists xs) ∙ e ∙ list-more vs lists' ys) in
      let rest = same_lists lists lists' xs ys (omega (arith, count)) first.1 in
      (ap (λ (x : List ℕ). x ∷ lists) first.0 ∙ ap (λ (x : Lists). vs ∷ x) rest.0, rest.1)

  -- a count and its lists
  same_record : (lists lists' : Lists) (xs ys : List ℕ) → flat_map spell (length lists ∷ record_numbers lists) ++ xs ≡ flat_map spell (length lists' ∷ record_numbers lists') ++ ys → (lists ≡ lists') × (xs ≡ ys)
  same_record lists lists' xs ys e =
      let parts = spells (length lists) (length lists') (flat_map spell (record_numbers lists) ++ xs) (flat_map spell (record_numbers lists') ++ ys) (sym (append_assoc (spell (length lists)) (flat_map spell (record_numbers lists)) xs) ∙ e ∙ append_assoc (spell (length lists')) (flat_map spell (record_numbers lists')) ys) in
      same_lists lists lists' xs ys parts.0 parts.1

narrow-wide : (xs ys xs' ys' : List ℕ) (lists lists' : Lists) → IsNarrow xs lists → IsWide ys lists' → xs ++ xs' ≡ ys ++ ys' → ⊥
narrow-wide xs ys xs' ys' lists lists' narrow wide e =
    let none : length lists ≡ 0 = cc in
    omega (arith, narrow.some_list)

-- Records at the front of the same bytes have the same lists, and the same bytes behind them.
same-lists : (xs ys xs' ys' : List ℕ) (lists lists' : Lists) → IsRecord xs lists → IsRecord ys lists' → xs ++ xs' ≡ ys ++ ys' → (lists ≡ lists') × (xs' ≡ ys')
same-lists xs ys xs' ys' lists lists' (inl narrow) (inl narrow') e =
    let bytes = one_byte-all (length lists ∷ record_numbers lists) ∙ sym narrow.spelled in
    let bytes' = one_byte-all (length lists' ∷ record_numbers lists') ∙ sym narrow'.spelled in
    same_record one_byte one_byte-spells lists lists' xs' ys' (ap (λ (x : List ℕ). x ++ xs') bytes ∙ e ∙ ap (λ (x : List ℕ). x ++ ys') (sym bytes'))
same-lists xs ys xs' ys' lists lists' (inl narrow) (inr wide) e = absurd (narrow-wide xs ys xs' ys' lists lists' narrow wide e)
same-lists xs ys xs' ys' lists lists' (inr wide) (inl narrow) e = absurd (narrow-wide ys xs ys' xs' lists' lists narrow wide (sym e))
same-lists xs ys xs' ys' lists lists' (inr wide) (inr wide') e =
    same_record two_bytes two_bytes-spells lists lists' xs' ys' (cc)

-- Records at the front of the same bytes are the same bytes and the same lists.
pub record-unique : (xs ys xs' ys' : List ℕ) (lists lists' : Lists) → IsRecord xs lists → IsRecord ys lists' → xs ++ xs' ≡ ys ++ ys' → (xs ≡ ys) × (lists ≡ lists') × (xs' ≡ ys')
record-unique xs ys xs' ys' lists lists' is is' e =
    let same = same-lists xs ys xs' ys' lists lists' is is' e in
    (append_cancel_right xs ys ys' (ap (λ (x : List ℕ). xs ++ x) (sym same.1) ∙ e), same.0, same.1)

not_bad-first : (n : ℕ) (xs : List ℕ) → 0 < n → IsFalse (has_bad_count (n ∷ xs))
not_bad-first zero xs positive = absurd (omega arith)
not_bad-first (suc n) [] positive = refl
not_bad-first (suc n) (x ∷ []) positive = refl
not_bad-first (suc n) (x ∷ y ∷ xs) positive = grind (arith, nat_tests)

-- the count of a wide record is none that is bad
not_bad-count : (n : ℕ) (xs : List ℕ) → 0 < n → n < 4096 → IsFalse (has_bad_count (0 ∷ n / 256 ∷ n % 256 ∷ xs))
not_bad-count n xs positive few =
    let whole : 256 * (n / 256) + n % 256 ≡ n = omega arith in
    rw whole (grind (arith, nat_tests))

-- a record begins with no bad count
pub record-no_bad_count : (xs ys : List ℕ) (lists : Lists) → IsRecord xs lists → IsFalse (has_bad_count (xs ++ ys))
record-no_bad_count xs ys lists (inl narrow) = rw narrow.spelled (not_bad-first (length lists) (record_numbers lists ++ ys) narrow.some_list)
record-no_bad_count xs ys lists (inr wide) =
    rw wide.spelled
    (not_bad-count (length lists) (flat_map two_bytes (record_numbers lists) ++ ys) wide.some_list wide.few_lists)

pub record-positive : (xs : List ℕ) (lists : Lists) → IsRecord xs lists → 0 < length xs
record-positive [] lists is = absurd (record-not_empty lists is)
record-positive (x ∷ xs) lists is = omega arith

-- no ending stands where a record does
ends-no_record : (total at : ℕ) (rest first later : List ℕ) (lists : Lists) (ending : Ending) → IsRecord first lists → rest ≡ first ++ later → at + length first ≤ input_limit → EndsAs total at rest ending → ⊥
ends-no_record total at rest first later lists well is parts within ends =
    omega (arith, record-positive first lists is, length-append first later, ap length (sym parts ∙ ends.1))
ends-no_record total at rest first later lists (end_in_record place) is parts within ends =
    let P : List ℕ → Type 0 = λ x. IsRecord x lists in
    ends.4 (length first) lists (subst P (sym (ap (λ (x : List ℕ). take (length first) x) parts ∙ take_at first later (length first) refl)) is)
ends-no_record total at rest first later lists (bad_count place) is parts within ends =
    let far : input_limit - at ≡ length first + (input_limit - at - length first) = omega arith in
    let window : take (input_limit - at) rest ≡ first ++ take (input_limit - at - length first) later = ap (λ (x : List ℕ). take (input_limit - at) x) parts ∙ ap (λ (n : ℕ). take n (first ++ later)) far ∙ take-append-add first later (input_limit - at - length first) in
    false≢true (sym (record-no_bad_count first (take (input_limit - at - length first) later) lists is) ∙ ap has_bad_count (sym window) ∙ ends.1)
ends-no_record total at rest first later lists too_long is parts within ends =
    let front : take (length first) (take (input_limit - at) rest) ≡ first = take-take (length first) (input_limit - at) rest (omega arith) ∙ ap (λ (x : List ℕ). take (length first) x) parts ∙ take_at first later (length first) refl in
    let P : List ℕ → Type 0 = λ x. IsRecord x lists in
    ends.2 (length first) lists (subst P (sym front) is)

-- nothing left has no bad count, nor has a window of bytes without
none-bad : (n : ℕ) (rest : List ℕ) → rest ≡ [] → IsTrue (has_bad_count (take n rest)) → ⊥
none-bad n rest none bad =
    false≢true (ap has_bad_count (sym (ap (λ (x : List ℕ). take n x) none ∙ take-nil n)) ∙ bad)

window-bad : (n : ℕ) (rest : List ℕ) → IsFalse (has_bad_count rest) → IsTrue (has_bad_count (take n rest)) → ⊥
window-bad n rest none bad =
    false≢true (sym none ∙ ap has_bad_count (sym (take-append-drop n rest)) ∙ bad_count-append (take n rest) (drop n rest) bad)

-- the ending at a place is one
ending-unique : (total at : ℕ) (rest : List ℕ) (ending ending' : Ending) → EndsAs total at rest ending → EndsAs total at rest ending' → ending ≡ ending'
ending-unique total at rest x3 x4 ends ends' = grind (arith, well, end_in_record, length, bad_count, none-bad, input_limit, too_long, window-bad, false≢true)

-- Where no record is left, none is left in the other reading.
rest-record : (total at : ℕ) (records' : List Lists) (lists' : Lists) (bytes bytes' rest rest' : List ℕ) (ending : Ending) → bytes ++ rest ≡ bytes' ++ rest' → bytes ≡ [] → AreRecords bytes' (lists' ∷ records') → at + length bytes' ≤ input_limit → EndsAs total (at + length bytes) rest ending → ⊥
rest-record total at records' lists' bytes bytes' rest rest' ending e none are' within' ends =
    let parts : rest ≡ are'.0 ++ (are'.1 ++ rest') = ap (λ (x : List ℕ). x ++ rest) (sym none) ∙ e ∙ ap (λ (x : List ℕ). x ++ rest') are'.4 ∙ append_assoc are'.0 are'.1 rest' in
    let long = ap length are'.4 ∙ length-append are'.0 are'.1 in
    ends-no_record total (at + length bytes) rest are'.0 (are'.1 ++ rest') lists' ending are'.2 parts (omega (arith, ap length none)) ends

-- Records from a place on, and how they end there.
records-unique : (total at : ℕ) (records records' : List Lists) (bytes bytes' rest rest' : List ℕ) (ending ending' : Ending) → bytes ++ rest ≡ bytes' ++ rest' → AreRecords bytes records → AreRecords bytes' records' → at + length bytes ≤ input_limit → at + length bytes' ≤ input_limit → EndsAs total (at + length bytes) rest ending → EndsAs total (at + length bytes') rest' ending' → (records ≡ records') × (ending ≡ ending')
records-unique total at [] [] bytes bytes' rest rest' ending ending' e are are' within within' ends ends' =
    let same : rest' ≡ rest = ap (λ (x : List ℕ). x ++ rest') (sym are') ∙ sym e ∙ ap (λ (x : List ℕ). x ++ rest) are in
    let P : List ℕ → Type 0 = λ x. EndsAs total (at + length x) rest' ending' in
    let Q : List ℕ → Type 0 = λ x. EndsAs total (at + length bytes) x ending' in
    (refl, ending-unique total (at + length bytes) rest ending ending' ends (subst Q same (subst P (are' ∙ sym are) ends')))
records-unique total at [] (lists' ∷ records') bytes bytes' rest rest' ending ending' e are are' within within' ends ends' =
    absurd (rest-record total at records' lists' bytes bytes' rest rest' ending e are are' within' ends)
records-unique total at (lists ∷ records) [] bytes bytes' rest rest' ending ending' e are are' within within' ends ends' =
    absurd (rest-record total at records lists bytes' bytes rest' rest ending' (sym e) are' are within ends')
records-unique total at (lists ∷ records) (lists' ∷ records') bytes bytes' rest rest' ending ending' e are are' within within' ends ends' =
    let parts : are.0 ++ (are.1 ++ rest) ≡ are'.0 ++ (are'.1 ++ rest') = sym (append_assoc are.0 are.1 rest) ∙ ap (λ (x : List ℕ). x ++ rest) (sym are.4) ∙ e ∙ ap (λ (x : List ℕ). x ++ rest') are'.4 ∙ append_assoc are'.0 are'.1 rest' in
    let same = record-unique are.0 are'.0 (are.1 ++ rest) (are'.1 ++ rest') lists lists' are.2 are'.2 parts in
    let long = ap length are.4 ∙ length-append are.0 are.1 in
    let long' = ap length are'.4 ∙ length-append are'.0 are'.1 in
    let first = ap length same.0 in
    let place : at + length bytes ≡ at + length are.0 + length are.1 = omega arith in
    let place' : at + length bytes' ≡ at + length are.0 + length are'.1 = omega arith in
    let P : ℕ → Type 0 = λ n. EndsAs total n rest ending in
    let P' : ℕ → Type 0 = λ n. EndsAs total n rest' ending' in
    let later = records-unique total (at + length are.0) records records' are.1 are'.1 rest rest' ending ending' same.2 are.3 are'.3 (omega arith) (omega arith) (subst P place ends) (subst P' place' ends') in
    (ap (λ (x : Lists). x ∷ records) same.1 ∙ ap (λ (x : List Lists). lists' ∷ x) later.0, later.1)

-- The reading of an input is unique.
pub reading-unique : (input : List ℕ) (records records' : List Lists) (ending ending' : Ending) → IsReading input records ending → IsReading input records' ending' → (records ≡ records') × (ending ≡ ending')
reading-unique input records records' ending ending' reading reading' =
    records-unique (length input) (length (header_of input)) records records' reading.bytes reading'.bytes reading.rest reading'.rest ending ending'
    (append_cancel_left (header_of input) (reading.bytes ++ reading.rest) (reading'.bytes ++ reading'.rest) (sym reading.parts ∙ reading'.parts))
    reading.are reading'.are reading.within reading'.within reading.ends reading'.ends
