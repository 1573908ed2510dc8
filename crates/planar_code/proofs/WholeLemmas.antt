-- Inputs of any length: their parts, that two readings are one, and where they are cut.
use Rattle.std.proofs.Common.{◌≡◌, ◌⊎◌, inl, inr, ℕ, ◌+◌, ◌-◌, ◌<◌, ◌≤◌, Bool, true, false, List, [], ◌∷◌, ◌++◌, length, take, drop, refl, sym, ap, subst, ◌∙◌, arith, append_assoc}
use Rattle.std.proofs.lemmas.List.{append-nil, append_cancel_left, drop_all, length-append, length-drop, length-take-le, take_at, take_all, take-take, take-append-drop, drop-drop, get_or_append_left}
use Rattle.std.proofs.lemmas.Bool.{false≢true, cases_lt}
use Rattle.std.proofs.lemmas.Slice.Eq.{bytes_eq-Decides}
use Rattle.std.proofs.Math.Seq.{take-append-add}
use Rattle.std.specs.Prelude.{◌↔◌, if◌then◌else◌, IsTrue, IsFalse, slice_range}
use Rattle.map_lists.specs.Lists.{Lists}
use Rattle.planar_code.specs.Reading.{IsRecord, NoRecord, AreRecords, has_bad_count, header, is_header, header_of, input_limit, IsReading, EndsAs, Ending, well, end_in_record, bad_count, too_long}
use Rattle.planar_code.specs.Whole.{Ends, IsWholeReading, behind, ReadWithinLimit, OneWholeReading, PartsAreRead, IsCut, IsUpTo}
use Rattle.planar_code.proofs.RecordLemmas.{AreRecords-push, NoRecord-nil, bad_count-append, HasZero, record-has_zero, header_of-long, header_of-none, header_of-zero, is_header-false}
use Rattle.planar_code.proofs.ReadingLemmas.{record-unique, record-no_bad_count, record-positive}
use Rattle.planar_code.proofs.ScansLemmas.{take-parts}

-- records and more of them
AreRecords-append : (xs : List ℕ) (records : List Lists) (ys : List ℕ) (records' : List Lists) → AreRecords xs records → AreRecords ys records' → AreRecords (xs ++ ys) (records ++ records')
AreRecords-append xs [] ys records' are more = rw are more
AreRecords-append xs (r ∷ records) ys records' are more =
    (are.0, are.1 ++ ys, are.2, AreRecords-append are.1 records ys records' are.3 more, ap (λ (x : List ℕ). x ++ ys) are.4 ∙ append_assoc are.0 are.1 ys)

-- an ending further on
Ends-behind : (n at at' : ℕ) (rest : List ℕ) (ending : Ending) → at' ≡ n + at → Ends at rest ending → Ends at' rest (behind n ending)
Ends-behind n at at' rest well e ends = ends
Ends-behind n at at' rest (end_in_record place) e ends = (let p : n + place ≡ at' = omega (arith, ends.0) in p, ends.1, ends.2, ends.3)
Ends-behind n at at' rest (bad_count place) e ends = (let p : n + place ≡ at' = omega (arith, ends.0) in p, ends.1)
Ends-behind n at at' rest too_long e ends = absurd ends

-- a first record holds a 0
first-zero : (bytes : List ℕ) (r : Lists) (records : List Lists) → AreRecords bytes (r ∷ records) → HasZero bytes
first-zero bytes r records are =
    let zero_at = record-has_zero are.0 r are.2 in
    subst HasZero (sym are.4) (
      zero_at.0,
      let l = length-append are.0 are.1 in let z = zero_at.1 in omega arith,
      get_or_append_left are.0 are.1 1 zero_at.0 zero_at.1 ∙ zero_at.2,
    )

-- behind records that end well there is no other header
header-same : (first second bytes : List ℕ) (records : List Lists) → first ≡ header_of first ++ bytes → AreRecords bytes records → header_of second ≡ [] → header_of (first ++ second) ≡ header_of first
header-same first second bytes records parts are none = by (is_header (take 15 first)) refl records are
  where
    by : (b : Bool) → is_header (take 15 first) ≡ b → (records : List Lists) → AreRecords bytes records → header_of (first ++ second) ≡ header_of first
    by true e records are =
        let front : header_of first ≡ header = rw e refl in
        header_of-long first second (let l = ap length (parts ∙ ap (λ (x : List ℕ). x ++ bytes) front) in let a = length-append header bytes in omega arith)
    by false e [] are =
        let front : header_of first ≡ [] = header_of-none first e in
        let nothing : first ≡ [] = parts ∙ ap (λ (x : List ℕ). x ++ bytes) front ∙ are in
        rw nothing none
    by false e (r ∷ records) are =
        let front : header_of first ≡ [] = header_of-none first e in
        let all : bytes ≡ first = sym (parts ∙ ap (λ (x : List ℕ). x ++ bytes) front) in
        header_of-zero first second e (subst HasZero all (first-zero bytes r records are)) ∙ sym front

-- two parts
pub parts-read : PartsAreRead
parts-read first second records records' ending r none r' =
    let whole : first ≡ header_of first ++ r.bytes = r.parts ∙ ap (λ (x : List ℕ). header_of first ++ (r.bytes ++ x)) r.ends ∙ ap (λ (x : List ℕ). header_of first ++ x) (append-nil r.bytes) in
    let front = header-same first second r.bytes records whole r.are none in
    let later : second ≡ r'.bytes ++ r'.rest = r'.parts ∙ ap (λ (x : List ℕ). x ++ (r'.bytes ++ r'.rest)) none in
    let size = ap length whole in
    record {
      bytes = r.bytes ++ r'.bytes;
      rest = r'.rest;
      parts = ap (λ (x : List ℕ). x ++ second) whole ∙ append_assoc (header_of first) r.bytes second
          ∙ ap (λ (x : List ℕ). header_of first ++ (r.bytes ++ x)) later
          ∙ ap (λ (x : List ℕ). header_of first ++ x) (sym (append_assoc r.bytes r'.bytes r'.rest))
          ∙ ap (λ (x : List ℕ). x ++ ((r.bytes ++ r'.bytes) ++ r'.rest)) (sym front);
      are = AreRecords-append r.bytes records r'.bytes records' r.are r'.are;
      ends = Ends-behind (length first) (length (header_of second) + length r'.bytes) (length (header_of (first ++ second)) + length (r.bytes ++ r'.bytes)) r'.rest ending
          (let a = ap length front in let b = ap length none in let c = length-append (header_of first) r.bytes in let d = length-append r.bytes r'.bytes in omega arith) r'.ends;
    }

-- within the limit
front-bad : (n : ℕ) (rest : List ℕ) → IsTrue (has_bad_count (take n rest)) → IsTrue (has_bad_count rest)
front-bad n rest bad = ap has_bad_count (sym (take-append-drop n rest)) ∙ bad_count-append (take n rest) (drop n rest) bad

ends-whole : (total at : ℕ) (rest : List ℕ) (ending : Ending) → total ≤ input_limit → EndsAs total at rest ending → Ends at rest ending
ends-whole total at rest well few ends = ends.1
ends-whole total at rest (end_in_record place) few ends = (ends.0, ends.2, ends.3, ends.4)
ends-whole total at rest (bad_count place) few ends = (ends.0, front-bad (input_limit - at) rest ends.1)
ends-whole total at rest too_long few ends = absurd (let l = ends.0 in omega arith)

ends-limited : (total at : ℕ) (rest : List ℕ) (ending : Ending) → total ≤ input_limit → at + length rest ≡ total → Ends at rest ending → EndsAs total at rest ending
ends-limited total at rest well few size ends = (few, ends)
ends-limited total at rest (end_in_record place) few size ends = (ends.0, few, ends.1, ends.2, ends.3)
ends-limited total at rest (bad_count place) few size ends =
    (ends.0, ap has_bad_count (take_all (input_limit - at) rest (omega arith)) ∙ ends.1)
ends-limited total at rest too_long few size ends = absurd ends

parts-size : (input front bytes rest : List ℕ) → input ≡ front ++ (bytes ++ rest) → (length front + length bytes) + length rest ≡ length input
parts-size input front bytes rest parts = let a = ap length parts in let b = length-append front (bytes ++ rest) in let c = length-append bytes rest in omega arith

pub read-limited : ReadWithinLimit
read-limited input records ending few = (
  λ r. record {
    bytes = r.bytes;
    rest = r.rest;
    parts = r.parts;
    are = r.are;
    ends = ends-whole (length input) (length (header_of input) + length r.bytes) r.rest ending few r.ends;
  },
  λ r.
      let size = parts-size input (header_of input) r.bytes r.rest r.parts in
      record {
        bytes = r.bytes;
        rest = r.rest;
        parts = r.parts;
        are = r.are;
        within = omega arith;
        ends = ends-limited (length input) (length (header_of input) + length r.bytes) r.rest ending few size r.ends;
      },
)

-- where a record stands
record-stands : (rest first later : List ℕ) (lists : Lists) → IsRecord first lists → rest ≡ first ++ later → NoRecord rest → ⊥
record-stands rest first later lists is parts none =
    none (length first) lists (subst (λ (x : List ℕ). IsRecord x lists) (sym (ap (λ (x : List ℕ). take (length first) x) parts ∙ take_at first later (length first) refl)) is)

-- no ending does
no-end : (at : ℕ) (rest first later : List ℕ) (lists : Lists) (ending : Ending) → IsRecord first lists → rest ≡ first ++ later → Ends at rest ending → ⊥
no-end at rest first later lists well is parts ends = omega (arith, record-positive first lists is, length-append first later, ap length (sym parts ∙ ends))
no-end at rest first later lists (end_in_record place) is parts ends = record-stands rest first later lists is parts ends.3
no-end at rest first later lists (bad_count place) is parts ends = false≢true (sym (record-no_bad_count first later lists is) ∙ ap has_bad_count (sym parts) ∙ ends.1)
no-end at rest first later lists too_long is parts ends = ends

nothing-bad : (rest : List ℕ) → rest ≡ [] → IsTrue (has_bad_count rest) → ⊥
nothing-bad rest none bad = false≢true (ap has_bad_count (sym none) ∙ bad)

one-end : (at : ℕ) (rest : List ℕ) (e e' : Ending) → Ends at rest e → Ends at rest e' → e ≡ e'
one-end at rest well well ends ends' = refl
one-end at rest well (end_in_record p) ends ends' = absurd (omega (arith, ap length ends, ends'.1))
one-end at rest well (bad_count p) ends ends' = absurd (nothing-bad rest ends ends'.1)
one-end at rest well too_long ends ends' = absurd ends'
one-end at rest (end_in_record p) well ends ends' = absurd (omega (arith, ap length ends', ends.1))
one-end at rest (end_in_record p) (end_in_record q) ends ends' = ap (λ (n : ℕ). end_in_record n) (ends.0 ∙ sym ends'.0)
one-end at rest (end_in_record p) (bad_count q) ends ends' = absurd (false≢true (sym ends.2 ∙ ends'.1))
one-end at rest (end_in_record p) too_long ends ends' = absurd ends'
one-end at rest (bad_count p) well ends ends' = absurd (nothing-bad rest ends' ends.1)
one-end at rest (bad_count p) (end_in_record q) ends ends' = absurd (false≢true (sym ends'.2 ∙ ends.1))
one-end at rest (bad_count p) (bad_count q) ends ends' = ap (λ (n : ℕ). bad_count n) (ends.0 ∙ sym ends'.0)
one-end at rest (bad_count p) too_long ends ends' = absurd ends'
one-end at rest too_long e' ends ends' = absurd ends

-- two readings from a place on
records-one : (at : ℕ) (records records' : List Lists) (bytes bytes' rest rest' : List ℕ) (e e' : Ending) → bytes ++ rest ≡ bytes' ++ rest' → AreRecords bytes records → AreRecords bytes' records' → Ends (at + length bytes) rest e → Ends (at + length bytes') rest' e' → (records ≡ records') × (e ≡ e')
records-one at [] [] bytes bytes' rest rest' e e' same are are' ends ends' =
    let left : rest ≡ rest' = ap (λ (x : List ℕ). x ++ rest) (sym are) ∙ same ∙ ap (λ (x : List ℕ). x ++ rest') are' in
    let place : at + length bytes' ≡ at + length bytes = ap (λ (x : List ℕ). at + length x) (are' ∙ sym are) in
    (refl, one-end (at + length bytes) rest e e' ends (subst (λ (n : ℕ). Ends n rest e') place (subst (λ (x : List ℕ). Ends (at + length bytes') x e') (sym left) ends')))
records-one at [] (l ∷ records') bytes bytes' rest rest' e e' same are are' ends ends' =
    absurd (no-end (at + length bytes) rest are'.0 (are'.1 ++ rest') l e are'.2
    (ap (λ (x : List ℕ). x ++ rest) (sym are) ∙ same ∙ ap (λ (x : List ℕ). x ++ rest') are'.4 ∙ append_assoc are'.0 are'.1 rest') ends)
records-one at (l ∷ records) [] bytes bytes' rest rest' e e' same are are' ends ends' =
    absurd (no-end (at + length bytes') rest' are.0 (are.1 ++ rest) l e' are.2
    (ap (λ (x : List ℕ). x ++ rest') (sym are') ∙ sym same ∙ ap (λ (x : List ℕ). x ++ rest) are.4 ∙ append_assoc are.0 are.1 rest) ends')
records-one at (l ∷ records) (l' ∷ records') bytes bytes' rest rest' e e' same are are' ends ends' =
    let parts : are.0 ++ (are.1 ++ rest) ≡ are'.0 ++ (are'.1 ++ rest') = sym (append_assoc are.0 are.1 rest) ∙ ap (λ (x : List ℕ). x ++ rest) (sym are.4) ∙ same ∙ ap (λ (x : List ℕ). x ++ rest') are'.4 ∙ append_assoc are'.0 are'.1 rest' in
    let one = record-unique are.0 are'.0 (are.1 ++ rest) (are'.1 ++ rest') l l' are.2 are'.2 parts in
    let long = ap length are.4 ∙ length-append are.0 are.1 in
    let long' = ap length are'.4 ∙ length-append are'.0 are'.1 in
    let first = ap length one.0 in
    let place : at + length bytes ≡ (at + length are.0) + length are.1 = omega arith in
    let place' : at + length bytes' ≡ (at + length are.0) + length are'.1 = omega arith in
    let later = records-one (at + length are.0) records records' are.1 are'.1 rest rest' e e' one.2 are.3 are'.3 (subst (λ (n : ℕ). Ends n rest e) place ends) (subst (λ (n : ℕ). Ends n rest' e') place' ends') in
    (ap (λ (x : Lists). x ∷ records) one.1 ∙ ap (λ (x : List Lists). l' ∷ x) later.0, later.1)

pub whole-one : OneWholeReading
whole-one input records records' e e' r r' =
    records-one (length (header_of input)) records records' r.bytes r'.bytes r.rest r'.rest e e'
    (append_cancel_left (header_of input) (r.bytes ++ r.rest) (r'.bytes ++ r'.rest) (sym r.parts ∙ r'.parts)) r.are r'.are r.ends r'.ends

-- records reach no further than to where none stands
records-reach : (records records' : List Lists) (bytes bytes' rest rest' : List ℕ) → bytes ++ rest ≡ bytes' ++ rest' → AreRecords bytes records → AreRecords bytes' records' → NoRecord rest → length bytes' ≤ length bytes
records-reach records [] bytes bytes' rest rest' same are are' none = let e = ap length are' in omega arith
records-reach [] (l ∷ records') bytes bytes' rest rest' same are are' none =
    absurd (record-stands rest are'.0 (are'.1 ++ rest') l are'.2
    (ap (λ (x : List ℕ). x ++ rest) (sym are) ∙ same ∙ ap (λ (x : List ℕ). x ++ rest') are'.4 ∙ append_assoc are'.0 are'.1 rest') none)
records-reach (l ∷ records) (l' ∷ records') bytes bytes' rest rest' same are are' none =
    let parts : are.0 ++ (are.1 ++ rest) ≡ are'.0 ++ (are'.1 ++ rest') = sym (append_assoc are.0 are.1 rest) ∙ ap (λ (x : List ℕ). x ++ rest) (sym are.4) ∙ same ∙ ap (λ (x : List ℕ). x ++ rest') are'.4 ∙ append_assoc are'.0 are'.1 rest' in
    let one = record-unique are.0 are'.0 (are.1 ++ rest) (are'.1 ++ rest') l l' are.2 are'.2 parts in
    let long = ap length are.4 ∙ length-append are.0 are.1 in
    let long' = ap length are'.4 ∙ length-append are'.0 are'.1 in
    let first = ap length one.0 in
    let later = records-reach records records' are.1 are'.1 rest rest' one.2 are.3 are'.3 none in
    omega arith

-- the header of the first bytes of an input, no fewer than its header
header-front : (input : List ℕ) (n : ℕ) → n ≤ length input → length (header_of input) ≤ n → header_of (take n input) ≡ header_of input
header-front input n within least = by (is_header (take 15 input)) refl
  where
    short : IsFalse (is_header (take 15 input)) → (n < 15) ⊎ (15 ≤ n) → IsFalse (is_header (take 15 (take n input)))
    short e (inl few) =
        is_header-false (take 15 (take n input)) (λ (same : take 15 (take n input) ≡ header).
        let l = ap length (sym (take_all 15 (take n input) (let t = length-take-le n input within in omega arith)) ∙ same) in
        let t = length-take-le n input within in omega arith)
    short e (inr many) = ap is_header (take-take 15 n input many) ∙ e

    by : (b : Bool) → is_header (take 15 input) ≡ b → header_of (take n input) ≡ header_of input
    by true e =
        let front : header_of input ≡ header = rw e refl in
        let long : 15 ≤ n = let l = ap length front in omega arith in
        ap (λ (x : List ℕ). if is_header x then header else []) (take-take 15 n input long)
    by false e = header_of-none (take n input) (short e (cases_lt n 15)) ∙ sym (header_of-none input e)

-- an input is its header and what follows
header-split : (input : List ℕ) → input ≡ header_of input ++ drop (length (header_of input)) input
header-split input = by (is_header (take 15 input)) refl
  where
    by : (b : Bool) → is_header (take 15 input) ≡ b → input ≡ header_of input ++ drop (length (header_of input)) input
    by true e =
        let front : header_of input ≡ header = rw e refl in
        let same : take 15 input ≡ header = (bytes_eq-Decides (take 15 input) header).0 e in
        sym (take-append-drop 15 input) ∙ ap (λ (x : List ℕ). x ++ drop 15 input) same
        ∙ ap (λ (x : List ℕ). x ++ drop (length x) input) (sym front)
    by false e = ap (λ (x : List ℕ). x ++ drop (length x) input) (sym (header_of-none input e))

-- so are its first bytes
front-split : (input : List ℕ) (n : ℕ) → length (header_of input) ≤ n → take n input ≡ header_of input ++ slice_range input (length (header_of input)) n
front-split input n least =
    let far : n ≡ length (header_of input) + (n - length (header_of input)) = omega arith in
    ap (λ (x : List ℕ). take n x) (header-split input)
    ∙ ap (λ (k : ℕ). take k (header_of input ++ drop (length (header_of input)) input)) far
    ∙ take-append-add (header_of input) (drop (length (header_of input)) input) (n - length (header_of input))

-- what follows the header, up to a place and behind it
rest-split : (input : List ℕ) (n : ℕ) → length (header_of input) ≤ n → drop (length (header_of input)) input ≡ slice_range input (length (header_of input)) n ++ drop n input
rest-split input n least =
    let far : length (header_of input) + (n - length (header_of input)) ≡ n = omega arith in
    sym (take-append-drop (n - length (header_of input)) (drop (length (header_of input)) input))
    ∙ ap (λ (x : List ℕ). slice_range input (length (header_of input)) n ++ x) (drops input (length (header_of input)) (n - length (header_of input)) n far)
  where
    drops : (xs : List ℕ) (a b n : ℕ) → a + b ≡ n → drop b (drop a xs) ≡ drop n xs
    drops xs a b n e = drop-drop b a xs ∙ ap (λ (k : ℕ). drop k xs) e

slice-length : (input : List ℕ) (n : ℕ) → length (header_of input) ≤ n → n ≤ length input → length (header_of input) + length (slice_range input (length (header_of input)) n) ≡ n
slice-length input n least within =
    let a = ap length (front-split input n least) in
    let b = length-append (header_of input) (slice_range input (length (header_of input)) n) in
    let c = length-take-le n input within in omega arith

-- a cut stands where the records end that no other follows
pub cut-from : (input : List ℕ) (end count : ℕ) → IsUpTo input end count → NoRecord (drop end input) → IsCut input end count
cut-from input end count upto none = record {
  within = upto.within;
  records = upto.records;
  counted = upto.counted;
  reads = record {
    bytes = slice_range input (length (header_of input)) end;
    rest = [];
    parts = front-split input end upto.behind_header
        ∙ ap (λ (x : List ℕ). header_of input ++ x) (sym (append-nil (slice_range input (length (header_of input)) end)))
        ∙ ap (λ (x : List ℕ). x ++ (slice_range input (length (header_of input)) end ++ [])) (sym (header-front input end upto.within upto.behind_header));
    are = upto.are;
    ends = refl;
  };
  greatest = λ longer records' more within r.
      let least : length (header_of input) ≤ longer = let l = upto.behind_header in omega arith in
      let same = header-front input longer within least in
      let front : header_of input ++ r.bytes ≡ header_of input ++ slice_range input (length (header_of input)) longer =
      sym (r.parts ∙ ap (λ (x : List ℕ). x ++ (r.bytes ++ r.rest)) same
      ∙ ap (λ (x : List ℕ). header_of input ++ (r.bytes ++ x)) r.ends ∙ ap (λ (x : List ℕ). header_of input ++ x) (append-nil r.bytes))
      ∙ front-split input longer least in
      let bytes : r.bytes ≡ slice_range input (length (header_of input)) longer = append_cancel_left (header_of input) r.bytes (slice_range input (length (header_of input)) longer) front in
      let two = sym (rest-split input end upto.behind_header) ∙ rest-split input longer least in
      let reach = records-reach upto.records records' (slice_range input (length (header_of input)) end) (slice_range input (length (header_of input)) longer) (drop end input) (drop longer input) two upto.are (subst (λ (x : List ℕ). AreRecords x records') bytes r.are) none in
      let a = slice-length input end upto.behind_header upto.within in
      let b = slice-length input longer least within in omega arith;
}

-- behind the header there is none yet
pub upto-header : (input : List ℕ) (end : ℕ) → end ≡ length (header_of input) → end ≤ length input → IsUpTo input end 0
upto-header input end e within = record {
  behind_header = omega (arith, e);
  within = within;
  few = omega arith;
  records = [];
  counted = refl;
  are = let none : end - length (header_of input) ≡ 0 = omega (arith, e) in ap (λ (k : ℕ). take k (drop (length (header_of input)) input)) none;
}

-- and one record more
pub upto-more : (input : List ℕ) (end count next : ℕ) (lists : Lists) → IsUpTo input end count → end < next → next ≤ length input → IsRecord (slice_range input end next) lists → IsUpTo input next (count + 1)
upto-more input end count next lists upto more within is =
    let h : ℕ = length (header_of input) in
    let least = upto.behind_header in
    let w = upto.within in
    let joined : slice_range input h next ≡ slice_range input h end ++ slice_range input end next =
    ap (λ (k : ℕ). take k (drop h input)) (let e : next - h ≡ (end - h) + (next - end) = omega arith in e)
    ∙ take-parts (drop h input) (end - h) (next - end) (let l = length-drop h input in omega arith)
    ∙ ap (λ (x : List ℕ). slice_range input h end ++ take (next - end) x) (drop-drop (end - h) h input ∙ ap (λ (k : ℕ). drop k input) (let e : h + (end - h) ≡ end = omega arith in e)) in
    record {
      behind_header = omega arith;
      within = within;
      few = let f = upto.few in omega arith;
      records = upto.records ++ lists ∷ [];
      counted = let c = upto.counted in let l = length-append upto.records (lists ∷ []) in omega arith;
      are = subst (λ (x : List ℕ). AreRecords x (upto.records ++ lists ∷ [])) (sym joined) (AreRecords-push (slice_range input h end) upto.records (slice_range input end next) lists upto.are is);
    }

-- a bad count is no record
pub bad-none : (rest : List ℕ) → IsTrue (has_bad_count rest) → NoRecord rest
bad-none rest bad n lists is =
    false≢true (sym (record-no_bad_count (take n rest) (drop n rest) lists is) ∙ ap has_bad_count (take-append-drop n rest) ∙ bad)

-- behind all bytes there is no record
pub cut-at-end : (input : List ℕ) (end count : ℕ) → IsUpTo input end count → length input ≤ end → IsCut input end count
cut-at-end input end count upto all =
    let none : drop end input ≡ [] = drop_all end input all in
    cut-from input end count upto (subst NoRecord (sym none) NoRecord-nil)

pub header-within : (input : List ℕ) → length (header_of input) ≤ length input
header-within input =
    let a = ap length (header-split input) in
    let b = length-append (header_of input) (drop (length (header_of input)) input) in omega arith
