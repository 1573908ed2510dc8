-- How far a scanner comes with a piece of bytes, phase by phase.
use Rattle.std.proofs.Common.{◌≡◌, ℕ, ◌+◌, ◌*◌, ◌-◌, ◌/◌, ◌%◌, ◌<◌, ◌≤◌, Bool, true, false, List, [], ◌∷◌, ◌++◌, length, get_or, take, flat_map, All, refl, sym, ap, subst, ◌∙◌, inl, inr, arith, append_assoc}
use Rattle.std.proofs.lemmas.List.{append-nil, length-append, length-take-le, same_from_push}
use Rattle.std.proofs.lemmas.List.Elements.{All-nil}
use Rattle.std.proofs.lemmas.Grind.{flat_map-append}
use Rattle.std.proofs.lemmas.Bool.Decides.{nat_tests}
use Rattle.std.specs.Prelude.{◌⊎◌, nat_le, IsTrue, IsFalse}
use Rattle.map_lists.specs.Lists.{Lists}
use Rattle.planar_code.specs.Reading.{record_numbers, two_bytes, IsRecord, is_bad_count}
use Rattle.planar_code.specs.declared.record_scanner.Phase.{Phase}
use Rattle.planar_code.specs.declared.record_scanner.Phase.TheVariants.{Start, WideStart, WideHigh, Narrow, Wide, WideHalf}
use Rattle.planar_code.specs.declared.record_scanner.Scanned.{Scanned}
use Rattle.planar_code.specs.declared.record_scanner.Scanned.TheVariants.{More, Ended, Bad}
use Rattle.planar_code.specs.Open.{Open, numbers_of, IsOpen, Gathers, Collects}
use Rattle.planar_code.specs.Scan.{bytes_of, IsScanned, GoesOn, Passes, room_of, most_lists, Advances}
use Rattle.planar_code.proofs.GatherLemmas.{GathersWide, gathers-none, gathers-more, wide-room}
use Rattle.planar_code.proofs.SplitLemmas.{take-first, take-next, last-split}
use Rattle.planar_code.proofs.PassLemmas.{Passes-append, narrow-passes, wide_bytes, half-goes_on, wide-push, wide-goes_on, wide-passes, ends-zero}
use Rattle.planar_code.proofs.ScanLemmas.{zeros, zeros-append, zeros-numbers_of, not_bad-first, not_bad-long, zero-no_record, pair-no_record, narrow-no_record, wide-no_record, pair_of}

-- there is no less room than the entries took
room-by : (most room room' k : ℕ) (b : Bool) → nat_le most_lists most ≡ b → room ≤ room' + k → room_of most room ≤ room_of most room' + k
room-by most room room' k true e le = rw e le
room-by most room room' k false e le = rw e (omega arith)

room_of-more : (most most' room room' k : ℕ) → most' ≡ most → room ≤ room' + k → room_of most room ≤ room_of most' room' + k
room_of-more most most' room room' k same le = rw same (room-by most room room' k (nat_le most_lists most) refl le)

-- one byte more
one-more : (phase phase' : Phase) (old new : Open) (lent : Lists) (piece : List ℕ) (b : ℕ) → 0 < length piece → get_or piece 0 0 ≡ b → IsScanned phase' new → GoesOn (bytes_of phase old ++ b ∷ []) → bytes_of phase' new ≡ bytes_of phase old ++ b ∷ [] → new.most ≡ old.most → old.room ≤ new.room + 1 → Advances phase old lent piece phase' (More 1) new lent
one-more phase phase' old new lent piece b some at is goes whole most room =
    let first : b ∷ [] ≡ take 1 piece = ap (λ (x : ℕ). x ∷ []) (sym at) ∙ sym (take-first piece some) in
    let P : List ℕ → Type 0 = λ x. Passes (bytes_of phase old) x in
    record {
      is = is;
      scans = (omega arith, subst P first (goes, tt), whole ∙ ap (λ (x : List ℕ). bytes_of phase old ++ x) first, refl, room_of-more old.most new.most old.room new.room 1 most room);
      some = omega arith;
    }

-- a record that ends with a piece of bytes, of which all before the last pass
ends-with : (phase : Phase) (old new : Open) (lent lists : Lists) (piece : List ℕ) (k : ℕ) → 0 < k → k ≤ length piece → Passes (bytes_of phase old) (take (k - 1) piece) → IsFalse (is_bad_count (bytes_of phase old ++ take k piece)) → IsRecord (bytes_of phase old ++ take k piece) lists → new.lists ≡ [] → new.last ≡ [] → Advances phase old lent piece Start (Ended k) new lists
ends-with phase old new lent lists piece k some within passes not_bad is none none' = record {
  is = (none, none');
  scans = ((some, within, passes), not_bad, is, refl);
  some = some;
}

module _ (piece : List ℕ) (some : 0 < length piece) (now : Open) (lent : Lists) where
  -- a first byte 0, and the high byte of a count
  pub begins-wide : get_or piece 0 0 ≡ 0 → IsScanned Start now → Advances Start now lent piece WideStart (More 1) now lent
  begins-wide at is =
      one-more Start WideStart now now lent piece 0 some at is (refl, zero-no_record) refl refl (omega arith)

  pub begins-high : (b : ℕ) → get_or piece 0 0 ≡ b → IsScanned WideStart now → Advances WideStart now lent piece (WideHigh b) (More 1) now lent
  begins-high b at is =
      one-more WideStart (WideHigh b) now now lent piece b some at is (refl, pair-no_record b) refl refl (omega arith)

  -- a first byte that is the number of lists
  pub begins-narrow : (b : ℕ) → get_or piece 0 0 ≡ b → 0 < b → b < 256 → IsScanned Start now → Advances Start now lent piece (Narrow b) (More 1) now lent
  begins-narrow b at positive small is =
      one-more Start (Narrow b) now now lent piece b some at
      (record { few_lists = small; some_left = rw is.0 positive; small_lists = rw is.0 (All-nil (λ us. All (λ u. u < 255) us)); small_last = rw is.1 (All-nil (λ u. u < 255)) })
      (not_bad-first b [] positive, narrow-no_record b [] positive positive)
      (rw (is.0, is.1) refl) refl (omega arith)

  -- a bad count
  pub count-bad : (high low n : ℕ) → get_or piece 0 0 ≡ low → n ≡ 256 * high + low → (n ≡ 0) ⊎ ((n ≡ 0 → ⊥) × (4095 < n)) → IsScanned (WideHigh high) now → Advances (WideHigh high) now lent piece (WideHigh high) (Bad 1) now lent
  count-bad high low n at is_n bad is =
      let first : low ∷ [] ≡ take 1 piece = ap (λ (x : ℕ). x ∷ []) (sym at) ∙ sym (take-first piece some) in
      let P : List ℕ → Type 0 = λ x. IsTrue (is_bad_count (0 ∷ high ∷ x)) in
      record { is = is; scans = ((omega arith, omega arith, tt), subst P first (bad_bytes high low (rw is_n at bad)), refl, refl); some = omega arith }
    where
      bad_bytes : (high low : ℕ) → (256 * high + low ≡ 0) ⊎ ((256 * high + low ≡ 0 → ⊥) × (4095 < 256 * high + low)) → IsTrue (is_bad_count (0 ∷ high ∷ low ∷ []))
      bad_bytes high low (inl none) = grind (arith, nat_tests)
      bad_bytes high low (inr (_, many)) = grind (arith, nat_tests)

  -- a count
  pub count-ends : (high low n : ℕ) → get_or piece 0 0 ≡ low → low < 256 → n ≡ 256 * high + low → 0 < n → n ≤ 4095 → IsScanned (WideHigh high) now → Advances (WideHigh high) now lent piece (Wide n) (More 1) now lent
  count-ends high low n at small is_n positive most is =
      let whole : wide_bytes n [] ≡ 0 ∷ high ∷ low ∷ [] = rw is_n (ap (λ (x : List ℕ). 0 ∷ x) (pair_of high low small)) in
      one-more (WideHigh high) (Wide n) now now lent piece low some at
      (record { few_lists = omega arith; some_left = rw is.0 positive; small_lists = rw is.0 (All-nil (λ us. All (λ u. u < 65535) us)); small_last = rw is.1 (All-nil (λ u. u < 65535)) })
      (grind (arith, nat_tests), λ lists record'. wide-no_record n [] positive lists (rw whole record'))
      (rw (is.0, is.1) whole) refl (omega arith)

module _ (count : ℕ) (old new : Open) (lent : Lists) (piece : List ℕ) (k : ℕ) (some : 0 < k) (within : k ≤ length piece) where
  -- the numbers leave some lists open
  still-open : (few limit : ℕ) (numbers : List ℕ) → IsOpen few limit count old.lists old.last → Gathers limit count numbers old new → (length new.lists ≡ count → ⊥) → IsOpen few limit count new.lists new.last
  still-open few limit numbers is gathers not = grind arith

  -- how many lists the numbers close
  closes : (limit : ℕ) (numbers : List ℕ) → Gathers limit count numbers old new → zeros (numbers_of old.lists old.last ++ numbers) ≡ length new.lists
  closes limit numbers gathers = ap zeros (sym gathers.joined) ∙ zeros-numbers_of new.lists new.last

  -- where they close all, they are those of the record
  whole-numbers : (limit : ℕ) (numbers : List ℕ) → Gathers limit count numbers old new → length new.lists ≡ count → numbers_of old.lists old.last ++ numbers ≡ record_numbers new.lists
  whole-numbers limit numbers gathers all =
      sym gathers.joined ∙ rw (gathers.full all) (append-nil (record_numbers new.lists))

  -- and the last of them is 0, so that those before it close one list less
  few-before : (limit : ℕ) (front : List ℕ) (last : ℕ) → 0 < count → Gathers limit count (front ++ last ∷ []) old new → length new.lists ≡ count → zeros (numbers_of old.lists old.last ++ front) < count
  few-before limit front last positive gathers all =
      let whole : record_numbers new.lists ≡ (numbers_of old.lists old.last ++ front) ++ last ∷ [] = sym (whole-numbers limit (front ++ last ∷ []) gathers all) ∙ sym (append_assoc (numbers_of old.lists old.last) front (last ∷ [])) in
      let is_zero : last ≡ 0 = ends-zero new.lists (numbers_of old.lists old.last ++ front) last (omega (arith, all)) whole in
      let split : zeros ((numbers_of old.lists old.last ++ front) ++ last ∷ []) ≡ length new.lists = ap zeros (append_assoc (numbers_of old.lists old.last) front (last ∷ [])) ∙ closes limit (front ++ last ∷ []) gathers in
      omega (arith, ap (λ (x : ℕ). zeros (x ∷ [])) is_zero, zeros-append (numbers_of old.lists old.last ++ front) (last ∷ []), all)

  -- lists of a narrow record that leave some open
  pub narrow-more : IsScanned (Narrow count) old → Gathers 255 count (take k piece) old new → (length new.lists ≡ count → ⊥) → Advances (Narrow count) old lent piece (Narrow count) (More k) new lent
  narrow-more is gathers not =
      record {
        is = still-open 256 255 (take k piece) is gathers not;
        scans = (
          within,
          narrow-passes count (numbers_of old.lists old.last) (take k piece) (omega arith) (omega (arith, closes 255 (take k piece) gathers, not)),
          ap (λ (x : List ℕ). count ∷ x) gathers.joined,
          refl,
          room_of-more old.most new.most old.room new.room k gathers.most (omega (arith, length-take-le k piece within)),
        );
        some = some;
      }

  -- and those that end it
  pub narrow-ends : (after : Open) (lists : Lists) → IsScanned (Narrow count) old → Gathers 255 count (take k piece) old new → length new.lists ≡ count → lists ≡ new.lists → after.lists ≡ [] → after.last ≡ [] → Advances (Narrow count) old lent piece Start (Ended k) after lists
  narrow-ends after lists is gathers all same none none' =
      let small : count < 256 = is.few_lists in
      let front = take (k - 1) piece in
      let b = get_or piece (k - 1) 0 in
      let P : List ℕ → Type 0 = λ x. Gathers 255 count x old new in
      let spelled : (count ∷ numbers_of old.lists old.last) ++ take k piece ≡ length new.lists ∷ record_numbers new.lists = ap (λ (x : List ℕ). count ∷ x) (whole-numbers 255 (take k piece) gathers all) ∙ ap (λ (x : ℕ). x ∷ record_numbers new.lists) (sym all) in
      let Q : Lists → Type 0 = λ x. IsRecord ((count ∷ numbers_of old.lists old.last) ++ take k piece) x in
      ends-with (Narrow count) old after lent lists piece k some within
      (narrow-passes count (numbers_of old.lists old.last) front (omega arith) (few-before 255 front b (omega arith) (subst P (take-next piece k some within) gathers) all))
      (not_bad-first count (numbers_of old.lists old.last ++ take k piece) (omega arith))
      (subst Q (sym same) (inl record {
        some_list = omega (arith, all);
        few_lists = omega (arith, all);
        small = gathers.small_lists;
        spelled = spelled;
      }))
      none none'

  -- the bytes behind numbers of a wide record
  wide-joined : (numbers bytes : List ℕ) → flat_map two_bytes numbers ≡ bytes → Gathers 65535 count numbers old new → wide_bytes count (numbers_of new.lists new.last) ≡ wide_bytes count (numbers_of old.lists old.last) ++ bytes
  wide-joined numbers bytes e gathers =
      ap (λ (x : List ℕ). wide_bytes count x) gathers.joined
      ∙ ap (λ (x : List ℕ). 0 ∷ x) (flat_map-append two_bytes (count ∷ numbers_of old.lists old.last) numbers)
      ∙ ap (λ (x : List ℕ). wide_bytes count (numbers_of old.lists old.last) ++ x) e

  -- lists of a wide record that leave some open
  pub wide-more : IsScanned (Wide count) old → GathersWide count (take k piece) old new → (length new.lists ≡ count → ⊥) → Advances (Wide count) old lent piece (Wide count) (More k) new lent
  wide-more is gathers not =
      let P : List ℕ → Type 0 = λ x. Passes (wide_bytes count (numbers_of old.lists old.last)) x in
      record {
        is = still-open 4096 65535 gathers.0 is gathers.2 not;
        scans = (
          within,
          subst P gathers.1 (wide-passes count (numbers_of old.lists old.last) gathers.0 (omega (arith, closes 65535 gathers.0 gathers.2, not))),
          wide-joined gathers.0 (take k piece) gathers.1 gathers.2,
          refl,
          room_of-more old.most new.most old.room new.room k gathers.2.most (omega (arith, wide-room count (take k piece) old new gathers, length-take-le k piece within)),
        );
        some = some;
      }

  -- the bytes before the last of some numbers
  before-last : (numbers : List ℕ) → flat_map two_bytes numbers ≡ take k piece → (front : List ℕ) × (last : ℕ) × (numbers ≡ front ++ last ∷ []) × (take (k - 1) piece ≡ flat_map two_bytes front ++ (last / 256) ∷ [])
  before-last [] e = absurd (omega (arith, ap length e, length-take-le k piece within))
  before-last (n ∷ numbers) e =
      let split = last-split (n ∷ numbers) (omega arith) in
      let bytes : take k piece ≡ (flat_map two_bytes split.0 ++ (split.1 / 256) ∷ []) ++ (split.1 % 256) ∷ [] =
      sym e ∙ ap (λ (x : List ℕ). flat_map two_bytes x) split.2 ∙ flat_map-append two_bytes split.0 (split.1 ∷ [])
      ∙ sym (append_assoc (flat_map two_bytes split.0) ((split.1 / 256) ∷ []) ((split.1 % 256) ∷ [])) in
      (split.0, split.1, split.2, (same_from_push (take (k - 1) piece) (flat_map two_bytes split.0 ++ (split.1 / 256) ∷ []) (get_or piece (k - 1) 0) (split.1 % 256) (sym (take-next piece k some within) ∙ bytes)).0)

  -- the record of numbers that end it
  wide-is : (numbers bytes : List ℕ) (few : count < 4096) (positive : 0 < count) → flat_map two_bytes numbers ≡ bytes → Gathers 65535 count numbers old new → length new.lists ≡ count → IsRecord (wide_bytes count (numbers_of old.lists old.last) ++ bytes) new.lists
  wide-is numbers bytes few positive e gathers all =
      let spelled : wide_bytes count (numbers_of old.lists old.last) ++ bytes ≡ 0 ∷ flat_map two_bytes (length new.lists ∷ record_numbers new.lists) =
      sym (wide-joined numbers bytes e gathers)
      ∙ ap (λ (x : List ℕ). wide_bytes count x) (gathers.joined ∙ whole-numbers 65535 numbers gathers all)
      ∙ ap (λ (x : ℕ). wide_bytes x (record_numbers new.lists)) (sym all) in
      inr record {
        some_list = omega (arith, all);
        few_lists = omega (arith, all);
        small = gathers.small_lists;
        spelled = spelled;
      }

  -- and those that end it
  pub wide-ends : (after : Open) (lists : Lists) → IsScanned (Wide count) old → GathersWide count (take k piece) old new → length new.lists ≡ count → lists ≡ new.lists → after.lists ≡ [] → after.last ≡ [] → Advances (Wide count) old lent piece Start (Ended k) after lists
  wide-ends after lists is gathers all same none none' =
      let xs = numbers_of old.lists old.last in
      let cut = before-last gathers.0 gathers.1 in
      let P : List ℕ → Type 0 = λ x. Gathers 65535 count x old new in
      let few = few-before 65535 cut.0 cut.1 (omega arith) (subst P cut.2 gathers.2) all in
      let Q : List ℕ → Type 0 = λ x. Passes (wide_bytes count xs) x in
      let R : Lists → Type 0 = λ x. IsRecord (wide_bytes count xs ++ take k piece) x in
      let S : List ℕ → Type 0 = λ x. GoesOn (x ++ (cut.1 / 256) ∷ []) in
      let joined : wide_bytes count (xs ++ cut.0) ≡ wide_bytes count xs ++ flat_map two_bytes cut.0 = ap (λ (x : List ℕ). 0 ∷ x) (flat_map-append two_bytes (count ∷ xs) cut.0) in
      ends-with (Wide count) old after lent lists piece k some within
      (subst Q (sym cut.3) (Passes-append (wide_bytes count xs) (flat_map two_bytes cut.0) ((cut.1 / 256) ∷ []) (wide-passes count xs cut.0 few) (subst S joined (half-goes_on count (cut.1 / 256) (xs ++ cut.0)), tt)))
      (not_bad-long (wide_bytes count xs ++ take k piece) (omega (arith, length-append (wide_bytes count xs) (take k piece), length-take-le k piece within)))
      (subst R (sym same) (wide-is gathers.0 (take k piece) is.few_lists (omega arith) gathers.1 gathers.2 all))
      none none'

-- half a number of a wide record
pub half-begins : (count low : ℕ) (old : Open) (lent : Lists) (piece : List ℕ) → 0 < length piece → get_or piece 0 0 ≡ low → IsScanned (Wide count) old → Advances (Wide count) old lent piece (WideHalf count low) (More 1) old lent
half-begins count low old lent piece some at is =
    one-more (Wide count) (WideHalf count low) old old lent piece low some at is
    (half-goes_on count low (numbers_of old.lists old.last)) refl refl (omega arith)

module _ (count high low n : ℕ) (old new : Open) (lent : Lists) (piece : List ℕ) (some : 0 < length piece) (at : get_or piece 0 0 ≡ low) (small : low < 256) (is_n : n ≡ 256 * high + low) (fits : n < 65536) (is : IsScanned (WideHalf count high) old) (collects : Collects n old.lists old.last new.lists new.last) (room : old.room ≤ new.room + 1) (most : new.most ≡ old.most) where
  -- its other half joins the lists
  pub half-gathers : Gathers 65535 count (n ∷ []) old new
  half-gathers =
      gathers-more 65535 count n [] old old new (omega arith) is.some_left (gathers-none 4096 65535 count old is) collects room most

  halves : (n / 256 ≡ high) × (n % 256 ≡ low)
  halves = (omega arith, omega arith)

  half-bytes : wide_bytes count (numbers_of old.lists old.last ++ n ∷ []) ≡ bytes_of (WideHalf count high) old ++ low ∷ []
  half-bytes = sym (wide-push count n (numbers_of old.lists old.last)) ∙ ap (λ (x : ℕ). (wide_bytes count (numbers_of old.lists old.last) ++ x ∷ []) ++ (n % 256) ∷ []) halves.0 ∙ ap (λ (x : ℕ). (wide_bytes count (numbers_of old.lists old.last) ++ high ∷ []) ++ x ∷ []) halves.1

  -- where it leaves some open
  pub half-more : (length new.lists ≡ count → ⊥) → Advances (WideHalf count high) old lent piece (Wide count) (More 1) new lent
  half-more not =
      let gathers = half-gathers in
      let few : zeros (numbers_of old.lists old.last ++ n ∷ []) < count = omega (arith, ap zeros gathers.joined, zeros-numbers_of new.lists new.last, not) in
      let P : List ℕ → Type 0 = λ x. GoesOn x in
      one-more (WideHalf count high) (Wide count) old new lent piece low some at
      (record { few_lists = is.few_lists; some_left = omega (arith, not); small_lists = gathers.small_lists; small_last = gathers.small_last })
      (subst P (wide-push count n (numbers_of old.lists old.last) ∙ half-bytes) (wide-goes_on count n (numbers_of old.lists old.last) few))
      (ap (λ (x : List ℕ). wide_bytes count x) gathers.joined ∙ half-bytes)
      gathers.most gathers.room

  -- and where it ends the record
  pub half-ends : (after : Open) (lists : Lists) → length new.lists ≡ count → lists ≡ new.lists → after.lists ≡ [] → after.last ≡ [] → Advances (WideHalf count high) old lent piece Start (Ended 1) after lists
  half-ends after lists all same none none' =
      let gathers = half-gathers in
      let numbers : numbers_of new.lists new.last ≡ record_numbers new.lists = rw (gathers.full all) (append-nil (record_numbers new.lists)) in
      let first : low ∷ [] ≡ take 1 piece = ap (λ (x : ℕ). x ∷ []) (sym at) ∙ sym (take-first piece some) in
      let spelled : bytes_of (WideHalf count high) old ++ take 1 piece ≡ 0 ∷ flat_map two_bytes (length new.lists ∷ record_numbers new.lists) =
      ap (λ (x : List ℕ). bytes_of (WideHalf count high) old ++ x) (sym first) ∙ sym half-bytes
      ∙ ap (λ (x : List ℕ). wide_bytes count x) (sym gathers.joined ∙ numbers)
      ∙ ap (λ (x : ℕ). wide_bytes x (record_numbers new.lists)) (sym all) in
      let Q : Lists → Type 0 = λ x. IsRecord (bytes_of (WideHalf count high) old ++ take 1 piece) x in
      ends-with (WideHalf count high) old after lent lists piece 1 (omega arith) (omega arith) tt
      (not_bad-long (bytes_of (WideHalf count high) old ++ take 1 piece) (omega (arith, length-append (bytes_of (WideHalf count high) old) (take 1 piece), length-append (flat_map two_bytes (numbers_of old.lists old.last)) (high ∷ []), length-take-le 1 piece (omega arith))))
      (subst Q (sym same) (inr record { some_list = omega (arith, all); few_lists = (let f = is.few_lists in omega (arith, all)); small = gathers.small_lists; spelled = spelled }))
      none none'

-- what stayed as it was
pub Advances-same : (phase phase' : Phase) (old : Open) (lent : Lists) (piece : List ℕ) (scanned : Scanned) (new new' : Open) (lent' : Lists) → new' ≡ new → lent' ≡ lent → Advances phase old lent piece phase' scanned new lent → Advances phase old lent piece phase' scanned new' lent'
Advances-same phase phase' old lent piece scanned new new' lent' same same' is =
    let P : Open → Type 0 = λ x. Advances phase old lent piece phase' scanned x lent in
    let Q : Lists → Type 0 = λ x. Advances phase old lent piece phase' scanned new' x in
    subst Q (sym same') (subst P (sym same) is)

-- a phase that is known
pub Advances-at : (phase phase0 phase' : Phase) (old new : Open) (lent lent' : Lists) (piece : List ℕ) (scanned : Scanned) → phase ≡ phase0 → Advances phase0 old lent piece phase' scanned new lent' → Advances phase old lent piece phase' scanned new lent'
Advances-at phase phase0 phase' old new lent lent' piece scanned same is =
    let P : Phase → Type 0 = λ x. Advances x old lent piece phase' scanned new lent' in
    subst P (sym same) is
