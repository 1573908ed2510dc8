-- The bytes passed at an offset, and more of them.
use Rattle.std.proofs.Common.{◌≡◌, ℕ, ◌+◌, ◌-◌, ◌<◌, ◌≤◌, List, [], ◌∷◌, ◌++◌, length, take, drop, min, refl, sym, ap, subst, ◌∙◌, arith, append_assoc}
use Rattle.std.proofs.lemmas.List.{append-nil, take-append-drop, take_rest, take-take, length-drop, length-take}
use Rattle.std.specs.Prelude.{slice_range, IsTrue, IsFalse}
use Rattle.map_lists.specs.Lists.{Lists}
use Rattle.planar_code.specs.Reading.{IsRecord, NoRecord, has_bad_count, is_bad_count}
use Rattle.planar_code.specs.Scan.{Passes}
use Rattle.planar_code.proofs.RecordLemmas.{NoRecord-nil, NoRecord-push, no_bad_count-push, bad_count-append, bad_count-parts}
use Rattle.planar_code.proofs.PassLemmas.{Passes-append}
use Rattle.planar_code.proofs.ScansLemmas.{take-parts}

-- where bytes passed, no record stands at their front, nor a bad count
passed-from : (bytes more : List ℕ) → NoRecord bytes → IsFalse (has_bad_count bytes) → Passes bytes more → NoRecord (bytes ++ more) × IsFalse (has_bad_count (bytes ++ more))
passed-from bytes [] none none' passes =
    let P : List ℕ → Type 0 = λ x. NoRecord x × IsFalse (has_bad_count x) in
    subst P (sym (append-nil bytes)) (none, none')
passed-from bytes (b ∷ more) none none' passes =
    let P : List ℕ → Type 0 = λ x. NoRecord x × IsFalse (has_bad_count x) in
    subst P (append_assoc bytes (b ∷ []) more)
    (passed-from (bytes ++ b ∷ []) more (NoRecord-push bytes b none passes.0.1) (no_bad_count-push bytes b none' passes.0.0) passes.1)

pub passed-all : (bytes : List ℕ) → Passes [] bytes → NoRecord bytes × IsFalse (has_bad_count bytes)
passed-all bytes passes = passed-from [] bytes NoRecord-nil refl passes

-- a piece of the rest, of which k bytes are taken
module _ (rest scanned : List ℕ) (passed end k : ℕ) (within : passed ≤ length rest) (same : scanned ≡ take passed rest) (less : k ≤ length (take (end - passed) (drop passed rest))) where
  abbrev piece : List ℕ
  piece = take (end - passed) (drop passed rest)

  long : length piece ≡ min (end - passed) (length (drop passed rest))
  long = length-take (end - passed) (drop passed rest)

  -- the next bytes, as a part of the rest
  next-part : take k piece ≡ take k (drop passed rest)
  next-part = take-take k (end - passed) (drop passed rest) (omega (arith, less, long))

  -- the bytes passed and the next ones
  pub next-joined : scanned ++ take k piece ≡ take (passed + k) rest
  next-joined =
      ap (λ (x : List ℕ). x ++ take k piece) same ∙ ap (λ (x : List ℕ). take passed rest ++ x) next-part ∙ sym (take-parts rest passed k within)

  -- they are no more than the rest
  pub next-within : passed + k ≤ length rest
  next-within = omega (arith, less, long, length-drop passed rest)

-- bytes that pass behind those that passed
pub next-passes : (rest piece : List ℕ) (passed k : ℕ) → Passes [] (take passed rest) → Passes (take passed rest) (take k piece) → take passed rest ++ take k piece ≡ take (passed + k) rest → Passes [] (take (passed + k) rest)
next-passes rest piece passed k first then joined =
    let P : List ℕ → Type 0 = λ x. Passes [] x in
    subst P joined (Passes-append [] (take passed rest) (take k piece) first then)

module _ (bytes : List ℕ) (at : ℕ) (from : at ≤ length bytes) where
  -- the rest of the bytes
  abbrev pub rest_at : List ℕ
  rest_at = take (length bytes - at) (drop at bytes)

  -- a record that ends so far on stands at the offset
  pub record-at : (n end : ℕ) (whole : List ℕ) (lists : Lists) → 0 < n → end ≡ at + n → n ≤ length rest_at → whole ≡ take n rest_at → IsRecord whole lists → (at < end) × (end ≤ length bytes) × IsRecord (slice_range bytes at end) lists
  record-at n end whole lists some end_is within is record' =
      let far = length-drop at bytes in
      let long = ap length (take_rest bytes at) in
      let count : n ≡ end - at = omega arith in
      let part : whole ≡ slice_range bytes at end = is ∙ ap (λ (x : List ℕ). take n x) (take_rest bytes at) ∙ ap (λ (m : ℕ). take m (drop at bytes)) count in
      let P : List ℕ → Type 0 = λ x. IsRecord x lists in
      (omega arith, omega arith, subst P part record')

  -- so does a bad count
  pub bad-at : (n : ℕ) (whole : List ℕ) → whole ≡ take n rest_at → IsTrue (is_bad_count whole) → IsTrue (has_bad_count (drop at bytes))
  bad-at n whole is bad =
      let P : List ℕ → Type 0 = λ x. IsTrue (has_bad_count x) in
      let parts : whole ++ drop n rest_at ≡ drop at bytes = ap (λ (x : List ℕ). x ++ drop n rest_at) is ∙ take-append-drop n rest_at ∙ take_rest bytes at in
      subst P parts (bad_count-append whole (drop n rest_at) (bad_count-parts whole bad).1)
