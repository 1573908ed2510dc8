-- Numbers that join the lists of a record one by one.
use Rattle.std.proofs.Common.{◌≡◌, ℕ, zero, suc, ◌+◌, ◌*◌, ◌<◌, ◌≤◌, List, [], ◌∷◌, ◌++◌, length, get_or, take, flat_map, refl, sym, ap, subst, ◌∙◌, arith, append_assoc}
use Rattle.std.proofs.lemmas.List.{append-nil, length-append, length-take-le, take_more}
use Rattle.std.proofs.lemmas.Grind.{flat_map-append}
use Rattle.planar_code.specs.Reading.{two_bytes}
use Rattle.planar_code.specs.Open.{Open, numbers_of, Collects, IsOpen, Gathers}
use Rattle.planar_code.proofs.ScanLemmas.{collected, collected-closed, collected-length, collected-small, collected-small_last, pair_of}

-- no numbers
pub gathers-none : (few limit count : ℕ) (now : Open) → IsOpen few limit count now.lists now.last → Gathers limit count [] now now
gathers-none few limit count now is = grind (arith, append-nil, numbers_of)

-- one number more, where not all lists are closed
pub gathers-more : (limit count number : ℕ) (numbers : List ℕ) (old mid new : Open) → number ≤ limit → length mid.lists < count → Gathers limit count numbers old mid → Collects number mid.lists mid.last new.lists new.last → mid.room ≤ new.room + 1 → new.most ≡ mid.most → Gathers limit count (numbers ++ number ∷ []) old new
gathers-more limit count number numbers old mid new low some is collects room most =
    let more = collected-length number mid.lists mid.last new.lists new.last collects in
    record {
      joined = collected number mid.lists mid.last new.lists new.last collects ∙ ap (λ (x : List ℕ). x ++ number ∷ []) is.joined ∙ append_assoc (numbers_of old.lists old.last) numbers (number ∷ []);
      few = omega arith;
      full = λ e. collected-closed number mid.lists mid.last new.lists new.last collects (omega (arith, e));
      small_lists = collected-small limit number mid.lists mid.last new.lists new.last low is.small_lists is.small_last collects;
      small_last = collected-small_last limit number mid.lists mid.last new.lists new.last low is.small_last collects;
      room = omega (arith, length-append numbers (number ∷ []));
      most = most ∙ is.most;
    }

-- the lists are not yet as many as the count says where the number is no 0, or where they are not as many then
pub still-some : (count number : ℕ) (mid new : Open) → length mid.lists < count → Collects number mid.lists mid.last new.lists new.last → (number ≡ 0 → length new.lists ≡ count → ⊥) → length new.lists < count
still-some count zero mid new some collects not =
    omega (arith, collected-length zero mid.lists mid.last new.lists new.last collects)
still-some count (suc u) mid new some collects not = omega (arith, ap length collects.0)

-- the bytes of a narrow record so far, and one more
pub narrow-gathers : (count k number : ℕ) (piece : List ℕ) (old mid new : Open) → k < length piece → number ≡ get_or piece k 0 → number < 256 → length mid.lists < count → Gathers 255 count (take k piece) old mid → Collects number mid.lists mid.last new.lists new.last → mid.room ≤ new.room + 1 → new.most ≡ mid.most → Gathers 255 count (take (k + 1) piece) old new
narrow-gathers count k number piece old mid new within at low some is collects room most =
    let P : List ℕ → Type 0 = λ x. Gathers 255 count x old new in
    subst P (ap (λ (x : ℕ). take k piece ++ x ∷ []) at ∙ sym (take_more piece k 0 within))
    (gathers-more 255 count number (take k piece) old mid new (omega arith) some is collects room most)

-- the bytes are numbers of two bytes each, which join the lists
abbrev pub GathersWide : ℕ → List ℕ → Open → Open → Type 0
GathersWide count bytes old new = (numbers : List ℕ) × (flat_map two_bytes numbers ≡ bytes) × Gathers 65535 count numbers old new

-- two bytes more
take-pair : (piece : List ℕ) (k : ℕ) → k + 1 < length piece → take (k + 2) piece ≡ take k piece ++ (get_or piece k 0 ∷ get_or piece (k + 1) 0 ∷ [])
take-pair piece k within =
    let two : k + 2 ≡ (k + 1) + 1 = omega arith in
    ap (λ (n : ℕ). take n piece) two ∙ take_more piece (k + 1) 0 within
    ∙ ap (λ (x : List ℕ). x ++ get_or piece (k + 1) 0 ∷ []) (take_more piece k 0 (omega arith))
    ∙ append_assoc (take k piece) (get_or piece k 0 ∷ []) (get_or piece (k + 1) 0 ∷ [])

-- the pairs of a wide record so far, and one more
pub wide-gathers : (count k number : ℕ) (piece : List ℕ) (old mid new : Open) → ((i : ℕ) → get_or piece i 0 < 256) → 2 * k + 1 < length piece → number ≡ 256 * get_or piece (2 * k) 0 + get_or piece (2 * k + 1) 0 → length mid.lists < count → GathersWide count (take (2 * k) piece) old mid → Collects number mid.lists mid.last new.lists new.last → mid.room ≤ new.room + 1 → new.most ≡ mid.most → GathersWide count (take (2 * (k + 1)) piece) old new
wide-gathers count k number piece old mid new bytes within is_number some is collects room most =
    let low = get_or piece (2 * k + 1) 0 in
    let next : 2 * k + 2 ≡ 2 * (k + 1) = omega arith in (
      is.0 ++ number ∷ [],
      flat_map-append two_bytes is.0 (number ∷ [])
          ∙ ap (λ (x : List ℕ). x ++ two_bytes number) is.1
          ∙ ap (λ (x : List ℕ). take (2 * k) piece ++ x) (ap two_bytes is_number ∙ pair_of (get_or piece (2 * k) 0) low (bytes (2 * k + 1)))
          ∙ sym (take-pair piece (2 * k) within)
          ∙ ap (λ (n : ℕ). take n piece) next,
      gathers-more 65535 count number is.0 old mid new (omega (arith, is_number, bytes (2 * k), bytes (2 * k + 1))) some is.2 collects room most,
    )

-- two bytes for each number
pairs-length : (numbers : List ℕ) → length (flat_map two_bytes numbers) ≡ 2 * length numbers
pairs-length [] = refl
pairs-length (n ∷ numbers) = omega (arith, pairs-length numbers)

-- there is room left for the bytes to come
pub wide-room : (count : ℕ) (bytes : List ℕ) (old new : Open) → GathersWide count bytes old new → old.room ≤ new.room + length bytes
wide-room count bytes old new is =
    omega (arith, pairs-length is.0, ap length is.1)

-- there is room for a pair to come
pub wide-some_room : (count k : ℕ) (piece : List ℕ) (old new : Open) → length piece ≤ old.room → 2 * k < length piece → GathersWide count (take (2 * k) piece) old new → 0 < new.room
wide-some_room count k piece old new room within is =
    omega (arith, wide-room count (take (2 * k) piece) old new is, length-take-le (2 * k) piece (omega arith))
