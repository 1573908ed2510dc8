-- How pieces of bytes move a reader on.
use Rattle.std.proofs.Common.{◌≡◌, ℕ, suc, ◌+◌, ◌-◌, ◌<◌, ◌≤◌, Bool, false, ◌&&◌, List, [], ◌∷◌, ◌++◌, length, get_or, take, drop, refl, sym, ap, ap₂, subst, ◌∙◌, arith, append_assoc, Decides}
use Rattle.std.proofs.lemmas.List.{append-nil, length-append, length-drop, length-take-le, take_all, take_rest, take_more, take-append-le, take-append-drop, get_or-drop, get_or_append_left}
use Rattle.std.proofs.Math.Seq.{drop-cons}
use Rattle.std.proofs.lemmas.Bool.{false≢true}
use Rattle.std.specs.Prelude.{IsTrue, IsFalse, ◌==◌}
use Rattle.map_lists.specs.Lists.{Lists}
use Rattle.planar_code.specs.Reading.{IsRecord, is_bad_count, header, is_header}
use Rattle.planar_code.specs.State.{State, with_byte, after_more}
use Rattle.planar_code.specs.Scan.{Scan, Passes, Scans, Exhausts}
use Rattle.planar_code.specs.Front.{is_front, IsCounted}
use Rattle.planar_code.specs.Fed.{Feeds}
use Rattle.planar_code.specs.declared.record_reader.Fed.TheVariants.{Bad as FedBad, Record as FedRecord}
use Rattle.planar_code.specs.Taken.{after_all, AllJoin, StopsAt, Takes, shifted}
use Rattle.planar_code.specs.Place.{state_of, moved, told}
use Rattle.planar_code.specs.declared.record_reader.Place.{Place}
use Rattle.planar_code.specs.declared.record_scanner.Scanned.{Scanned}
use Rattle.planar_code.specs.declared.record_scanner.Scanned.TheVariants.{More as ScannedMore, Ended as ScannedEnded, Bad as ScannedBad}
use Rattle.planar_code.specs.declared.record_reader.Taken.{Taken}
use Rattle.planar_code.specs.declared.record_reader.Taken.TheVariants.{More, Ended, Bad}
use Rattle.planar_code.proofs.FrontLemmas.{front-shorter, header-longer, after-no_header, counted-push, ends-header}
use Rattle.planar_code.proofs.SplitLemmas.{take-next}
use Rattle.planar_code.proofs.ScansLemmas.{take-parts}

-- bytes behind some that joined
pub AllJoin-append : (state : State) (xs ys : List ℕ) → AllJoin state xs → AllJoin (after_all state xs) ys → AllJoin state (xs ++ ys)
AllJoin-append state [] ys first then = then
AllJoin-append state (x ∷ xs) ys first then =
    (first.0, AllJoin-append (after_more state (with_byte state x)) xs ys first.1 then)

after_all-append : (state : State) (xs ys : List ℕ) → after_all state (xs ++ ys) ≡ after_all (after_all state xs) ys
after_all-append state [] ys = refl
after_all-append state (x ∷ xs) ys = after_all-append (after_more state (with_byte state x)) xs ys

-- no header comes, or the bytes pending are no front of one
abbrev pub NoHeader : State → Type 0
NoHeader state = IsFalse (state.header_may_come && is_front state.pending)

no_header-here : (may : Bool) (bytes : List ℕ) (b : ℕ) → IsFalse (may && is_front bytes) → IsFalse (may && is_header (bytes ++ b ∷ []))
no_header-here x0 bytes b not = grind (arith, is_header, false≢true, header-longer)

no_header-next : (may : Bool) (bytes : List ℕ) (b : ℕ) → IsFalse (may && is_front bytes) → IsFalse (may && is_front (bytes ++ b ∷ []))
no_header-next x0 bytes b not = grind (arith, is_front, false≢true, front-shorter)

-- Bytes that pass join those pending where no header comes.
pub all-joined : (state : State) (bytes : List ℕ) → NoHeader state → Passes state.pending bytes → AllJoin state bytes × (after_all state bytes ≡ record state { pending = state.pending ++ bytes })
all-joined state [] not passes = (tt, ap (λ (x : List ℕ). record state { pending = x }) (sym (append-nil state.pending)))
all-joined state (b ∷ bytes) not passes =
    let next : State = record state { pending = with_byte state b } in
    let same : after_more state (with_byte state b) ≡ next = after-no_header state (with_byte state b) (no_header-here state.header_may_come state.pending b not) in
    let later = all-joined next bytes (no_header-next state.header_may_come state.pending b not) passes.1 in
    let P : State → Type 0 = λ s. AllJoin s bytes in (
      ((passes.0.0, passes.0.1, refl), subst P (sym same) later.0),
      ap (λ (s : State). after_all s bytes) same ∙ later.1 ∙ ap (λ (x : List ℕ). record state { pending = x }) (append_assoc state.pending (b ∷ []) bytes),
    )

-- no header comes however the bytes pending go on
no_header-all : (may : Bool) (bytes more : List ℕ) → IsFalse (may && is_front bytes) → IsFalse (may && is_front (bytes ++ more))
no_header-all may bytes [] not = rw (append-nil bytes) not
no_header-all may bytes (b ∷ more) not =
    let P : List ℕ → Type 0 = λ x. IsFalse (may && is_front x) in
    subst P (append_assoc bytes (b ∷ []) more) (no_header-all may (bytes ++ b ∷ []) more (no_header-next may bytes b not))

module _ (old new : Scan) (place : Place) (piece : List ℕ) (off : IsFalse place.in_header) (counted : IsCounted place.header_may_come old.bytes place.pending_len place.in_header) where
  no_header : NoHeader (state_of old place)
  no_header = sym counted.1 ∙ off

  -- bytes before byte k, and with it
  with-next : (k : ℕ) → 0 < k → k ≤ length piece → (old.bytes ++ take (k - 1) piece) ++ get_or piece (k - 1) 0 ∷ [] ≡ old.bytes ++ take k piece
  with-next k some within =
      append_assoc old.bytes (take (k - 1) piece) (get_or piece (k - 1) 0 ∷ []) ∙ ap (λ (x : List ℕ). old.bytes ++ x) (sym (take-next piece k some within))

  -- A piece where no header comes, as the reader answers it.
  plain-takes : (scanned : Scanned) → Scans old piece scanned new → Exhausts piece scanned → Takes (state_of old place) piece (told place scanned) (state_of new (moved place scanned))
  plain-takes (ScannedMore k) scans whole =
      let all : take k piece ≡ piece = take_all k piece (omega (arith, whole)) in
      let P : List ℕ → Type 0 = λ x. Passes old.bytes x in
      let joined = all-joined (state_of old place) piece no_header (subst P all scans.1) in
      let bytes : new.bytes ≡ old.bytes ++ piece = scans.2 ∙ ap (λ (x : List ℕ). old.bytes ++ x) all in
      (joined.0, ap₂ (λ (x : List ℕ) (y : Lists). record (state_of old place) { pending = x; lists = y }) bytes scans.3 ∙ sym joined.1)
  plain-takes (ScannedEnded k) scans whole =
      let within = scans.0.1 in
      let front = take (k - 1) piece in
      let b = get_or piece (k - 1) 0 in
      let joined = all-joined (state_of old place) front no_header scans.0.2 in
      let is : (old.bytes ++ front) ++ b ∷ [] ≡ old.bytes ++ take k piece = with-next k scans.0.0 within in
      let P : List ℕ → Type 0 = λ x. IsFalse (is_bad_count x) in
      let Q : List ℕ → Type 0 = λ x. IsRecord x new.lists in
      let R : State → Type 0 = λ s. Feeds s b (FedRecord new.lists) (record (state_of new (moved place (ScannedEnded k))) { lists = [] }) in
      let long : place.start + (place.pending_len + k) ≡ place.start + length ((old.bytes ++ front) ++ b ∷ []) = omega (arith, ap length is, length-append old.bytes (take k piece), length-take-le k piece within, counted.0) in (
        scans.0.0,
        within,
        joined.0,
        subst R (sym joined.1) (
          subst P (sym is) scans.1,
          subst Q (sym is) scans.2,
          ap₂ (λ (x : List ℕ) (n : ℕ). record { pending = x; start = n; header_may_come = false; lists = [] }) scans.3 long,
        ),
      )
  plain-takes (ScannedBad k) scans whole =
      let front = take (k - 1) piece in
      let b = get_or piece (k - 1) 0 in
      let joined = all-joined (state_of old place) front no_header scans.0.2 in
      let is : (old.bytes ++ front) ++ b ∷ [] ≡ old.bytes ++ take k piece = with-next k scans.0.0 scans.0.1 in
      let P : List ℕ → Type 0 = λ x. IsTrue (is_bad_count x) in
      let R : State → Type 0 = λ s. Feeds s b (FedBad place.start) (state_of new (moved place (ScannedBad k))) in (
        scans.0.0,
        scans.0.1,
        joined.0,
        subst R (sym joined.1) (
          subst P (sym is) scans.1,
          refl,
          ap₂ (λ (x : List ℕ) (y : Lists). record (state_of old place) { pending = x; lists = y }) scans.2 scans.3,
        ),
      )

  -- What the reader keeps of the bytes pending then.
  plain-counted : (scanned : Scanned) → Scans old piece scanned new → IsCounted (moved place scanned).header_may_come new.bytes (moved place scanned).pending_len (moved place scanned).in_header
  plain-counted x0 scans = grind (arith, ScannedMore, length, length-append, take, length-take-le, no_header-all, no_header, ScannedEnded, ScannedBad)

  -- A piece where no header comes, with the answer and the place told by equations.
  pub answered-takes : (scanned : Scanned) (place' : Place) (taken : Taken) → place' ≡ moved place scanned → taken ≡ told place scanned → Scans old piece scanned new → Exhausts piece scanned → Takes (state_of old place) piece taken (state_of new place')
  answered-takes scanned place' taken moves tells scans whole =
      let P : Place → Type 0 = λ p. Takes (state_of old place) piece taken (state_of new p) in
      let Q : Taken → Type 0 = λ t. Takes (state_of old place) piece t (state_of new (moved place scanned)) in
      subst P (sym moves) (subst Q (sym tells) (plain-takes scanned scans whole))

  pub answered-counted : (scanned : Scanned) (place' : Place) → place' ≡ moved place scanned → Scans old piece scanned new → IsCounted place'.header_may_come new.bytes place'.pending_len place'.in_header
  answered-counted scanned place' moves scans =
      let P : Place → Type 0 = λ p. IsCounted p.header_may_come new.bytes p.pending_len p.in_header in
      subst P (sym moves) (plain-counted scanned scans)

-- the same of a stop
stops-parts : (old mid : State) (piece : List ℕ) (n k : ℕ) → n ≤ length piece → AllJoin old (take n piece) → mid ≡ after_all old (take n piece) → (Does : State → ℕ → Type 0) → StopsAt mid (drop n piece) k Does → StopsAt old piece (n + k) Does
stops-parts old mid piece n k within first is Does stops =
    let m : n + (k - 1) ≡ n + k - 1 = omega arith in
    let front : take n piece ++ take (k - 1) (drop n piece) ≡ take (n + k - 1) piece = sym (take-parts piece n (k - 1) within) ∙ ap (λ (i : ℕ). take i piece) m in
    let at : after_all mid (take (k - 1) (drop n piece)) ≡ after_all old (take (n + k - 1) piece) =
    ap (λ (s : State). after_all s (take (k - 1) (drop n piece))) is ∙ sym (after_all-append old (take n piece) (take (k - 1) (drop n piece))) ∙ ap (λ (x : List ℕ). after_all old x) front in
    let P : State → Type 0 = λ s. AllJoin s (take (k - 1) (drop n piece)) in
    let Q : List ℕ → Type 0 = λ x. AllJoin old x in
    let R : State → Type 0 = λ s. Does s (get_or (drop n piece) (k - 1) 0) in
    let S : ℕ → Type 0 = λ b. Does (after_all old (take (n + k - 1) piece)) b in (
      omega arith,
      omega (arith, length-drop n piece),
      subst Q front (AllJoin-append old (take n piece) (take (k - 1) (drop n piece)) first (subst P is stops.2)),
      subst S (get_or-drop n piece (k - 1) 0 ∙ ap (λ (i : ℕ). get_or piece i 0) m) (subst R at stops.3),
    )

-- The first bytes of a piece joined, and what then came of the rest.
pub Takes-parts : (old mid new : State) (piece : List ℕ) (n : ℕ) (taken : Taken) → n ≤ length piece → AllJoin old (take n piece) → mid ≡ after_all old (take n piece) → Takes mid (drop n piece) taken new → Takes old piece (shifted n taken) new
Takes-parts old mid new piece n More within first is then =
    let P : State → Type 0 = λ s. AllJoin s (drop n piece) in
    let Q : List ℕ → Type 0 = λ x. AllJoin old x in
    let whole : take n piece ++ drop n piece ≡ piece = take-append-drop n piece in (
      subst Q whole (AllJoin-append old (take n piece) (drop n piece) first (subst P is then.0)),
      then.1 ∙ ap (λ (s : State). after_all s (drop n piece)) is ∙ sym (after_all-append old (take n piece) (drop n piece)) ∙ ap (λ (x : List ℕ). after_all old x) whole,
    )
Takes-parts old mid new piece n (Ended k) within first is then =
    stops-parts old mid piece n k within first is (λ state byte. Feeds state byte (FedRecord new.lists) (record new { lists = [] })) then
Takes-parts old mid new piece n (Bad k place) within first is then =
    stops-parts old mid piece n k within first is (λ state byte. Feeds state byte (FedBad place) new) then

-- A byte that joins the bytes pending and ends no header.
module _ (old new : Scan) (place : Place) (b k : ℕ) (on : Bool) (counted : IsCounted place.header_may_come old.bytes place.pending_len place.in_header) (scans : Scans old (b ∷ []) (ScannedMore k) new) (one : k ≡ 1) (goes : Decides on (IsTrue place.in_header × (place.pending_len < 15) × (b ≡ get_or header place.pending_len 0))) where
  joined-byte : new.bytes ≡ old.bytes ++ b ∷ []
  joined-byte = scans.2 ∙ ap (λ (n : ℕ). old.bytes ++ take n (b ∷ [])) one

  pub byte-counted : IsCounted place.header_may_come new.bytes (place.pending_len + 1) on
  byte-counted = rw joined-byte (counted-push place.header_may_come old.bytes b place.pending_len place.in_header on counted goes)

  pub byte-takes : (ends : Bool) → ends ≡ (on && ((place.pending_len + 1) == 15)) → IsFalse ends → Takes (state_of old place) (b ∷ []) More (state_of new (record place { pending_len = place.pending_len + 1; in_header = on }))
  byte-takes ends is not =
      let state : State = state_of old place in
      let count = counted-push place.header_may_come old.bytes b place.pending_len place.in_header on counted goes in
      let no_header : IsFalse (place.header_may_come && is_header (old.bytes ++ b ∷ [])) = sym (ends-header place.header_may_come (old.bytes ++ b ∷ []) (place.pending_len + 1) on count) ∙ sym is ∙ not in
      let P : ℕ → Type 0 = λ n. Passes old.bytes (take n (b ∷ [])) in
      let passes : Passes old.bytes (b ∷ []) = subst P one scans.1 in (
        ((passes.0.0, passes.0.1, refl), tt),
        ap₂ (λ (x : List ℕ) (y : Lists). record state { pending = x; lists = y }) joined-byte scans.3 ∙ sym (after-no_header state (old.bytes ++ b ∷ []) no_header),
      )

-- a stop within a piece is one within a longer piece
stops-longer : (old : State) (xs ys : List ℕ) (k : ℕ) (Does : State → ℕ → Type 0) → StopsAt old xs k Does → StopsAt old (xs ++ ys) k Does
stops-longer old xs ys k Does stops =
    let front : take (k - 1) xs ≡ take (k - 1) (xs ++ ys) = sym (take-append-le (k - 1) xs ys (omega arith)) in
    let byte : get_or xs (k - 1) 0 ≡ get_or (xs ++ ys) (k - 1) 0 = sym (get_or_append_left xs ys 0 (k - 1) (omega arith)) in
    let P : List ℕ → Type 0 = λ x. AllJoin old x in
    let Q : List ℕ → Type 0 = λ x. Does (after_all old x) (get_or xs (k - 1) 0) in
    let R : ℕ → Type 0 = λ b. Does (after_all old (take (k - 1) (xs ++ ys))) b in
    (stops.0, omega (arith, length-append xs ys), subst P front stops.2, subst R byte (subst Q front stops.3))

Takes-longer : (old new : State) (xs ys : List ℕ) (taken : Taken) → (taken ≡ More → ⊥) → Takes old xs taken new → Takes old (xs ++ ys) taken new
Takes-longer old new xs ys More not takes = absurd (not refl)
Takes-longer old new xs ys (Ended k) not takes =
    stops-longer old xs ys k (λ state byte. Feeds state byte (FedRecord new.lists) (record new { lists = [] })) takes
Takes-longer old new xs ys (Bad k place) not takes =
    stops-longer old xs ys k (λ state byte. Feeds state byte (FedBad place) new) takes

module _ (old mid new : State) (piece : List ℕ) (k : ℕ) (joined : AllJoin old (take k piece)) (is : mid ≡ after_all old (take k piece)) where
  -- The bytes before byte k joined, and what then came of the rest.
  pub rest-takes : (taken result : Taken) → k ≤ length piece → result ≡ shifted k taken → Takes mid (take (length piece - k) (drop k piece)) taken new → Takes old piece result new
  rest-takes taken result within same takes =
      let P : List ℕ → Type 0 = λ x. Takes mid x taken new in
      let Q : Taken → Type 0 = λ t. Takes old piece t new in
      subst Q (sym same) (Takes-parts old mid new piece k taken within joined is (subst P (take_rest piece k) takes))

  -- And a stop at byte k.
  pub byte-stops : (taken result : Taken) → k < length piece → result ≡ shifted k taken → (taken ≡ More → ⊥) → Takes mid (get_or piece k 0 ∷ []) taken new → Takes old piece result new
  byte-stops taken result within same not takes =
      let P : List ℕ → Type 0 = λ x. Takes mid x taken new in
      let Q : Taken → Type 0 = λ t. Takes old piece t new in
      subst Q (sym same) (Takes-parts old mid new piece k taken (omega arith) joined is
      (subst P (sym (drop-cons piece k 0 within)) (Takes-longer mid new (get_or piece k 0 ∷ []) (drop (suc k) piece) taken not takes)))

  -- Byte k joins them.
  pub next-joins : k < length piece → Takes mid (get_or piece k 0 ∷ []) More new → AllJoin old (take (k + 1) piece) × (new ≡ after_all old (take (k + 1) piece))
  next-joins within takes =
      let b = get_or piece k 0 in
      let whole : take k piece ++ b ∷ [] ≡ take (k + 1) piece = sym (take_more piece k 0 within) in
      let P : State → Type 0 = λ s. AllJoin s (b ∷ []) in
      let Q : List ℕ → Type 0 = λ x. AllJoin old x in (
        subst Q whole (AllJoin-append old (take k piece) (b ∷ []) joined (subst P is takes.0)),
        takes.1 ∙ ap (λ (s : State). after_all s (b ∷ [])) is ∙ sym (after_all-append old (take k piece) (b ∷ [])) ∙ ap (λ (x : List ℕ). after_all old x) whole,
      )
