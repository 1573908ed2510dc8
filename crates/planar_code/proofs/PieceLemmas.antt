-- A piece of bytes at once: what it does to the progress, to the place of a reader, and what the bytes then read as.
use Rattle.std.proofs.Common.{◌≡◌, ℕ, suc, ◌+◌, ◌-◌, ◌<◌, ◌≤◌, Bool, true, List, [], ◌∷◌, ◌++◌, length, get_or, take, drop, refl, sym, ap, subst, ◌∙◌, arith, append_assoc}
use Rattle.std.proofs.lemmas.List.{append-nil, length-append, length-take-le}
use Rattle.std.proofs.lemmas.Slice.Eq.{bytes_eq-Decides}
use Rattle.map_lists.specs.Lists.{Lists}
use Rattle.planar_code.specs.Reading.{header, is_header, input_limit, IsReading, bad_count}
use Rattle.planar_code.specs.State.{State, with_byte, after_more, after_record}
use Rattle.planar_code.specs.Taken.{after_all, AllJoin, Takes}
use Rattle.planar_code.specs.declared.record_reader.Taken.TheVariants.{More, Ended, Bad}
use Rattle.planar_code.specs.Progress.{Progress}
use Rattle.planar_code.proofs.SplitLemmas.{take-next, split-next}
use Rattle.planar_code.proofs.ProgressLemmas.{Progress-more, Progress-record, Progress-bad}

-- Bytes that join those pending.
pub Progress-all : (consumed : List ℕ) (records : List Lists) (state : State) (bytes : List ℕ) → Progress consumed records state → AllJoin state bytes → Progress (consumed ++ bytes) records (after_all state bytes)
Progress-all consumed records state [] p all = rw (append-nil consumed) p
Progress-all consumed records state (b ∷ bytes) p all =
    let P : List ℕ → Type 0 = λ x. Progress x records (after_all state (b ∷ bytes)) in
    subst P (append_assoc consumed (b ∷ []) bytes)
    (Progress-all (consumed ++ b ∷ []) records (after_more state (with_byte state b)) bytes (Progress-more consumed records state b p all.0.0 all.0.1) all.1)

-- The whole piece joins the bytes pending.
pub Progress-joined : (consumed : List ℕ) (records : List Lists) (old new : State) (piece : List ℕ) → Progress consumed records old → Takes old piece More new → Progress (consumed ++ piece) records new
Progress-joined consumed records old new piece p takes =
    let P : State → Type 0 = λ s. Progress (consumed ++ piece) records s in
    subst P (sym takes.1) (Progress-all consumed records old piece p takes.0)

-- A record ends with byte k of the piece.
pub Progress-ended : (consumed : List ℕ) (records : List Lists) (old new : State) (piece : List ℕ) (k : ℕ) → Progress consumed records old → Takes old piece (Ended k) new → Progress (consumed ++ take k piece) (records ++ new.lists ∷ []) new
Progress-ended consumed records old new piece k p takes =
    let front : List ℕ = take (k - 1) piece in
    let b : ℕ = get_or piece (k - 1) 0 in
    let mid : State = after_all old front in
    let is : new ≡ after_record mid (with_byte mid b) new.lists = ap (λ (s : State). record s { lists = new.lists }) takes.3.2 in
    let P : List ℕ → Type 0 = λ x. Progress x (records ++ new.lists ∷ []) new in
    let Q : State → Type 0 = λ s. Progress ((consumed ++ front) ++ b ∷ []) (records ++ new.lists ∷ []) s in
    subst P (append_assoc consumed front (b ∷ []) ∙ ap (λ (x : List ℕ). consumed ++ x) (sym (take-next piece k takes.0 takes.1)))
    (subst Q (sym is) (Progress-record {lent = new.lists} (consumed ++ front) records mid b new.lists (Progress-all consumed records old front p takes.2) takes.3.1))

-- A bad count with byte k of the piece ends the reading, whatever follows.
pub Progress-bad_piece : (consumed : List ℕ) (records : List Lists) (old new : State) (piece : List ℕ) (k place : ℕ) (rest : List ℕ) → Progress consumed records old → Takes old piece (Bad k place) new → length consumed + length piece ≤ input_limit → IsReading (consumed ++ (piece ++ rest)) records (bad_count place)
Progress-bad_piece consumed records old new piece k place rest p takes within =
    let front : List ℕ = take (k - 1) piece in
    let b : ℕ = get_or piece (k - 1) 0 in
    let later : List ℕ = drop (suc (k - 1)) piece in
    let mid : State = after_all old front in
    let split : piece ≡ front ++ (b ∷ later) = split-next piece k takes.0 takes.1 in
    let whole : (consumed ++ front) ++ (b ∷ (later ++ rest)) ≡ consumed ++ (piece ++ rest) =
    append_assoc consumed front (b ∷ (later ++ rest))
    ∙ ap (λ (x : List ℕ). consumed ++ x) (sym (append_assoc front (b ∷ later) rest) ∙ ap (λ (x : List ℕ). x ++ rest) (sym split)) in
    let short : length (consumed ++ front) < input_limit = omega (arith, length-append consumed front, ap length split, length-append front (b ∷ later)) in
    let P : List ℕ → Type 0 = λ x. IsReading x records (bad_count place) in
    let Q : ℕ → Type 0 = λ n. IsReading ((consumed ++ front) ++ (b ∷ (later ++ rest))) records (bad_count n) in
    subst P whole
    (subst Q (sym takes.3.1) (Progress-bad (consumed ++ front) records mid b (later ++ rest) (Progress-all consumed records old front p takes.2) takes.3.0 short))

-- How far a reader has moved on: so many bytes, no start back, and a header comes only at the front.
pub record Moves (old new : State) (k : ℕ) : Type 0 where
  pub count : new.start + length new.pending ≡ old.start + length old.pending + k
  pub front : new.header_may_come ≡ true → new.start ≡ 0
  pub rises : old.start ≤ new.start

moves-more : (may is : Bool) (pending bytes : List ℕ) (start : ℕ) (lent : Lists) → is_header bytes ≡ is → (may ≡ true → start ≡ 0) → length bytes ≡ length pending + 1 → Moves (record { pending = pending; start = start; header_may_come = may; lists = lent }) (after_more (record { pending = pending; start = start; header_may_come = may; lists = lent }) bytes) 1
moves-more x0 x1 pending bytes start lent e front more = grind (arith, header, bytes_eq-Decides, length)

moves-all : (state : State) (bytes : List ℕ) → (state.header_may_come ≡ true → state.start ≡ 0) → Moves state (after_all state bytes) (length bytes)
moves-all state [] front = record { count = omega arith; front = front; rises = omega arith }
moves-all state (b ∷ bytes) front =
    let one = moves-more state.header_may_come (is_header (with_byte state b)) state.pending (with_byte state b) state.start state.lists refl front (length-append state.pending (b ∷ [])) in
    let all = moves-all (after_more state (with_byte state b)) bytes one.front in
    record { count = omega arith; front = all.front; rises = omega arith }

-- A piece that joins the bytes pending moves a reader by its length.
pub joined-moves : (old new : State) (piece : List ℕ) → (old.header_may_come ≡ true → old.start ≡ 0) → Takes old piece More new → Moves old new (length piece)
joined-moves old new piece front takes =
    let P : State → Type 0 = λ s. Moves old s (length piece) in
    subst P (sym takes.1) (moves-all old piece front)

-- A record that ends moves it by the bytes taken, and its start onward.
pub ended-moves : (old new : State) (piece : List ℕ) (k : ℕ) → (old.header_may_come ≡ true → old.start ≡ 0) → Takes old piece (Ended k) new → Moves old new k × (old.start < new.start)
ended-moves old new piece k front takes =
    let bytes : List ℕ = take (k - 1) piece in
    let b : ℕ = get_or piece (k - 1) 0 in
    let mid : State = after_all old bytes in
    let all = moves-all old bytes front in
    let is : new ≡ after_record mid (with_byte mid b) new.lists = ap (λ (s : State). record s { lists = new.lists }) takes.3.2 in
    let long : k ≡ length bytes + 1 = sym (length-take-le k piece takes.1) ∙ ap length (take-next piece k takes.0 takes.1) ∙ length-append bytes (b ∷ []) in
    let more : length (with_byte mid b) ≡ length mid.pending + 1 = length-append mid.pending (b ∷ []) in
    let start : new.start ≡ mid.start + length (with_byte mid b) = ap (λ (s : State). s.start) is in
    (record { count = omega (arith, ap length (ap (λ (s : State). s.pending) is)); front = λ h. cc; rises = omega arith }, omega arith)
