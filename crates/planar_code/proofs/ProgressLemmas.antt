-- How a reading comes about byte by byte: what a byte does to the progress, and what the bytes then read as.
use Rattle.std.proofs.Common.{◌≡◌, ℕ, suc, ◌+◌, ◌-◌, ◌<◌, ◌≤◌, Bool, true, false, List, [], ◌∷◌, ◌++◌, length, get_or, take, drop, refl, sym, ap, ◌∙◌, inl, inr, arith, append_assoc}
use Rattle.std.proofs.lemmas.List.{append-nil, length-append, take-append-le, take_all, take_at, take-append-drop}
use Rattle.std.proofs.Math.Seq.{take-append-add}
use Rattle.std.proofs.lemmas.Bool.{cases_lt}
use Rattle.std.proofs.lemmas.Bool.Decides.{nat_tests}
use Rattle.std.proofs.lemmas.Slice.Eq.{bytes_eq-Decides}
use Rattle.std.specs.Prelude.{IsTrue, IsFalse}
use Rattle.map_lists.specs.Lists.{Lists}
use Rattle.planar_code.specs.Reading.{IsRecord, AreRecords, is_bad_count, header, is_header, header_of, input_limit, IsReading, BeginsWith, EndsAs, Ending, well, end_in_record, bad_count, too_long}
use Rattle.planar_code.specs.State.{State, at_front, with_byte, after_more, after_record}
use Rattle.planar_code.specs.Progress.{Progress, FrontIs}
use Rattle.planar_code.proofs.RecordLemmas.{NoRecord-nil, NoRecord-push, no_bad_count-push, bad_count-append, bad_count-parts, AreRecords-push, HasZero, record-has_zero, header_of-none, header_of-long, header_of-zero, is_header-false, header-no_zero}

-- before the first byte nothing has been read
pub Progress-start : Progress [] [] at_front
Progress-start = grind (arith, NoRecord-nil)

-- one more byte at the end of three parts
parts-push : (consumed front bytes pending : List ℕ) (b : ℕ) → consumed ≡ front ++ (bytes ++ pending) → consumed ++ b ∷ [] ≡ front ++ (bytes ++ (pending ++ b ∷ []))
parts-push consumed front bytes pending b parts =
    ap (λ (x : List ℕ). x ++ b ∷ []) parts ∙ append_assoc front (bytes ++ pending) (b ∷ []) ∙ ap (λ (x : List ℕ). front ++ x) (append_assoc bytes pending (b ∷ []))

-- bytes that begin with no header, and are none with one more, begin with none then
header-push : (xs : List ℕ) (b : ℕ) → IsFalse (is_header (take 15 xs)) → IsFalse (is_header (xs ++ b ∷ [])) → IsFalse (is_header (take 15 (xs ++ b ∷ [])))
header-push xs b not none =
    elim (cases_lt (length xs) 15) [
      | inl short ↦ (let le : length (xs ++ b ∷ []) ≤ 15 = rw (length-append xs (b ∷ [])) (omega arith) in rw (take_all 15 (xs ++ b ∷ []) le) none)
      | inr long ↦ rw (take-append-le 15 xs (b ∷ []) long) not
    ]

-- the state after a byte, by whether a header may come and whether the bytes are one
state-more : Bool → Bool → List ℕ → ℕ → Lists → State
state-more true true bytes start lent = record { pending = []; start = 15; header_may_come = false; lists = lent }
state-more true false bytes start lent = record { pending = bytes; start = start; header_may_come = true; lists = lent }
state-more false is bytes start lent = record { pending = bytes; start = start; header_may_come = false; lists = lent }

after_more-is : (may : Bool) (is : Bool) (pending bytes : List ℕ) (start : ℕ) (lent : Lists) → is_header bytes ≡ is → after_more (record { pending = pending; start = start; header_may_come = may; lists = lent }) bytes ≡ state-more may is bytes start lent
unfolding state-more
after_more-is true true pending bytes start lent e = rw e refl
after_more-is true false pending bytes start lent e = rw e refl
after_more-is false is pending bytes start lent e = refl

module _ (consumed : List ℕ) (records : List Lists) (pending : List ℕ) (start : ℕ) (lent : Lists) (b : ℕ) where
  front_is-more : (may : Bool) (bytes front : List ℕ) → consumed ≡ front ++ (bytes ++ pending) → IsFalse (is_header (pending ++ b ∷ [])) → FrontIs may consumed bytes records front → FrontIs may (consumed ++ b ∷ []) bytes records front
  front_is-more true bytes front parts none is =
      let same : consumed ≡ pending = parts ∙ ap (λ (x : List ℕ). x ++ (bytes ++ pending)) is.0 ∙ ap (λ (x : List ℕ). x ++ pending) is.1 in
      (is.0, is.1, is.2, header-push consumed b is.3 (rw same none))
  front_is-more false bytes front parts none is = λ tail. rw (append_assoc consumed (b ∷ []) tail) (is (b ∷ tail))

  more-by : (may is : Bool) → is_header (pending ++ b ∷ []) ≡ is → Progress consumed records (record { pending = pending; start = start; header_may_come = may; lists = lent }) → IsFalse (is_bad_count (pending ++ b ∷ [])) → ((lists : Lists) → ¬ IsRecord (pending ++ b ∷ []) lists) → Progress (consumed ++ b ∷ []) records (state-more may is (pending ++ b ∷ []) start lent)
  unfolding state-more
  more-by true true e p not_bad not =
      let same : consumed ++ b ∷ [] ≡ header = parts-push consumed p.front p.bytes pending b p.parts ∙ ap (λ (x : List ℕ). x ++ (p.bytes ++ (pending ++ b ∷ []))) p.front_is.0 ∙ ap (λ (x : List ℕ). x ++ (pending ++ b ∷ [])) p.front_is.1 ∙ (bytes_eq-Decides (pending ++ b ∷ []) header).0 e in
      record {
        front = header;
        bytes = [];
        parts = same;
        are = rw p.front_is.2 refl;
        start = refl;
        no_record = NoRecord-nil;
        no_bad_count = refl;
        front_is = λ tail. rw same refl;
      }
  more-by true false e p not_bad not = record {
    front = p.front;
    bytes = p.bytes;
    parts = parts-push consumed p.front p.bytes pending b p.parts;
    are = p.are;
    start = p.start;
    no_record = NoRecord-push pending b p.no_record not;
    no_bad_count = no_bad_count-push pending b p.no_bad_count not_bad;
    front_is = front_is-more true p.bytes p.front p.parts e p.front_is;
  }
  more-by false is e p not_bad not = record {
    front = p.front;
    bytes = p.bytes;
    parts = parts-push consumed p.front p.bytes pending b p.parts;
    are = p.are;
    start = p.start;
    no_record = NoRecord-push pending b p.no_record not;
    no_bad_count = no_bad_count-push pending b p.no_bad_count not_bad;
    front_is = λ tail. rw (append_assoc consumed (b ∷ []) tail) (p.front_is (b ∷ tail));
  }

  front_is-record : (may : Bool) (bytes front : List ℕ) (lists : Lists) → consumed ≡ front ++ (bytes ++ pending) → IsRecord (pending ++ b ∷ []) lists → FrontIs may consumed bytes records front → (tail : List ℕ) → header_of ((consumed ++ b ∷ []) ++ tail) ≡ front
  front_is-record true bytes front lists parts is at tail =
      let same : consumed ≡ pending = parts ∙ ap (λ (x : List ℕ). x ++ (bytes ++ pending)) at.0 ∙ ap (λ (x : List ℕ). x ++ pending) at.1 in
      let has : HasZero (consumed ++ b ∷ []) = rw same (record-has_zero (pending ++ b ∷ []) lists is) in
      header_of-zero (consumed ++ b ∷ []) tail (header-push consumed b at.3 (is_header-false (consumed ++ b ∷ []) (λ (e : consumed ++ b ∷ [] ≡ header). header-no_zero has.0 (ap (λ (x : List ℕ). get_or x has.0 1) (sym e) ∙ has.2)))) has ∙ sym at.0
  front_is-record false bytes front lists parts is at tail = rw (append_assoc consumed (b ∷ []) tail) (at (b ∷ tail))

-- The byte joins what is pending, or ends the header.
pub Progress-more : (consumed : List ℕ) (records : List Lists) (state : State) (b : ℕ) → Progress consumed records state → IsFalse (is_bad_count (with_byte state b)) → ((lists : Lists) → ¬ IsRecord (with_byte state b) lists) → Progress (consumed ++ b ∷ []) records (after_more state (with_byte state b))
Progress-more consumed records state b p not_bad not =
    rw (after_more-is state.header_may_come (is_header (with_byte state b)) state.pending (with_byte state b) state.start state.lists refl)
    (more-by consumed records state.pending state.start state.lists b state.header_may_come (is_header (with_byte state b)) refl p not_bad not)

-- A record ends with the byte.
pub Progress-record : {lent : Lists} (consumed : List ℕ) (records : List Lists) (state : State) (b : ℕ) (lists : Lists) → Progress consumed records state → IsRecord (with_byte state b) lists → Progress (consumed ++ b ∷ []) (records ++ lists ∷ []) (after_record state (with_byte state b) lent)
Progress-record consumed records state b lists p is = record {
  front = p.front;
  bytes = p.bytes ++ with_byte state b;
  parts = parts-push consumed p.front p.bytes state.pending b p.parts ∙ ap (λ (x : List ℕ). p.front ++ x) (sym (append-nil (p.bytes ++ with_byte state b)));
  are = AreRecords-push p.bytes records (with_byte state b) lists p.are is;
  start = rw (length-append p.bytes (with_byte state b)) (let s = p.start in omega arith);
  no_record = NoRecord-nil;
  no_bad_count = refl;
  front_is = front_is-record consumed records state.pending state.start state.lists b state.header_may_come p.bytes p.front lists p.parts is p.front_is;
}

front-is_header : (may : Bool) (consumed bytes : List ℕ) (records : List Lists) (front : List ℕ) → FrontIs may consumed bytes records front → header_of consumed ≡ front
front-is_header true consumed bytes records front is = header_of-none consumed is.3 ∙ sym is.0
front-is_header false consumed bytes records front is = ap header_of (sym (append-nil consumed)) ∙ is []

-- how many bytes were consumed
pub Progress-length : (consumed : List ℕ) (records : List Lists) (state : State) → (p : Progress consumed records state) → length consumed ≡ state.start + length state.pending
Progress-length consumed records state p =
    ap length p.parts ∙ length-append p.front (p.bytes ++ state.pending) ∙ (let e = length-append p.bytes state.pending in let s = p.start in omega arith)

-- a reading, where the header is known
reading-from : (input : List ℕ) (records : List Lists) (ending : Ending) (front bytes rest : List ℕ) → header_of input ≡ front → input ≡ front ++ (bytes ++ rest) → AreRecords bytes records → length front + length bytes ≤ input_limit → EndsAs (length input) (length front + length bytes) rest ending → IsReading input records ending
reading-from input records ending front bytes rest is parts are within ends = record {
  bytes = bytes;
  rest = rest;
  parts = parts ∙ ap (λ (x : List ℕ). x ++ (bytes ++ rest)) (sym is);
  are = are;
  within = rw is within;
  ends = rw is ends;
}

-- With nothing pending the bytes end well.
pub Progress-well : (consumed : List ℕ) (records : List Lists) (state : State) → Progress consumed records state → state.pending ≡ [] → length consumed ≤ input_limit → IsReading consumed records well
Progress-well consumed records state p none within =
    reading-from consumed records well p.front p.bytes state.pending (front-is_header state.header_may_come consumed p.bytes records p.front p.front_is) p.parts p.are
    (let l = Progress-length consumed records state p in let s = p.start in omega arith)
    (within, none)

-- With bytes pending they end in a record.
pub Progress-in_record : (consumed : List ℕ) (records : List Lists) (state : State) → Progress consumed records state → 0 < length state.pending → length consumed ≤ input_limit → IsReading consumed records (end_in_record state.start)
Progress-in_record consumed records state p some within =
    reading-from consumed records (end_in_record state.start) p.front p.bytes state.pending (front-is_header state.header_may_come consumed p.bytes records p.front p.front_is) p.parts p.are
    (let l = Progress-length consumed records state p in let s = p.start in omega arith)
    (p.start, within, some, p.no_bad_count, p.no_record)

header_of-first_zero : (xs : List ℕ) → get_or xs 0 1 ≡ 0 → header_of xs ≡ []
header_of-first_zero [] e = refl
header_of-first_zero (x ∷ xs) e = rw e refl

suc_first : (x y z : ℕ) → IsTrue (is_bad_count (suc x ∷ y ∷ z ∷ [])) → ⊥
suc_first x y z bad = grind (arith, nat_tests)

bad_count-first : (xs : List ℕ) → IsTrue (is_bad_count xs) → get_or xs 0 1 ≡ 0
bad_count-first x0 bad = grind (arith, suc_first, bad_count-parts)

get_or-first-append : (xs ys : List ℕ) → 0 < length xs → get_or (xs ++ ys) 0 1 ≡ get_or xs 0 1
get_or-first-append [] ys some = absurd (omega arith)
get_or-first-append (x ∷ xs) ys some = refl

front-bad : (may : Bool) (consumed bytes pending : List ℕ) (records : List Lists) (front : List ℕ) (b : ℕ) (rest : List ℕ) → consumed ≡ front ++ (bytes ++ pending) → FrontIs may consumed bytes records front → IsTrue (is_bad_count (pending ++ b ∷ [])) → header_of (consumed ++ b ∷ rest) ≡ front
front-bad true consumed bytes pending records front b rest parts is bad =
    let same : consumed ≡ pending = parts ∙ ap (λ (x : List ℕ). x ++ (bytes ++ pending)) is.0 ∙ ap (λ (x : List ℕ). x ++ pending) is.1 in
    let some : 0 < length (pending ++ b ∷ []) = rw (length-append pending (b ∷ [])) (omega arith) in
    header_of-first_zero (consumed ++ b ∷ rest)
    (rw same (ap (λ (x : List ℕ). get_or x 0 1) (sym (append_assoc pending (b ∷ []) rest)) ∙ get_or-first-append (pending ++ b ∷ []) rest some ∙ bad_count-first (pending ++ b ∷ []) bad)) ∙ sym is.0
front-bad false consumed bytes pending records front b rest parts is bad = is (b ∷ rest)

take-long : (xs ys : List ℕ) (n : ℕ) → length xs ≤ n → take n (xs ++ ys) ≡ xs ++ take (n - length xs) ys
take-long xs ys n le =
    let e : n ≡ length xs + (n - length xs) = omega arith in
    ap (λ (k : ℕ). take k (xs ++ ys)) e ∙ take-append-add xs ys (n - length xs)

-- A bad count ends the reading, whatever follows.
pub Progress-bad : (consumed : List ℕ) (records : List Lists) (state : State) (b : ℕ) (rest : List ℕ) → Progress consumed records state → IsTrue (is_bad_count (with_byte state b)) → length consumed < input_limit → IsReading (consumed ++ b ∷ rest) records (bad_count state.start)
Progress-bad consumed records state b rest p bad within =
    let l = Progress-length consumed records state p in
    let three = bad_count-parts (with_byte state b) bad in
    let pushed = length-append state.pending (b ∷ []) in
    reading-from (consumed ++ b ∷ rest) records (bad_count state.start) p.front p.bytes (state.pending ++ b ∷ rest)
    (front-bad state.header_may_come consumed p.bytes state.pending records p.front b rest p.parts p.front_is bad)
    (ap (λ (x : List ℕ). x ++ b ∷ rest) p.parts ∙ append_assoc p.front (p.bytes ++ state.pending) (b ∷ rest) ∙ ap (λ (x : List ℕ). p.front ++ x) (append_assoc p.bytes state.pending (b ∷ rest)))
    p.are
    (omega arith) (
      p.start,
      rw (sym (append_assoc state.pending (b ∷ []) rest))
          (rw (take-long (state.pending ++ b ∷ []) rest (input_limit - (length p.front + length p.bytes)) (omega (arith, three.0)))
          (bad_count-append (state.pending ++ b ∷ []) (take (input_limit - (length p.front + length p.bytes) - length (state.pending ++ b ∷ [])) rest) three.1)),
    )

front-long : (may : Bool) (consumed bytes : List ℕ) (records : List Lists) (front rest : List ℕ) → FrontIs may consumed bytes records front → 15 ≤ length consumed → header_of (consumed ++ rest) ≡ front
front-long true consumed bytes records front rest is long = header_of-long consumed rest long ∙ header_of-none consumed is.3 ∙ sym is.0
front-long false consumed bytes records front rest is long = is rest

-- Past the limit the input is too long.
pub Progress-too_long : (consumed : List ℕ) (records : List Lists) (state : State) (b : ℕ) (rest : List ℕ) → Progress consumed records state → length consumed ≡ input_limit → IsReading (consumed ++ b ∷ rest) records too_long
Progress-too_long consumed records state b rest p full =
    let l = Progress-length consumed records state p in
    let window : take (input_limit - (length p.front + length p.bytes)) (state.pending ++ b ∷ rest) ≡ state.pending = take_at state.pending (b ∷ rest) (input_limit - (length p.front + length p.bytes)) (omega arith) in
    reading-from (consumed ++ b ∷ rest) records too_long p.front p.bytes (state.pending ++ b ∷ rest)
    (front-long state.header_may_come consumed p.bytes records p.front (b ∷ rest) p.front_is (omega arith))
    (ap (λ (x : List ℕ). x ++ b ∷ rest) p.parts ∙ append_assoc p.front (p.bytes ++ state.pending) (b ∷ rest) ∙ ap (λ (x : List ℕ). p.front ++ x) (append_assoc p.bytes state.pending (b ∷ rest)))
    p.are
    (omega arith)
    (rw (length-append consumed (b ∷ rest)) (omega arith), rw window p.no_bad_count, rw window p.no_record)

header-splits : (input : List ℕ) (is : Bool) → is_header (take 15 input) ≡ is → input ≡ header_of input ++ drop (length (header_of input)) input
header-splits input true e =
    rw e (sym (take-append-drop 15 input) ∙ ap (λ (x : List ℕ). x ++ drop 15 input) ((bytes_eq-Decides (take 15 input) header).0 e))
header-splits input false e = rw e refl

header_of-short : (input : List ℕ) (is : Bool) → is_header (take 15 input) ≡ is → length (header_of input) ≤ input_limit
header_of-short input true e = rw e (omega arith)
header_of-short input false e = rw e (omega arith)

begins-by : (may : Bool) (consumed bytes pending : List ℕ) (records : List Lists) (front tail : List ℕ) → consumed ≡ front ++ (bytes ++ pending) → AreRecords bytes records → FrontIs may consumed bytes records front → length consumed ≤ input_limit → BeginsWith (consumed ++ tail) records
begins-by true consumed bytes pending records front tail parts are is few = record {
  bytes = [];
  rest = drop (length (header_of (consumed ++ tail))) (consumed ++ tail);
  parts = header-splits (consumed ++ tail) (is_header (take 15 (consumed ++ tail))) refl;
  are = rw is.2 refl;
  within = let l = header_of-short (consumed ++ tail) (is_header (take 15 (consumed ++ tail))) refl in omega (arith, l);
}
begins-by false consumed bytes pending records front tail parts are is few = record {
  bytes = bytes;
  rest = pending ++ tail;
  parts = ap (λ (x : List ℕ). x ++ tail) parts ∙ append_assoc front (bytes ++ pending) tail ∙ ap (λ (x : List ℕ). front ++ x) (append_assoc bytes pending tail) ∙ ap (λ (x : List ℕ). x ++ (bytes ++ (pending ++ tail))) (sym (is tail));
  are = are;
  within = rw (is tail) (let l = ap length parts ∙ length-append front (bytes ++ pending) in omega (arith, length-append bytes pending, l));
}

-- The bytes begin with the records so far, however they go on.
pub Progress-begins : (consumed : List ℕ) (records : List Lists) (state : State) (tail : List ℕ) → Progress consumed records state → length consumed ≤ input_limit → BeginsWith (consumed ++ tail) records
Progress-begins consumed records state tail p few = begins-by state.header_may_come consumed p.bytes state.pending records p.front tail p.parts p.are p.front_is few
