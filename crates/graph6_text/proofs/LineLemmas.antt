-- Lines: which bytes have no fault, and what graph they are.
use Rattle.std.proofs.Common.{◌≡◌, ◌≢◌, ℕ, ◌+◌, ◌-◌, ◌*◌, ◌/◌, ◌%◌, ◌^◌, ◌<◌, ◌≤◌, ◌==◌, nat_lt, true, false, not, cond, List, [], ◌∷◌, ◌++◌, length, drop, Option, Some, None, Result, Ok, Err, refl, sym, ap, ap₂, ◌∙◌, subst, inl, inr, arith, eqb-true, eq-eqb, ne_eqb, length-append, length-drop}
use Rattle.std.proofs.Math.ListN.{get_or}
use Rattle.std.specs.List.{All, list_any, position, position_or_len}
use Rattle.std.proofs.lemmas.Bool.{eqb-false, cases_Bool, cases_eq, cases_lt, cond-true, cond-false}
use Rattle.std.proofs.lemmas.Bool.Decides.{nat_tests}
use Rattle.std.proofs.Math.Seq.{drop-append_seam}
use Rattle.std.proofs.lemmas.List.{ext_get_or, get_or-drop, get_or-append_right}
use Rattle.std.proofs.lemmas.List.Elements.{All-nil, All-cons, All-head, All-tail, All-append}
use Rattle.graphs.specs.Graphs.{Edge, EdgeGraph, AreEdges, joins}
use Rattle.graphs.specs.Bits.{pair_count, body_length, has_bit, is_set, IsLineByte, IsBody, edges_of}
use Rattle.graph6_text.specs.Lines.{IsLine, count_form}
use Rattle.graph6_text.specs.Faults.{is_bad_byte, four_byte_start, long_rest, long_start, line_start, is_padded, body_fault, rest_fault, fault_from, line_fault}
use Rattle.graph6_text.specs.Laws.{OneGraph, OneLine, LinesAreGraphs}
use Rattle.graph6_text.specs.declared.graph6_lines.G6Fault.{G6Fault}
use Rattle.graph6_text.specs.declared.graph6_lines.G6Fault.TheVariants.{LongCount, TooMany}
use Rattle.graphs.proofs.BitLemmas.{below_six, byte_by_bits, pair_at, body_length-bounds}
use Rattle.graphs.proofs.EdgeLemmas.{is_set-past, AreEdges-edges_of, joined_as_bit}

-- ---- the range of the bytes
good_byte : (b : ℕ) → is_bad_byte b ≡ false → IsLineByte b
good_byte b e = (grind (arith, nat_tests), grind (arith, nat_tests))

not_bad : (b : ℕ) → IsLineByte b → is_bad_byte b ≡ false
not_bad b r = grind (arith, nat_tests)

abbrev good_len : List ℕ → ℕ
good_len bytes = position_or_len is_bad_byte bytes

all_by_len : (bytes : List ℕ) → length bytes ≤ good_len bytes → All IsLineByte bytes
all_by_len [] l = All-nil IsLineByte
all_by_len (b ∷ bytes) l = elim (cases_Bool (is_bad_byte b)) [
  | inl t ↦ let z = cond-false (not (is_bad_byte b)) (1 + good_len bytes) 0 (ap not t) in absurd (omega (arith, l, z))
  | inr f ↦ let z = cond-true (not (is_bad_byte b)) (1 + good_len bytes) 0 (ap not f) in
      All-cons IsLineByte b bytes (good_byte b f) (all_by_len bytes (omega (arith, l, z)))
]

len_by_all : (bytes : List ℕ) → All IsLineByte bytes → good_len bytes ≡ length bytes
len_by_all [] h = refl
len_by_all (b ∷ bytes) h =
    let z = cond-true (not (is_bad_byte b)) (1 + good_len bytes) 0 (ap not (not_bad b (All-head IsLineByte b bytes h))) in
    omega (arith, z, len_by_all bytes (All-tail IsLineByte b bytes h))

pub all_good : (bytes : List ℕ) → position is_bad_byte bytes ≡ None → All IsLineByte bytes
all_good bytes e = elim (cases_lt (good_len bytes) (length bytes)) [
  | inl l ↦ absurd (grind (arith, nat_tests))
  | inr l ↦ all_by_len bytes l
]

pub none_bad : (bytes : List ℕ) → All IsLineByte bytes → position is_bad_byte bytes ≡ None
none_bad bytes h = let e = len_by_all bytes h in grind (arith, nat_tests)

-- ---- the count
abbrev failed : G6Fault → Result (ℕ × ℕ) G6Fault
failed fault = Err fault

abbrev begun : ℕ → ℕ → Result (ℕ × ℕ) G6Fault
begun n start = Ok (n, start)

-- what a count of one byte or four begins with
pub record BeginsWith (bytes : List ℕ) (n start : ℕ) : Type 0 where
  pub few : n ≤ 255
  pub front : bytes ≡ count_form n ++ drop start bytes
  pub long : start ≤ length bytes
  pub short : start ≤ 4

short_form : (a : ℕ) (bytes : List ℕ) → IsLineByte a → a ≢ 126 → BeginsWith (a ∷ bytes) (a - 63) 1
short_form a bytes r n =
    let e : a - 63 + 63 ≡ a = omega arith in
    let c : nat_lt (a - 63) 63 ≡ true = grind (arith, nat_tests) in
    record {
      few = omega arith;
      front = sym (ap (λ l. l ++ bytes) (cond-true (nat_lt (a - 63) 63) ((a - 63 + 63) ∷ []) (126 ∷ 63 ∷ ((a - 63) / 64 + 63) ∷ ((a - 63) % 64 + 63) ∷ []) c) ∙ ap (λ x. x ∷ bytes) e);
      long = omega arith;
      short = omega arith;
    }

long_form : (b c d : ℕ) (bytes : List ℕ) → IsLineByte b → IsLineByte c → IsLineByte d → 63 ≤ (b - 63) * 4096 + (c - 63) * 64 + (d - 63) → (b - 63) * 4096 + (c - 63) * 64 + (d - 63) ≤ 255 → BeginsWith (126 ∷ b ∷ c ∷ d ∷ bytes) ((b - 63) * 4096 + (c - 63) * 64 + (d - 63)) 4
long_form b c d bytes p q r low high =
    let n : ℕ = (b - 63) * 4096 + (c - 63) * 64 + (d - 63) in
    let e : 63 ≡ b = omega arith in
    let f : n / 64 + 63 ≡ c = omega arith in
    let g : n % 64 + 63 ≡ d = omega arith in
    let t : nat_lt n 63 ≡ false = grind (arith, nat_tests) in
    record {
      few = high;
      front = sym (ap (λ l. l ++ bytes) (cond-false (nat_lt n 63) ((n + 63) ∷ []) (126 ∷ 63 ∷ (n / 64 + 63) ∷ (n % 64 + 63) ∷ []) t)
          ∙ (ap (λ x. 126 ∷ x ∷ (n / 64 + 63) ∷ (n % 64 + 63) ∷ bytes) e ∙ ap₂ (λ x y. 126 ∷ b ∷ x ∷ y ∷ bytes) f g));
      long = omega arith;
      short = omega arith;
    }

four_byte_is : (m n start : ℕ) → four_byte_start m ≡ Ok (n, start) → (63 ≤ m) × (m ≤ 255) × (m ≡ n) × (4 ≡ start)
four_byte_is m n start e = elim (cases_lt m 63) [
  | inl l ↦ let t : nat_lt m 63 ≡ true = grind (arith, nat_tests) in
      let q = sym (cond-true (nat_lt m 63) (failed LongCount) (cond (nat_lt 255 m) (Err (TooMany m)) (Ok (m, 4))) t) ∙ e in absurd (cc)
  | inr l ↦ let t : nat_lt m 63 ≡ false = grind (arith, nat_tests) in
      let q = sym (cond-false (nat_lt m 63) (failed LongCount) (cond (nat_lt 255 m) (Err (TooMany m)) (Ok (m, 4))) t) ∙ e in
      elim (cases_lt 255 m) [
        | inl k ↦ let s : nat_lt 255 m ≡ true = grind (arith, nat_tests) in
            let z = sym (cond-true (nat_lt 255 m) (failed (TooMany m)) (Ok (m, 4)) s) ∙ q in absurd (cc)
        | inr k ↦ let s : nat_lt 255 m ≡ false = grind (arith, nat_tests) in
            let z = sym (cond-false (nat_lt 255 m) (failed (TooMany m)) (Ok (m, 4)) s) ∙ q in
            let pair = ap (λ (o : Result (ℕ × ℕ) G6Fault). elim o as (λ _. ℕ × ℕ) [ Ok v ↦ v | Err w ↦ (m, 4) ]) z in
            (l, k, ap (λ (x : ℕ × ℕ). x.0) pair, ap (λ (x : ℕ × ℕ). x.1) pair)
      ]
]

pub begins_with : (bytes : List ℕ) (n start : ℕ) → All IsLineByte bytes → line_start bytes ≡ Ok (n, start) → BeginsWith bytes n start
begins_with [] n start all e = absurd (cc)
begins_with (a ∷ bytes) n start all e = elim (cases_eq a 126) [
  | inl q ↦ subst (λ x. BeginsWith (x ∷ bytes) n start) (sym q) (behind bytes (All-tail IsLineByte a bytes all) (sym (cond-true (a == 126) (long_start bytes) (Ok (a - 63, 1)) (eq-eqb a 126 q)) ∙ e))
  | inr ne ↦
      let z = sym (cond-false (a == 126) (long_start bytes) (Ok (a - 63, 1)) (ne_eqb a 126 ne)) ∙ e in
      let pair = ap (λ (o : Result (ℕ × ℕ) G6Fault). elim o as (λ _. ℕ × ℕ) [ Ok v ↦ v | Err w ↦ (a, 4) ]) z in
      let m : a - 63 ≡ n = ap (λ (x : ℕ × ℕ). x.0) pair in
      let s : 1 ≡ start = ap (λ (x : ℕ × ℕ). x.1) pair in
      subst (λ k. BeginsWith (a ∷ bytes) k start) m (subst (λ k. BeginsWith (a ∷ bytes) (a - 63) k) s (short_form a bytes (All-head IsLineByte a bytes all) ne))
]
  where
    rest : (b : ℕ) (bytes : List ℕ) → IsLineByte b → All IsLineByte bytes → long_rest b bytes ≡ Ok (n, start) → BeginsWith (126 ∷ b ∷ bytes) n start
    rest b [] r all e = absurd (cc)
    rest b (c ∷ []) r all e = absurd (cc)
    rest b (c ∷ d ∷ bytes) r all e =
        let m : ℕ = (b - 63) * 4096 + (c - 63) * 64 + (d - 63) in
        let k = four_byte_is m n start e in
        let tail = All-tail IsLineByte c (d ∷ bytes) all in
        subst (λ i. BeginsWith (126 ∷ b ∷ c ∷ d ∷ bytes) i start) k.2 (subst (λ i. BeginsWith (126 ∷ b ∷ c ∷ d ∷ bytes) m i) k.3 (long_form b c d bytes r (All-head IsLineByte c (d ∷ bytes) all) (All-head IsLineByte d bytes tail) k.0 k.1))

    behind : (bytes : List ℕ) → All IsLineByte bytes → long_start bytes ≡ Ok (n, start) → BeginsWith (126 ∷ bytes) n start
    behind [] all e = absurd (cc)
    behind (b ∷ bytes) all e = elim (cases_eq b 126) [
      | inl q ↦ let z = sym (cond-true (b == 126) (failed LongCount) (long_rest b bytes) (eq-eqb b 126 q)) ∙ e in absurd (cc)
      | inr ne ↦ rest b bytes (All-head IsLineByte b bytes all) (All-tail IsLineByte b bytes all) (sym (cond-false (b == 126) (failed LongCount) (long_rest b bytes) (ne_eqb b 126 ne)) ∙ e)
    ]

-- ---- the padding
-- the last bits of a number are zeros
low_bits : (x s : ℕ) → s < 6 → x % 2 ^ s ≡ 0 → (j : ℕ) → j < 6 → 6 ≤ j + s → x / 2 ^ (5 - j) % 2 ≡ 0
low_bits x s l =
    below_six (λ s. x % 2 ^ s ≡ 0 → (j : ℕ) → j < 6 → 6 ≤ j + s → x / 2 ^ (5 - j) % 2 ≡ 0)
    (λ e j m o. absurd (omega arith))
    (λ e. below_six (λ j. 6 ≤ j + 1 → x / 2 ^ (5 - j) % 2 ≡ 0) (λ o. omega arith) (λ o. omega arith) (λ o. omega arith) (λ o. omega arith) (λ o. omega arith) (λ o. omega arith))
    (λ e. below_six (λ j. 6 ≤ j + 2 → x / 2 ^ (5 - j) % 2 ≡ 0) (λ o. omega arith) (λ o. omega arith) (λ o. omega arith) (λ o. omega arith) (λ o. omega arith) (λ o. omega arith))
    (λ e. below_six (λ j. 6 ≤ j + 3 → x / 2 ^ (5 - j) % 2 ≡ 0) (λ o. omega arith) (λ o. omega arith) (λ o. omega arith) (λ o. omega arith) (λ o. omega arith) (λ o. omega arith))
    (λ e. below_six (λ j. 6 ≤ j + 4 → x / 2 ^ (5 - j) % 2 ≡ 0) (λ o. omega arith) (λ o. omega arith) (λ o. omega arith) (λ o. omega arith) (λ o. omega arith) (λ o. omega arith))
    (λ e. below_six (λ j. 6 ≤ j + 5 → x / 2 ^ (5 - j) % 2 ≡ 0) (λ o. omega arith) (λ o. omega arith) (λ o. omega arith) (λ o. omega arith) (λ o. omega arith) (λ o. omega arith))
    s l

-- and the other way
zero_bits : (x s : ℕ) → s < 6 → ((j : ℕ) → j < 6 → 6 ≤ j + s → x / 2 ^ (5 - j) % 2 ≡ 0) → x % 2 ^ s ≡ 0
zero_bits x s l =
    below_six (λ s. ((j : ℕ) → j < 6 → 6 ≤ j + s → x / 2 ^ (5 - j) % 2 ≡ 0) → x % 2 ^ s ≡ 0)
    (λ h. omega arith)
    (λ h. let e5 : x / 1 % 2 ≡ 0 = h 5 (omega arith) (omega arith) in omega arith)
    (λ h. let e5 : x / 1 % 2 ≡ 0 = h 5 (omega arith) (omega arith) in let e4 : x / 2 % 2 ≡ 0 = h 4 (omega arith) (omega arith) in omega arith)
    (λ h. let e5 : x / 1 % 2 ≡ 0 = h 5 (omega arith) (omega arith) in let e4 : x / 2 % 2 ≡ 0 = h 4 (omega arith) (omega arith) in let e3 : x / 4 % 2 ≡ 0 = h 3 (omega arith) (omega arith) in omega arith)
    (λ h. let e5 : x / 1 % 2 ≡ 0 = h 5 (omega arith) (omega arith) in let e4 : x / 2 % 2 ≡ 0 = h 4 (omega arith) (omega arith) in let e3 : x / 4 % 2 ≡ 0 = h 3 (omega arith) (omega arith) in let e2 : x / 8 % 2 ≡ 0 = h 2 (omega arith) (omega arith) in omega arith)
    (λ h. let e5 : x / 1 % 2 ≡ 0 = h 5 (omega arith) (omega arith) in let e4 : x / 2 % 2 ≡ 0 = h 4 (omega arith) (omega arith) in let e3 : x / 4 % 2 ≡ 0 = h 3 (omega arith) (omega arith) in let e2 : x / 8 % 2 ≡ 0 = h 2 (omega arith) (omega arith) in let e1 : x / 16 % 2 ≡ 0 = h 1 (omega arith) (omega arith) in omega arith)
    s l

-- a bit that is no 1 is a 0
bit_zero : (b j : ℕ) → has_bit b j ≡ false → (b - 63) / 2 ^ (5 - j) % 2 ≡ 0
unfolding has_bit
bit_zero b j e = let n = eqb-false ((b - 63) / 2 ^ (5 - j) % 2) 1 e in omega arith

zero_bit : (b j : ℕ) → (b - 63) / 2 ^ (5 - j) % 2 ≡ 0 → has_bit b j ≡ false
unfolding has_bit
zero_bit b j e = ne_eqb ((b - 63) / 2 ^ (5 - j) % 2) 1 (omega arith)

-- the bytes behind the first `start` are bits
pub IsBody-drop : (bytes : List ℕ) (n start : ℕ) → All IsLineByte bytes → start ≤ length bytes → length bytes ≡ start + body_length n → is_padded n bytes ≡ true → IsBody n (drop start bytes)
unfolding is_set
IsBody-drop bytes n start all l long padded =
    let len = length-drop start bytes in
    let bounds = body_length-bounds n in
    record {
      long = omega arith;
      bytes = λ k d m. subst IsLineByte (sym (get_or-drop start bytes k d)) (all (start + k) d (omega arith));
      padding = λ p o. elim (cases_lt (p / 6) (body_length n)) [
        | inl m ↦
            let at : get_or (drop start bytes) (p / 6) 0 ≡ get_or bytes (length bytes - 1) 0 =
            let i : start + p / 6 ≡ length bytes - 1 = omega arith in get_or-drop start bytes (p / 6) 0 ∙ ap (λ k. get_or bytes k 0) i in
            ap (λ b. has_bit b (p % 6)) at
            ∙ zero_bit (get_or bytes (length bytes - 1) 0) (p % 6) (low_bits (get_or bytes (length bytes - 1) 0 - 63) (6 * body_length n - pair_count n) (omega arith) (eqb-true ((get_or bytes (length bytes - 1) 0 - 63) % 2 ^ (6 * body_length n - pair_count n)) 0 padded) (p % 6) (omega arith) (omega arith))
        | inr m ↦ is_set-past (drop start bytes) p (omega arith)
      ];
    }

-- bits are padded
padded-body : (n : ℕ) (front body : List ℕ) → IsBody n body → is_padded n (front ++ body) ≡ true
unfolding is_set
padded-body n front body is =
    let bounds = body_length-bounds n in
    let len = length-append front body in
    let long = is.long in
    let x : ℕ = get_or (front ++ body) (length (front ++ body) - 1) 0 in
    eq-eqb ((x - 63) % 2 ^ (6 * body_length n - pair_count n)) 0 (elim (cases_eq (body_length n) 0) [
      | inl z ↦ let e : 6 * body_length n - pair_count n ≡ 0 = omega arith in ap (λ s. (x - 63) % 2 ^ s) e ∙ one (x - 63)
      | inr ne ↦ zero_bits (x - 63) (6 * body_length n - pair_count n) (omega arith) (λ j l m.
          let p : ℕ = 6 * (body_length n - 1) + j in
          let i : p / 6 ≡ length (front ++ body) - 1 - length front = omega arith in
          let r : p % 6 ≡ j = omega arith in
          let at : get_or body (p / 6) 0 ≡ x = ap (λ k. get_or body k 0) i ∙ sym (get_or-append_right front body (length front) (length (front ++ body) - 1) 0 refl (omega arith)) in
          bit_zero x j (sym (ap₂ has_bit at r) ∙ is.padding p (omega arith)))
    ])
  where
    one : (y : ℕ) → y % 2 ^ 0 ≡ 0
    one y = omega arith

-- ---- lines
-- what has passed all tests is the line of the graph of its bits
pub body_of : (bytes : List ℕ) (n start : ℕ) → position is_bad_byte bytes ≡ None → line_start bytes ≡ Ok (n, start) → body_fault bytes n start ≡ None → IsBody n (drop start bytes) × IsLine bytes (record { n = n; edges = edges_of n (drop start bytes) })
body_of bytes n start good at none =
    let all = all_good bytes good in
    let begins = begins_with bytes n start all at in
    let tests = no_fault bytes n start none in
    let body = IsBody-drop bytes n start all begins.long tests.0 tests.1 in
    (body, record { few = begins.few; body = drop start bytes; front = begins.front; is_body = body; edges = refl })
  where
    no_fault : (bytes : List ℕ) (n start : ℕ) → body_fault bytes n start ≡ None → (length bytes ≡ start + body_length n) × (is_padded n bytes ≡ true)
    no_fault bytes n start e = (grind (arith, nat_tests), grind (arith, nat_tests))

-- the first byte of a count
start-count : (n : ℕ) (body : List ℕ) → n ≤ 255 → (start : ℕ) × (line_start (count_form n ++ body) ≡ Ok (n, start)) × (length (count_form n) ≡ start)
start-count n body l = elim (cases_lt n 63) [
  | inl m ↦
      let t : nat_lt n 63 ≡ true = grind (arith, nat_tests) in
      let form = cond-true (nat_lt n 63) ((n + 63) ∷ []) (126 ∷ 63 ∷ (n / 64 + 63) ∷ (n % 64 + 63) ∷ []) t in
      let e : n + 63 - 63 ≡ n = omega arith in
      (1, ap (λ f. line_start (f ++ body)) form ∙ (cond-false (n + 63 == 126) (long_start body) (Ok (n + 63 - 63, 1)) (ne_eqb (n + 63) 126 (omega arith)) ∙ ap (λ k. begun k 1) e), ap length form)
  | inr m ↦
      let t : nat_lt n 63 ≡ false = grind (arith, nat_tests) in
      let form = cond-false (nat_lt n 63) ((n + 63) ∷ []) (126 ∷ 63 ∷ (n / 64 + 63) ∷ (n % 64 + 63) ∷ []) t in
      let e : (63 - 63) * 4096 + (n / 64 + 63 - 63) * 64 + (n % 64 + 63 - 63) ≡ n = omega arith in
      let low : nat_lt n 63 ≡ false = t in
      let high : nat_lt 255 n ≡ false = grind (arith, nat_tests) in
      (4, ap (λ f. line_start (f ++ body)) form ∙ (ap four_byte_start e ∙ (cond-false (nat_lt n 63) (Err LongCount) (cond (nat_lt 255 n) (Err (TooMany n)) (Ok (n, 4))) low ∙ cond-false (nat_lt 255 n) (Err (TooMany n)) (Ok (n, 4)) high)), ap length form)
]

bytes-count : (n : ℕ) → n ≤ 255 → All IsLineByte (count_form n)
bytes-count n l = elim (cases_lt n 63) [
  | inl m ↦
      let t : nat_lt n 63 ≡ true = grind (arith, nat_tests) in
      subst (All IsLineByte) (sym (cond-true (nat_lt n 63) ((n + 63) ∷ []) (126 ∷ 63 ∷ (n / 64 + 63) ∷ (n % 64 + 63) ∷ []) t)) (All-cons IsLineByte (n + 63) [] (omega arith, omega arith) (All-nil IsLineByte))
  | inr m ↦
      let t : nat_lt n 63 ≡ false = grind (arith, nat_tests) in
      subst (All IsLineByte) (sym (cond-false (nat_lt n 63) ((n + 63) ∷ []) (126 ∷ 63 ∷ (n / 64 + 63) ∷ (n % 64 + 63) ∷ []) t)) (All-cons IsLineByte 126 (63 ∷ (n / 64 + 63) ∷ (n % 64 + 63) ∷ []) (omega arith, omega arith) (All-cons IsLineByte 63 ((n / 64 + 63) ∷ (n % 64 + 63) ∷ []) (omega arith, omega arith) (All-cons IsLineByte (n / 64 + 63) ((n % 64 + 63) ∷ []) (omega arith, omega arith) (All-cons IsLineByte (n % 64 + 63) [] (omega arith, omega arith) (All-nil IsLineByte)))))
]

-- a line has no fault
no_fault-line : (n : ℕ) (body : List ℕ) → n ≤ 255 → IsBody n body → line_fault (count_form n ++ body) ≡ None
no_fault-line n body l is =
    let bytes : List ℕ = count_form n ++ body in
    let start = start-count n body l in
    let good = none_bad bytes (All-append IsLineByte (count_form n) body (bytes-count n l) is.bytes) in
    let padded = padded-body n (count_form n) body is in
    let len : length bytes ≡ start.0 + body_length n = length-append (count_form n) body ∙ ap₂ ◌+◌ start.2 is.long in
    ap (fault_from bytes) good ∙ (ap (rest_fault bytes) start.1 ∙ passes bytes start.0 len padded)
  where
    passes : (bytes : List ℕ) (start : ℕ) → length bytes ≡ start + body_length n → is_padded n bytes ≡ true → body_fault bytes n start ≡ None
    passes bytes start len padded = grind (arith, nat_tests)

pub lines_are_graphs : LinesAreGraphs
lines_are_graphs bytes graph line = (
  record {
    few = line.few;
    edges = subst (AreEdges graph.n) (sym line.edges) (AreEdges-edges_of graph.n line.body);
  },
  ap line_fault line.front ∙ no_fault-line graph.n line.body line.few line.is_body,
)

-- two bodies of one graph are one
one_body : (n : ℕ) (body other : List ℕ) → IsBody n body → IsBody n other → edges_of n body ≡ edges_of n other → body ≡ other
unfolding is_set
one_body n body other is it same =
    let len : length body ≡ length other = is.long ∙ sym it.long in
    ext_get_or 0 body other len (λ i l.
    byte_by_bits (get_or body i 0) (get_or other i 0) (is.bytes i 0 l) (it.bytes i 0 (omega arith)) (λ k m.
    let p : ℕ = 6 * i + k in
    let a : p / 6 ≡ i = omega arith in
    let b : p % 6 ≡ k = omega arith in
    let bits : is_set body p ≡ is_set other p = elim (cases_lt p (pair_count n)) [
      | inl o ↦
          let r = pair_at n p o in
          ap (is_set body) (sym r.4) ∙ (sym (joined_as_bit n body r.0 r.1 r.2 r.3) ∙ (ap (λ es. list_any (joins r.0 r.1) es) same ∙ (joined_as_bit n other r.0 r.1 r.2 r.3 ∙ ap (is_set other) r.4)))
      | inr o ↦ is.padding p o ∙ sym (it.padding p o)
    ] in
    ap₂ (λ x y. has_bit (get_or body x 0) y) (sym a) (sym b) ∙ (bits ∙ ap₂ (λ x y. has_bit (get_or other x 0) y) a b)))

pub one_line : OneLine
one_line bytes others graph line other =
    line.front ∙ (ap (λ b. count_form graph.n ++ b) (one_body graph.n line.body other.body line.is_body other.is_body (sym line.edges ∙ other.edges)) ∙ sym other.front)

-- the number of vertices and the body that a line begins with are one
pub one_graph : OneGraph
one_graph bytes graph other line line' =
    let s = start-count graph.n line.body line.few in
    let s' = start-count other.n line'.body line'.few in
    let same : begun graph.n s.0 ≡ begun other.n s'.0 = sym (ap line_start line.front ∙ s.1) ∙ ap line_start line'.front ∙ s'.1 in
    let counts : graph.n ≡ other.n = ap (λ r. (pair_of r).0) same in
    let starts : s.0 ≡ s'.0 = ap (λ r. (pair_of r).1) same in
    let body : line.body ≡ drop s.0 bytes = sym (ap (λ k. drop k bytes) (sym s.2) ∙ ap (drop (length (count_form graph.n))) line.front ∙ drop-append_seam (count_form graph.n) line.body) in
    let body' : line'.body ≡ drop s'.0 bytes = sym (ap (λ k. drop k bytes) (sym s'.2) ∙ ap (drop (length (count_form other.n))) line'.front ∙ drop-append_seam (count_form other.n) line'.body) in
    let bodies : line.body ≡ line'.body = body ∙ ap (λ k. drop k bytes) starts ∙ sym body' in
    ap₂ made counts (line.edges ∙ ap₂ edges_of counts bodies ∙ sym line'.edges)
  where
    made : ℕ → List Edge → EdgeGraph
    made n edges = record { n = n; edges = edges }

    pair_of : Result (ℕ × ℕ) G6Fault → ℕ × ℕ
    pair_of (Ok pair) = pair
    pair_of (Err fault) = (0, 0)

-- the graph of a line without a fault
pub graph-said : (bytes : List ℕ) → line_fault bytes ≡ None → (graph : EdgeGraph) × IsLine bytes graph
graph-said bytes none = by_place (position is_bad_byte bytes) refl none
  where
    by_start : position is_bad_byte bytes ≡ None → (start : Result (ℕ × ℕ) G6Fault) → line_start bytes ≡ start → rest_fault bytes start ≡ None → (graph : EdgeGraph) × IsLine bytes graph
    by_start good (Ok (n, start)) is none = (record { n = n; edges = edges_of n (drop start bytes) }, (body_of bytes n start good is none).1)
    by_start good (Err fault) is none = absurd (cc)

    by_place : (place : Option ℕ) → position is_bad_byte bytes ≡ place → fault_from bytes place ≡ None → (graph : EdgeGraph) × IsLine bytes graph
    by_place None good none = by_start good (line_start bytes) refl none
    by_place (Some k) bad none = absurd (cc)
