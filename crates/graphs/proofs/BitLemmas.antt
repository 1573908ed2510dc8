-- Bits of bytes, and the places of pairs.
use Rattle.std.proofs.Common.{◌≡◌, ◌≢◌, ℕ, zero, suc, ◌+◌, ◌-◌, ◌*◌, ◌/◌, ◌%◌, ◌^◌, ◌<◌, ◌≤◌, ◌==◌, ◌||◌, false, List, length, refl, sym, ap, ap₂, ◌∙◌, inl, inr, arith, eq-eqb, ne_eqb, get_or-set_same, get_or-set_other}
use Rattle.std.proofs.Math.ListN.{get_or, set}
use Rattle.std.proofs.lemmas.Bool.{eqb-false, cases_eq, cases_lt, or_right}
use Rattle.std.proofs.lemmas.Bool.Decides.{nat_tests}
use Rattle.std.proofs.Math.Bool.{or-false}
use Rattle.graphs.specs.Bits.{pair_place, pair_count, body_length, has_bit, is_set, IsLineByte}

-- what holds of the numbers below six, one by one
pub below_six : (P : ℕ → Type 0) → P 0 → P 1 → P 2 → P 3 → P 4 → P 5 → (k : ℕ) → k < 6 → P k
below_six P a b c d e f zero l = a
below_six P a b c d e f (suc zero) l = b
below_six P a b c d e f (suc (suc zero)) l = c
below_six P a b c d e f (suc (suc (suc zero))) l = d
below_six P a b c d e f (suc (suc (suc (suc zero)))) l = e
below_six P a b c d e f (suc (suc (suc (suc (suc zero))))) l = f
below_six P a b c d e f (suc (suc (suc (suc (suc (suc k)))))) l = absurd (omega (arith, l))

-- a bit as a number
abbrev bit_value : ℕ → ℕ → ℕ
bit_value byte k = (byte - 63) / 2 ^ (5 - k) % 2

-- ---- bytes
-- a byte with one more bit has its others as they were
other_bits : (b : ℕ) → IsLineByte b → (k : ℕ) → k < 6 → (j : ℕ) → j < 6 → bit_value b k ≡ 0 → j ≢ k → bit_value (b + 32 / 2 ^ k) j ≡ bit_value b j
other_bits b range =
    below_six (λ k. (j : ℕ) → j < 6 → bit_value b k ≡ 0 → j ≢ k → bit_value (b + 32 / 2 ^ k) j ≡ bit_value b j)
    (below_six (λ j. bit_value b 0 ≡ 0 → j ≢ 0 → bit_value (b + 32) j ≡ bit_value b j) (λ e n. absurd (n refl)) (λ e n. omega arith) (λ e n. omega arith) (λ e n. omega arith) (λ e n. omega arith) (λ e n. omega arith))
    (below_six (λ j. bit_value b 1 ≡ 0 → j ≢ 1 → bit_value (b + 16) j ≡ bit_value b j) (λ e n. omega arith) (λ e n. absurd (n refl)) (λ e n. omega arith) (λ e n. omega arith) (λ e n. omega arith) (λ e n. omega arith))
    (below_six (λ j. bit_value b 2 ≡ 0 → j ≢ 2 → bit_value (b + 8) j ≡ bit_value b j) (λ e n. omega arith) (λ e n. omega arith) (λ e n. absurd (n refl)) (λ e n. omega arith) (λ e n. omega arith) (λ e n. omega arith))
    (below_six (λ j. bit_value b 3 ≡ 0 → j ≢ 3 → bit_value (b + 4) j ≡ bit_value b j) (λ e n. omega arith) (λ e n. omega arith) (λ e n. omega arith) (λ e n. absurd (n refl)) (λ e n. omega arith) (λ e n. omega arith))
    (below_six (λ j. bit_value b 4 ≡ 0 → j ≢ 4 → bit_value (b + 2) j ≡ bit_value b j) (λ e n. omega arith) (λ e n. omega arith) (λ e n. omega arith) (λ e n. omega arith) (λ e n. absurd (n refl)) (λ e n. omega arith))
    (below_six (λ j. bit_value b 5 ≡ 0 → j ≢ 5 → bit_value (b + 1) j ≡ bit_value b j) (λ e n. omega arith) (λ e n. omega arith) (λ e n. omega arith) (λ e n. omega arith) (λ e n. omega arith) (λ e n. absurd (n refl)))

-- and that one set, within the range
same_bit : (b : ℕ) → IsLineByte b → (k : ℕ) → k < 6 → bit_value b k ≡ 0 → (bit_value (b + 32 / 2 ^ k) k ≡ 1) × (b + 32 / 2 ^ k ≤ 126)
same_bit b range =
    below_six (λ k. bit_value b k ≡ 0 → (bit_value (b + 32 / 2 ^ k) k ≡ 1) × (b + 32 / 2 ^ k ≤ 126))
    (λ e. (omega arith, omega arith)) (λ e. (omega arith, omega arith)) (λ e. (omega arith, omega arith)) (λ e. (omega arith, omega arith)) (λ e. (omega arith, omega arith)) (λ e. (omega arith, omega arith))

-- a bit that is not set is 0
unset_value : (b k : ℕ) → has_bit b k ≡ false → bit_value b k ≡ 0
unfolding has_bit
unset_value b k e = let n = eqb-false (bit_value b k) 1 e in omega arith

-- a byte with bit k set
pub range-with_bit : (b k : ℕ) → IsLineByte b → k < 6 → has_bit b k ≡ false → IsLineByte (b + 32 / 2 ^ k)
range-with_bit b k range l e = let h = same_bit b range k l (unset_value b k e) in (omega arith, h.1)

pub bits-with_bit : (b k : ℕ) → IsLineByte b → k < 6 → has_bit b k ≡ false → (j : ℕ) → j < 6 → has_bit (b + 32 / 2 ^ k) j ≡ (has_bit b j || (j == k))
unfolding has_bit
bits-with_bit b k range l e j m =
    elim (cases_eq j k) [
      | inl q ↦
          eq-eqb (bit_value (b + 32 / 2 ^ k) j) 1 (ap (bit_value (b + 32 / 2 ^ k)) q ∙ (same_bit b range k l (unset_value b k e)).0)
          ∙ sym (or_right (bit_value b j == 1) (j == k) (eq-eqb j k q))
      | inr n ↦
          ap (λ v. v == 1) (other_bits b range k l j m (unset_value b k e) n)
          ∙ (sym (or-false (bit_value b j == 1)) ∙ ap (λ v. (bit_value b j == 1) || v) (sym (ne_eqb j k n)))
    ]

-- a byte is known by its bits
pub byte_by_bits : (a b : ℕ) → IsLineByte a → IsLineByte b → ((k : ℕ) → k < 6 → has_bit a k ≡ has_bit b k) → a ≡ b
unfolding has_bit
byte_by_bits a b r s h =
    let same : (k : ℕ) → k < 6 → bit_value a k ≡ bit_value b k = λ k l. values (bit_value a k) (bit_value b k) (omega arith) (omega arith) (h k l) in
    let e0 : (a - 63) / 32 % 2 ≡ (b - 63) / 32 % 2 = same 0 (omega arith) in
    let e1 : (a - 63) / 16 % 2 ≡ (b - 63) / 16 % 2 = same 1 (omega arith) in
    let e2 : (a - 63) / 8 % 2 ≡ (b - 63) / 8 % 2 = same 2 (omega arith) in
    let e3 : (a - 63) / 4 % 2 ≡ (b - 63) / 4 % 2 = same 3 (omega arith) in
    let e4 : (a - 63) / 2 % 2 ≡ (b - 63) / 2 % 2 = same 4 (omega arith) in
    let e5 : (a - 63) / 1 % 2 ≡ (b - 63) / 1 % 2 = same 5 (omega arith) in
    six_bits a b r s e0 e1 e2 e3 e4 e5
  where
    values : (v w : ℕ) → v < 2 → w < 2 → (v == 1) ≡ (w == 1) → v ≡ w
    values v w l m e = grind (arith, nat_tests)

    sixth : (x : ℕ) → x < 64 → x ≡ 32 * (x / 32 % 2) + 16 * (x / 16 % 2) + 8 * (x / 8 % 2) + 4 * (x / 4 % 2) + 2 * (x / 2 % 2) + x / 1 % 2
    sixth x l = omega arith

    six_bits : (a b : ℕ) → IsLineByte a → IsLineByte b → (a - 63) / 32 % 2 ≡ (b - 63) / 32 % 2 → (a - 63) / 16 % 2 ≡ (b - 63) / 16 % 2 → (a - 63) / 8 % 2 ≡ (b - 63) / 8 % 2 → (a - 63) / 4 % 2 ≡ (b - 63) / 4 % 2 → (a - 63) / 2 % 2 ≡ (b - 63) / 2 % 2 → (a - 63) / 1 % 2 ≡ (b - 63) / 1 % 2 → a ≡ b
    six_bits a b r s e0 e1 e2 e3 e4 e5 =
        let p = sixth (a - 63) (omega arith) in
        let q = sixth (b - 63) (omega arith) in
        let e : a - 63 ≡ b - 63 = p ∙ (ap₂ ◌+◌ (ap₂ ◌+◌ (ap₂ ◌+◌ (ap₂ ◌+◌ (ap₂ ◌+◌ (ap (λ v. 32 * v) e0) (ap (λ v. 16 * v) e1)) (ap (λ v. 8 * v) e2)) (ap (λ v. 4 * v) e3)) (ap (λ v. 2 * v) e4)) e5 ∙ sym q) in
        let l : (63 ≤ a) × (63 ≤ b) = (r.0, s.0) in
        omega (arith, e, l)

-- ---- places in a row of bytes
-- one byte changed in one bit
pub is_set-set : (body : List ℕ) (place byte : ℕ) → place / 6 < length body → ((j : ℕ) → j < 6 → has_bit byte j ≡ (has_bit (get_or body (place / 6) 0) j || (j == place % 6))) → (p : ℕ) → is_set (set body (place / 6) byte) p ≡ (is_set body p || (p == place))
unfolding is_set
is_set-set body place byte l h p =
    elim (cases_eq (p / 6) (place / 6)) [
      | inl e ↦
          let at : get_or (set body (place / 6) byte) (p / 6) 0 ≡ byte = ap (λ i. get_or (set body (place / 6) byte) i 0) e ∙ get_or-set_same body (place / 6) byte 0 l in
          let same : (p % 6 == place % 6) ≡ (p == place) = elim (cases_eq p place) [
            | inl q ↦ eq-eqb (p % 6) (place % 6) (ap (λ i. i % 6) q) ∙ sym (eq-eqb p place q)
            | inr n ↦ ne_eqb (p % 6) (place % 6) (omega arith) ∙ sym (ne_eqb p place n)
          ] in
          ap (λ b. has_bit b (p % 6)) at ∙ (h (p % 6) (omega arith) ∙ ap₂ ◌||◌ (ap (λ i. has_bit (get_or body i 0) (p % 6)) (sym e)) same)
      | inr n ↦
          let at : get_or (set body (place / 6) byte) (p / 6) 0 ≡ get_or body (p / 6) 0 = get_or-set_other body (place / 6) (p / 6) byte 0 n in
          let other : (p == place) ≡ false = ne_eqb p place (λ q. n (ap (λ i. i / 6) q)) in
          ap (λ b. has_bit b (p % 6)) at ∙ (sym (or-false (has_bit (get_or body (p / 6) 0) (p % 6))) ∙ ap (λ v. has_bit (get_or body (p / 6) 0) (p % 6) || v) (sym other))
    ]

-- ---- places of pairs
-- one vertex more
pub pair_count-suc : (n : ℕ) → pair_count (suc n) ≡ pair_count n + n
unfolding pair_count
pair_count-suc zero = refl
pair_count-suc (suc n) =
    let e : suc (suc n) - 1 ≡ suc n = omega arith in
    let f : suc n - 1 ≡ n = omega arith in
    let g : suc (suc n) * suc n / 2 ≡ suc n * n / 2 + suc n = omega arith in
    ap (λ x. suc (suc n) * x / 2) e ∙ (g ∙ ap (λ x. suc n * x / 2 + suc n) (sym f))

-- a vertex's pairs stand behind those of all lesser ones
pub pair_place-count : (u v : ℕ) → pair_place u v ≡ pair_count v + u
unfolding pair_place pair_count
pair_place-count u v = refl

pub pair_count-le : (v n : ℕ) → v ≤ n → pair_count v ≤ pair_count n
pair_count-le v zero l = let e : v ≡ 0 = omega arith in rw e (omega arith)
pair_count-le v (suc n) l = elim (cases_lt v (suc n)) [
  | inl m ↦ omega (arith, pair_count-le v n (omega arith), pair_count-suc n)
  | inr m ↦ let e : v ≡ suc n = omega arith in rw e (omega arith)
]

-- the place of a pair is one of those of all pairs
pub pair_place-lt : (u v n : ℕ) → u < v → v < n → pair_place u v < pair_count n
pair_place-lt u v n l m = omega (arith, pair_place-count u v, pair_count-suc v, pair_count-le (suc v) n m)

no_pair : (p : ℕ) → p < pair_count 0 → ⊥
unfolding pair_count
no_pair p l = omega arith

-- each place has its pair
pub pair_at : (n p : ℕ) → p < pair_count n → (u : ℕ) × (v : ℕ) × (u < v) × (v < n) × (pair_place u v ≡ p)
pair_at zero p l = absurd (no_pair p l)
pair_at (suc n) p l = elim (cases_lt p (pair_count n)) [
  | inl m ↦ let r = pair_at n p m in (r.0, r.1, r.2, omega arith, r.4)
  | inr m ↦ (p - pair_count n, n, omega (arith, pair_count-suc n), omega arith, omega (arith, pair_place-count (p - pair_count n) n))
]

-- and one only
pub one_pair : (u v w z : ℕ) → u < v → w < z → pair_place u v ≡ pair_place w z → (u ≡ w) × (v ≡ z)
one_pair u v w z l m e =
    let first = pair_place-count u v in
    let second = pair_place-count w z in
    elim (cases_lt v z) [
      | inl h ↦ absurd (omega (arith, pair_count-suc v, pair_count-le (suc v) z h))
      | inr h ↦ elim (cases_lt z v) [
        | inl k ↦ absurd (omega (arith, pair_count-suc z, pair_count-le (suc z) v k))
        | inr k ↦ let q : v ≡ z = omega arith in let c = ap pair_count q in (omega arith, q)
      ]
    ]

-- ---- bytes for bits
pub body_length-bounds : (n : ℕ) → (pair_count n ≤ 6 * body_length n) × (6 * body_length n ≤ pair_count n + 5)
unfolding body_length
body_length-bounds n = (omega arith, omega arith)

pairs_of_255 : pair_count 255 ≡ 32385
unfolding pair_count
pairs_of_255 = refl

-- 255 vertices have 32,385 pairs
pub pair_count-few : (n : ℕ) → n ≤ 255 → pair_count n ≤ 32385
pair_count-few n l = omega (arith, pair_count-le n 255 l, pairs_of_255)
