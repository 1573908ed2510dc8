-- How many darts a map has: an even number, and at most the square of its number of vertices.
use Rattle.std.proofs.Common.{ℕ, zero, suc, ◌+◌, ◌*◌, ◌<◌, ◌≤◌, ◌≡◌, ◌≢◌, cond, eqb, List, [], ◌∷◌, length, AllPairs, Contains, refl, sym, ap₂, ◌∙◌, inl, inr, arith, eq-eqb, ne_eqb}
use Rattle.std.proofs.lemmas.List.Sums.{sum_by-cons, sum_by-le}
use Rattle.std.proofs.lemmas.List.Elements.{All-from_get_or}
use Rattle.std.proofs.lemmas.Nat.{mul-le}
use Rattle.std.proofs.lemmas.Bool.{cases_lt, cases_eq, cond-true, cond-false}
use Rattle.map_lists.specs.Lists.{Lists}
use Rattle.map_theory.specs.Maps.{list_of, HasDart, IsSimpleMap, dart_count, edge_count}
use Rattle.map_theory.proofs.EntryLemmas.{count_of, count_of-cons, count_of-le-one, one-le-count_of, Contains-from_count_of, Contains-there, Contains-here}

-- f 0 and so on up to f (n - 1)
abbrev pub sum_below : (ℕ → ℕ) → ℕ → ℕ
sum_below f zero = 0
sum_below f (suc n) = sum_below f n + f n

pub sum_below-add : (f g : ℕ → ℕ) (n : ℕ) → sum_below (λ k. f k + g k) n ≡ sum_below f n + sum_below g n
sum_below-add f g zero = refl
sum_below-add f g (suc n) = omega (arith, sum_below-add f g n)

pub sum_below-same : (f g : ℕ → ℕ) (n : ℕ) → ((k : ℕ) → k < n → f k ≡ g k) → sum_below f n ≡ sum_below g n
sum_below-same f g zero h = refl
sum_below-same f g (suc n) h =
    ap₂ (λ a b. a + b) (sum_below-same f g n (λ k l. h k (omega (arith, l)))) (h n (omega arith))

pub sum_below-zero : (n : ℕ) → sum_below (λ _. 0) n ≡ 0
sum_below-zero zero = refl
sum_below-zero (suc n) = omega (arith, sum_below-zero n)

pub sum_below-le : (f : ℕ → ℕ) (n : ℕ) → ((k : ℕ) → k < n → f k ≤ 1) → sum_below f n ≤ n
sum_below-le f zero h = omega arith
sum_below-le f (suc n) h = omega (arith, sum_below-le f n (λ k l. h k (omega (arith, l))), h n (omega arith))

pub sum_below-front : (f : ℕ → ℕ) (n : ℕ) → sum_below f (suc n) ≡ f 0 + sum_below (λ k. f (suc k)) n
sum_below-front f zero = omega arith
sum_below-front f (suc n) = omega (arith, sum_below-front f n)

-- one number is counted once among those below n, and not at all where it is not below n

none_below : (x n : ℕ) → n ≤ x → sum_below (λ u. cond (eqb x u) 1 0) n ≡ 0
none_below x zero h = refl
none_below x (suc n) h =
    omega (arith, none_below x n (omega (arith, h)), cond-false {A = ℕ} (eqb x n) 1 0 (ne_eqb x n (λ e. omega (arith, e, h))))

one_below : (x n : ℕ) → x < n → sum_below (λ u. cond (eqb x u) 1 0) n ≡ 1
one_below x zero h = absurd (omega (arith, h))
one_below x (suc n) h =
    elim (cases_eq x n) [
      | inl e ↦ omega (arith, none_below x n (omega (arith, e)), cond-true {A = ℕ} (eqb x n) 1 0 (eq-eqb x n e))
      | inr m ↦ omega (arith, one_below x n (omega (arith, m, h)), cond-false {A = ℕ} (eqb x n) 1 0 (ne_eqb x n m))
    ]

-- a list of numbers below n is as long as the counts of these
pub sum_below-count_of : (us : List ℕ) (n : ℕ) → ((u : ℕ) → Contains us u → u < n) → sum_below (λ u. count_of u us) n ≡ length us
sum_below-count_of [] n h = sum_below-zero n
sum_below-count_of (x ∷ us) n h =
    sum_below-same (λ u. count_of u (x ∷ us)) (λ u. cond (eqb x u) 1 0 + count_of u us) n (λ u l. count_of-cons u x us)
    ∙ sum_below-add (λ u. cond (eqb x u) 1 0) (λ u. count_of u us) n
    ∙ omega (arith, one_below x n (h x (Contains-here x us)), sum_below-count_of us n (λ u c. h u (Contains-there x us u c)))

-- a list without repeats of numbers below n has no more than n entries
pub length-le-below : (us : List ℕ) (n : ℕ) → ((u : ℕ) → Contains us u → u < n) → AllPairs ◌≢◌ us → length us ≤ n
length-le-below us n within distinct =
    omega (arith, sum_below-count_of us n within, sum_below-le (λ u. count_of u us) n (λ u l. count_of-le-one u us distinct))

-- so there are at most n times n darts
pub dart_count-le : (lists : Lists) → ((v u : ℕ) → HasDart lists v u → u < length lists) → ((v : ℕ) → v < length lists → AllPairs ◌≢◌ (list_of lists v)) → dart_count lists ≤ length lists * length lists
dart_count-le lists within distinct =
    sum_by-le length (length lists) lists
    (All-from_get_or (λ us. length us ≤ length lists) lists [] (λ v h. length-le-below (list_of lists v) (length lists) (λ u c. within v u (h, c)) (distinct v h)))

-- the darts, list by list
dart_count-sum_below : (lists : Lists) → dart_count lists ≡ sum_below (λ v. length (list_of lists v)) (length lists)
dart_count-sum_below [] = refl
dart_count-sum_below (us ∷ lists) =
    sum_by-cons length us lists ∙ omega (arith, dart_count-sum_below lists, sum_below-front (λ v. length (list_of (us ∷ lists) v)) (length lists))

-- the sum of a square with the same numbers on both sides of an empty diagonal is even
square_even : (a : ℕ → ℕ → ℕ) (n : ℕ) → ((v u : ℕ) → v < n → u < n → a v u ≡ a u v) → ((v : ℕ) → v < n → a v v ≡ 0) → sum_below (λ v. sum_below (λ u. a v u) n) n ≡ 2 * sum_below (λ v. sum_below (λ u. a v u) v) n
square_even a zero mirror diagonal = refl
square_even a (suc n) mirror diagonal =
    let inner = square_even a n (λ v u h l. mirror v u (omega (arith, h)) (omega (arith, l))) (λ v h. diagonal v (omega (arith, h))) in
    let column : sum_below (λ v. a v n) n ≡ sum_below (λ v. a n v) n = sum_below-same (λ v. a v n) (λ v. a n v) n (λ v h. mirror v n (omega (arith, h)) (omega arith)) in
    omega (arith, inner, column, sum_below-add (λ v. sum_below (λ u. a v u) n) (λ v. a v n) n, diagonal n (omega arith))

module _ (lists : Lists) (simple : IsSimpleMap lists) where
  count_below : (v u : ℕ) → v < length lists → u < length lists → count_of u (list_of lists v) ≤ count_of v (list_of lists u)
  count_below v u h l =
      elim (cases_lt (count_of u (list_of lists v)) 1) [
        | inl none ↦ omega arith
        | inr some ↦
            let back = simple.both_ways v u (h, Contains-from_count_of u (list_of lists v) some) in
            omega (arith, one-le-count_of v (list_of lists u) back.1.0 v back.1.1 back.1.2, count_of-le-one u (list_of lists v) (simple.no_repeat v h))
      ]

  -- u stands in v's list as often as v in u's
  pub count_mirrored : (v u : ℕ) → v < length lists → u < length lists → count_of u (list_of lists v) ≡ count_of v (list_of lists u)
  count_mirrored v u h l = omega (arith, count_below v u h l, count_below u v l h)

  count_alone : (v : ℕ) → v < length lists → count_of v (list_of lists v) ≡ 0
  count_alone v h =
      elim (cases_lt (count_of v (list_of lists v)) 1) [
        | inl none ↦ omega arith
        | inr some ↦ absurd (simple.no_loop v v (h, Contains-from_count_of v (list_of lists v) some) refl)
      ]

  -- the darts of a simple map come in pairs
  pub dart_count-even : (k : ℕ) × (dart_count lists ≡ 2 * k)
  dart_count-even =
      let n = length lists in
      let a : ℕ → ℕ → ℕ = λ v u. count_of u (list_of lists v) in
      let rows = sum_below-same (λ v. length (list_of lists v)) (λ v. sum_below (a v) n) n
      (λ v h. sym (sum_below-count_of (list_of lists v) n (λ u c. simple.in_range v u (h, c)))) in
      (sum_below (λ v. sum_below (λ u. a v u) v) n, dart_count-sum_below lists ∙ rows ∙ (square_even a n count_mirrored count_alone))

  pub dart_count-edge_count : dart_count lists ≡ 2 * edge_count lists
  dart_count-edge_count = let e = dart_count-even in omega (arith, e.1)

-- fewer than 4096 vertices have fewer than 2 ^ 24 darts
pub few_darts : (lists : Lists) → length lists < 4096 → ((v u : ℕ) → HasDart lists v u → u < length lists) → ((v : ℕ) → v < length lists → AllPairs ◌≢◌ (list_of lists v)) → dart_count lists < 16777216
few_darts lists few within distinct =
    omega (arith, dart_count-le lists within distinct, mul-le (length lists) (length lists) 4095 4095 (omega arith) (omega arith))

pub few_darts-simple : (lists : Lists) → length lists < 4096 → IsSimpleMap lists → dart_count lists < 16777216
few_darts-simple lists few simple = few_darts lists few simple.in_range simple.no_repeat
