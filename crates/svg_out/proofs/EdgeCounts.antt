-- Edges in their order are as many as m.
use Rattle.std.proofs.Common.{◌≡◌, ◌&&◌, ◌==◌, ◌+◌, ◌*◌, ◌<◌, ◌≤◌, ℕ, zero, suc, Bool, true, false, cond, List, [], ◌∷◌, length, nat_lt, sum_by, refl, sym, ap, ◌∙◌, inl, inr, arith, lt-ltb, add-one, true≢false}
use Rattle.std.specs.List.{list_any, range_with_len}
use Rattle.std.proofs.lemmas.List.{length-map}
use Rattle.std.proofs.lemmas.List.Concat.{length-flat_map}
use Rattle.std.proofs.lemmas.List.Sums.{length-filter, sum_by_push, sum_by-cons}
use Rattle.std.proofs.lemmas.Bool.{cases_lt, cond-true, cond-false, le-ltb}
use Rattle.map_lists.specs.Lists.{Lists}
use Rattle.map_theory.specs.Maps.{Dart, IsSimpleMap, list_of, dart_count, edge_count, darts_from}
use Rattle.map_theory.proofs.EntryLemmas.{count_of, count_of-le-one, Contains-from_count_of, Contains-counted, Contains-from_list_any, list_any-from_Contains}
use Rattle.map_theory.proofs.DartCounts.{sum_below, sum_below-add, sum_below-same, sum_below-zero, sum_below-count_of, sum_below-front, dart_count-edge_count, count_mirrored}
use Rattle.svg_out.specs.Edges.{vertices, later_neighbours, edges}
use Rattle.svg_out.proofs.EdgeLemmas.{range-more}

-- a sum over a range
sum_by-range : (f : ℕ → ℕ) (n : ℕ) → sum_by f (range_with_len 0 n) ≡ sum_below f n
sum_by-range f zero = refl
sum_by-range f (suc n) =
    ap (λ (k : ℕ). sum_by f (range_with_len 0 k)) (sym (add-one n)) ∙ ap (λ (xs : List ℕ). sum_by f xs) (range-more n) ∙ sum_by_push f (range_with_len 0 n) n
    ∙ ap (λ (k : ℕ). k + f n) (sum_by-range f n)

-- the darts, list by list
dart_count-rows : (lists : Lists) → dart_count lists ≡ sum_below (λ v. length (list_of lists v)) (length lists)
dart_count-rows [] = refl
dart_count-rows (us ∷ lists) =
    sum_by-cons length us lists ∙ omega (arith, dart_count-rows lists, sum_below-front (λ v. length (list_of (us ∷ lists) v)) (length lists))

-- the entries above an empty diagonal of a square with the same numbers on both sides are half of it

abbrev above : (ℕ → ℕ → ℕ) → ℕ → ℕ → ℕ
above a v u = cond (nat_lt v u) (a v u) 0

above_is : (a : ℕ → ℕ → ℕ) (v u : ℕ) → v < u → above a v u ≡ a v u
above_is a v u l = cond-true {A = ℕ} (nat_lt v u) (a v u) 0 (lt-ltb v u l)

above_none : (a : ℕ → ℕ → ℕ) (v u : ℕ) → u ≤ v → above a v u ≡ 0
above_none a v u l = cond-false {A = ℕ} (nat_lt v u) (a v u) 0 (le-ltb v u l)

half_above : (a : ℕ → ℕ → ℕ) (n : ℕ) → ((v u : ℕ) → v < n → u < n → a v u ≡ a u v) → ((v : ℕ) → v < n → a v v ≡ 0) → sum_below (λ v. sum_below (λ u. a v u) n) n ≡ 2 * sum_below (λ v. sum_below (λ u. above a v u) n) n
half_above a zero mirror diagonal = refl
half_above a (suc n) mirror diagonal =
    let inner = half_above a n (λ v u h l. mirror v u (omega (arith, h)) (omega (arith, l))) (λ v h. diagonal v (omega (arith, h))) in
    let column : sum_below (λ v. a v n) n ≡ sum_below (λ v. a n v) n = sum_below-same (λ v. a v n) (λ v. a n v) n (λ v h. mirror v n (omega (arith, h)) (omega arith)) in
    let column' : sum_below (λ v. above a v n) n ≡ sum_below (λ v. a v n) n = sum_below-same (λ v. above a v n) (λ v. a v n) n (λ v h. above_is a v n h) in
    let row : sum_below (λ u. above a n u) n ≡ 0 = sum_below-same (λ u. above a n u) (λ _. 0) n (λ u h. above_none a n u (omega (arith, h))) ∙ sum_below-zero n in
    let split = sum_below-add (λ v. sum_below (λ u. a v u) n) (λ v. a v n) n in
    let split' = sum_below-add (λ v. sum_below (λ u. above a v u) n) (λ v. above a v n) n in
    omega (arith, inner, column, column', row, split, split', diagonal n (omega arith), above_none a n n (omega arith))

module _ (lists : Lists) (simple : IsSimpleMap lists) where
  abbrev times : ℕ → ℕ → ℕ
  times v u = count_of u (list_of lists v)

  alone : (v : ℕ) → v < length lists → times v v ≡ 0
  alone v h =
      elim (cases_lt (times v v) 1) [
        | inl none ↦ omega arith
        | inr some ↦ absurd (simple.no_loop v v (h, Contains-from_count_of v (list_of lists v) some) refl)
      ]

  -- whether u is a later neighbour of v, as a number
  is_later : (v u : ℕ) → v < length lists → cond (nat_lt v u && list_any (λ w. w == u) (list_of lists v)) 1 0 ≡ above times v u
  is_later v u h = go (nat_lt v u) (list_any (λ w. w == u) (list_of lists v)) refl
    where
      go : (b c : Bool) → list_any (λ w. w == u) (list_of lists v) ≡ c → cond (b && c) 1 0 ≡ cond b (times v u) 0
      go true true any = omega (arith, Contains-counted u (list_of lists v) (Contains-from_list_any u (list_of lists v) any), count_of-le-one u (list_of lists v) (simple.no_repeat v h))
      go true false any =
          elim (cases_lt (times v u) 1) [
            | inl none ↦ omega arith
            | inr some ↦ absurd (true≢false (sym (list_any-from_Contains u (list_of lists v) (Contains-from_count_of u (list_of lists v) some)) ∙ any))
          ]
      go false c any = refl

  later_count : (v : ℕ) → v < length lists → length (later_neighbours lists v) ≡ sum_below (λ u. above times v u) (length lists)
  unfolding later_neighbours
  later_count v h =
      length-filter (λ u. nat_lt v u && list_any (λ w. w == u) (list_of lists v)) (vertices lists)
      ∙ sum_by-range (λ u. cond (nat_lt v u && list_any (λ w. w == u) (list_of lists v)) 1 0) (length lists)
      ∙ sum_below-same (λ u. cond (nat_lt v u && list_any (λ w. w == u) (list_of lists v)) 1 0) (λ u. above times v u) (length lists) (λ u l. is_later v u h)

  count_of_edges : length (edges lists) ≡ sum_below (λ v. sum_below (λ u. above times v u) (length lists)) (length lists)
  unfolding edges
  count_of_edges =
      length-flat_map (λ v. darts_from v (later_neighbours lists v)) (vertices lists)
      ∙ sum_by-range (λ v. length (darts_from v (later_neighbours lists v))) (length lists)
      ∙ sum_below-same (λ v. length (darts_from v (later_neighbours lists v))) (λ v. sum_below (λ u. above times v u) (length lists)) (length lists)
      (λ v h. length-map (later_neighbours lists v) (λ (u : ℕ). let d : Dart = (v, u) in d) ∙ later_count v h)

  -- the edges of a simple map are as many as m
  pub count-edges : length (edges lists) ≡ edge_count lists
  count-edges =
      let n = length lists in
      let rows = sum_below-same (λ v. length (list_of lists v)) (λ v. sum_below (λ u. times v u) n) n
      (λ v h. sym (sum_below-count_of (list_of lists v) n (λ u c. simple.in_range v u (h, c)))) in
      let half = half_above times n (count_mirrored lists simple) alone in
      omega (arith, count_of_edges, dart_count-rows lists, rows, half, dart_count-edge_count lists simple)

pub length-edges : (lists : Lists) (es : List Dart) → IsSimpleMap lists → es ≡ edges lists → length es ≡ edge_count lists
length-edges lists es simple is = ap (λ (xs : List Dart). length xs) is ∙ count-edges lists simple
