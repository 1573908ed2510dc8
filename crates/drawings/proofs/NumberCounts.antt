-- All edges together are as many as m.
use Rattle.std.proofs.Common.{◌≡◌, ◌*◌, ◌<◌, ℕ, zero, suc, cond, [], ◌∷◌, length, nat_lt, refl, sym, ap, ◌∙◌, inl, inr, arith, lt-ltb, add-one}
use Rattle.std.proofs.lemmas.List.Sums.{sum_by-cons}
use Rattle.std.proofs.lemmas.Bool.{cases_lt, cond-true, cond-false, le-ltb}
use Rattle.map_lists.specs.Lists.{Lists}
use Rattle.map_theory.specs.Maps.{IsSimpleMap, list_of, dart_count, edge_count}
use Rattle.map_theory.proofs.EntryLemmas.{count_of, Contains-from_count_of}
use Rattle.map_theory.proofs.DartCounts.{sum_below, sum_below-add, sum_below-same, sum_below-zero, sum_below-count_of, sum_below-front, dart_count-edge_count, count_mirrored}
use Rattle.vertex_rounds.specs.Rounds.{HasEdge}
use Rattle.drawings.specs.Bars.{edges_before, edge_number}
use Rattle.drawings.proofs.EdgeCounts.{edges_before-none, edges_before-more}
use Rattle.drawings.proofs.EdgeNumbers.{edges_until-sum, edge_number-before}

-- the darts, list by list
dart_count-rows : (lists : Lists) → dart_count lists ≡ sum_below (λ v. length (list_of lists v)) (length lists)
dart_count-rows [] = refl
dart_count-rows (us ∷ lists) =
    sum_by-cons length us lists ∙ omega (arith, dart_count-rows lists, sum_below-front (λ v. length (list_of (us ∷ lists) v)) (length lists))

-- the entries above an empty diagonal of a square with the same numbers on both sides are half of it

abbrev upper : (ℕ → ℕ → ℕ) → ℕ → ℕ → ℕ
upper a v u = cond (nat_lt v u) (a v u) 0

half_square : (a : ℕ → ℕ → ℕ) (n : ℕ) → ((v u : ℕ) → v < n → u < n → a v u ≡ a u v) → ((v : ℕ) → v < n → a v v ≡ 0) → sum_below (λ v. sum_below (λ u. a v u) n) n ≡ 2 * sum_below (λ v. sum_below (λ u. upper a v u) n) n
half_square a zero mirror diagonal = refl
half_square a (suc n) mirror diagonal =
    let inner = half_square a n (λ v u h l. mirror v u (omega (arith, h)) (omega (arith, l))) (λ v h. diagonal v (omega (arith, h))) in
    let column : sum_below (λ v. a v n) n ≡ sum_below (λ v. a n v) n = sum_below-same (λ v. a v n) (λ v. a n v) n (λ v h. mirror v n (omega (arith, h)) (omega arith)) in
    let column' : sum_below (λ v. upper a v n) n ≡ sum_below (λ v. a v n) n = sum_below-same (λ v. upper a v n) (λ v. a v n) n (λ v h. cond-true {A = ℕ} (nat_lt v n) (a v n) 0 (lt-ltb v n h)) in
    let row : sum_below (λ u. upper a n u) n ≡ 0 = sum_below-same (λ u. upper a n u) (λ _. 0) n (λ u h. cond-false {A = ℕ} (nat_lt n u) (a n u) 0 (le-ltb n u (omega (arith, h)))) ∙ sum_below-zero n in
    let split = sum_below-add (λ v. sum_below (λ u. a v u) n) (λ v. a v n) n in
    let split' = sum_below-add (λ v. sum_below (λ u. upper a v u) n) (λ v. upper a v n) n in
    omega (arith, inner, column, column', row, split, split', diagonal n (omega arith), cond-false {A = ℕ} (nat_lt n n) (a n n) 0 (le-ltb n n (omega arith)))

module _ (lists : Lists) (simple : IsSimpleMap lists) where
  abbrev times : ℕ → ℕ → ℕ
  times v u = count_of u (list_of lists v)

  alone : (v : ℕ) → v < length lists → times v v ≡ 0
  alone v h =
      elim (cases_lt (times v v) 1) [
        | inl none ↦ omega arith
        | inr some ↦ absurd (simple.no_loop v v (h, Contains-from_count_of v (list_of lists v) some) refl)
      ]

  before_sum : (k : ℕ) → edges_before lists k ≡ sum_below (λ v. sum_below (λ u. upper times v u) (length lists)) k
  before_sum zero = sym (edges_before-none lists)
  before_sum (suc k) =
      omega (arith, ap (λ i. edges_before lists i) (add-one k), edges_before-more lists k, before_sum k, edges_until-sum lists k (length lists))

  pub edges_before-all : edges_before lists (length lists) ≡ edge_count lists
  edges_before-all =
      let n = length lists in
      let rows = sum_below-same (λ v. length (list_of lists v)) (λ v. sum_below (λ u. times v u) n) n
      (λ v h. sym (sum_below-count_of (list_of lists v) n (λ u c. simple.in_range v u (h, c)))) in
      let half = half_square times n (count_mirrored lists simple) alone in
      omega (arith, before_sum n, dart_count-rows lists, rows, half, dart_count-edge_count lists simple)

  -- the number of an edge is below m
  pub edge_number-lt : (a b : ℕ) → HasEdge lists a b → edge_number lists a b < edge_count lists
  edge_number-lt a b e = let h = edge_number-before lists simple a b (length lists) e e.1.0 in omega (arith, h, edges_before-all)
