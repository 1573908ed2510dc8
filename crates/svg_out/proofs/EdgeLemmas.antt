-- Later neighbours are what a sort gives, and edges are made vertex by vertex.
use Rattle.std.proofs.Common.{◌≡◌, ◌≢◌, ◌&&◌, ◌==◌, ◌+◌, ◌<◌, ◌≤◌, ℕ, zero, suc, List, [], ◌∷◌, ◌++◌, length, take, get_or, nat_lt, cond, eqb, AllPairs, Contains, All, IsPermutation, refl, sym, ap, ap₂, ◌∙◌, subst, inl, inr, arith, add-one, append-nil, IsSorted, lt-ltb, ltb-true, map-id}
use Rattle.std.specs.List.{filter, flat_map, list_any, range_with_len}
use Rattle.std.specs.Ordering.{nat_cmp}
use Rattle.std.proofs.lemmas.Grind.{flat_map-append}
use Rattle.std.proofs.lemmas.List.{take_more}
use Rattle.std.proofs.lemmas.List.FromFn.{length-range_with_len, get_or-range_with_len, map-range_with_len_more}
use Rattle.std.proofs.lemmas.List.Elements.{All-append, All-nil, All-map, All-contains_itself, All-weaker, filter-append}
use Rattle.std.proofs.lemmas.List.Sorted.{IsNonDecreasingBy-from_sort, Contains-permutation, IsPermutation-sym, sum_by-IsPermutation}
use Rattle.std.proofs.lemmas.List.Kept.{AllPairs-filter}
use Rattle.std.proofs.lemmas.Bool.{and_parts, and_from}
use Rattle.map_lists.specs.Lists.{Lists}
use Rattle.map_theory.specs.Maps.{Dart, IsSimpleMap, list_of, darts_from}
use Rattle.map_theory.proofs.EntryLemmas.{Contains-here, Contains-there, Contains-cons_cases, AllPairs-from_counts, count_of-le-one, Contains-from_filter, Contains-filter, Contains-from_list_any, list_any-from_Contains}
use Rattle.svg_out.specs.Edges.{vertices, later_neighbours, edges, AreBelow}

-- one number more
pub range-more : (n : ℕ) → range_with_len 0 (n + 1) ≡ range_with_len 0 n ++ n ∷ []
range-more n =
    sym (map-id (range_with_len 0 (n + 1))) ∙ (map-range_with_len_more (λ x. x) 0 n n (omega arith) ∙ ap (λ xs. xs ++ n ∷ []) (map-id (range_with_len 0 n)))

-- the numbers of a range are those below its end
pub Contains-range : (n u : ℕ) → u < n → Contains (range_with_len 0 n) u
Contains-range n u l = (u, rw length-range_with_len l, get_or-range_with_len 0 n u u l ∙ omega arith)

pub Contains-from_range : (n u : ℕ) → Contains (range_with_len 0 n) u → u < n
Contains-from_range n u c =
    let within : c.0 < n = rw length-range_with_len at c.1 in
    omega (arith, within, sym (get_or-range_with_len 0 n c.0 u within) ∙ c.2)

-- a range rises
range_rises : (n : ℕ) → AllPairs (λ (x y : ℕ). x < y) (range_with_len 0 n)
range_rises n = λ i j d l h.
    let within : j < n = rw length-range_with_len at h in
    omega (arith, get_or-range_with_len 0 n i d (omega arith), get_or-range_with_len 0 n j d within)

-- two rising lists of the same numbers are equal

module _ (x y : ℕ) (xs ys : List ℕ) (up : AllPairs (λ (a b : ℕ). a < b) (x ∷ xs)) (up' : AllPairs (λ (a b : ℕ). a < b) (y ∷ ys)) (to : (u : ℕ) → Contains (x ∷ xs) u → Contains (y ∷ ys) u) (back : (u : ℕ) → Contains (y ∷ ys) u → Contains (x ∷ xs) u) where
  first_below : (a u : ℕ) (us : List ℕ) → AllPairs (λ (z w : ℕ). z < w) (a ∷ us) → Contains us u → a < u
  first_below a u us rising c = let e : get_or us c.0 u ≡ u = c.2 in omega (arith, rising 0 (suc c.0) u (omega arith) (omega (arith, c.1)), e)

  same_first : x ≡ y
  same_first =
      elim (Contains-cons_cases y ys x (to x (Contains-here x xs))) [
        | inl e ↦ sym e
        | inr c ↦ elim (Contains-cons_cases x xs y (back y (Contains-here y ys))) [
          | inl e ↦ e
          | inr c' ↦ absurd (omega (arith, first_below y x ys up' c, first_below x y xs up c'))
        ]
      ]

  rest_to : (u : ℕ) → Contains xs u → Contains ys u
  rest_to u c =
      elim (Contains-cons_cases y ys u (to u (Contains-there x xs u c))) [
        | inl e ↦ absurd (omega (arith, first_below x u xs up c, same_first, e))
        | inr h ↦ h
      ]

  rest_back : (u : ℕ) → Contains ys u → Contains xs u
  rest_back u c =
      elim (Contains-cons_cases x xs u (back u (Contains-there y ys u c))) [
        | inl e ↦ absurd (omega (arith, first_below y u ys up' c, same_first, e))
        | inr h ↦ h
      ]

rising-tail : (x : ℕ) (xs : List ℕ) → AllPairs (λ (a b : ℕ). a < b) (x ∷ xs) → AllPairs (λ (a b : ℕ). a < b) xs
rising-tail x xs up = λ i j d l h. up (suc i) (suc j) d (omega (arith, l)) (omega (arith, h))

pub rising-same : (xs ys : List ℕ) → AllPairs (λ (a b : ℕ). a < b) xs → AllPairs (λ (a b : ℕ). a < b) ys → ((u : ℕ) → Contains xs u → Contains ys u) → ((u : ℕ) → Contains ys u → Contains xs u) → xs ≡ ys
rising-same [] [] up up' to back = refl
rising-same [] (y ∷ ys) up up' to back = absurd (let c = back y (Contains-here y ys) in omega (arith, c.1))
rising-same (x ∷ xs) [] up up' to back = absurd (let c = to x (Contains-here x xs) in omega (arith, c.1))
rising-same (x ∷ xs) (y ∷ ys) up up' to back =
    ap₂ (λ (a : ℕ) (rest : List ℕ). a ∷ rest) (same_first x y xs ys up up' to back)
    (rising-same xs ys (rising-tail x xs up) (rising-tail y ys up') (rest_to x y xs ys up up' to back) (rest_back x y xs ys up up' to back))

All-from_contains : (P : ℕ → Type 0) (us : List ℕ) → ((u : ℕ) → Contains us u → P u) → All P us
All-from_contains P us h = All-weaker (λ (u : ℕ). Contains us u) P h us (All-contains_itself us)

-- what a sort makes of a list without repeats rises
pub rising-sorted : (us row : List ℕ) → AllPairs ◌≢◌ us → IsPermutation us row → IsSorted nat_cmp row → AllPairs (λ (a b : ℕ). a < b) row
rising-sorted us row distinct moved sorted =
    let apart : AllPairs ◌≢◌ row = AllPairs-from_counts row (λ u c. omega (arith, sum_by-IsPermutation (λ (w : ℕ). cond (eqb w u) 1 0) us row moved, count_of-le-one u us distinct)) in
    let up = IsNonDecreasingBy-from_sort (λ (x : ℕ). x) row sorted in
    λ i j d l h. omega (arith, apart i j d l h, up i j d (omega arith) h)

-- an entry of the later neighbours is a later neighbour
pub Contains-from_later : (lists : Lists) (v u : ℕ) → Contains (later_neighbours lists v) u → (v < u) × (u < length lists) × Contains (list_of lists v) u
unfolding later_neighbours
Contains-from_later lists v u c =
    let h = Contains-from_filter _ (vertices lists) u c in
    let parts = and_parts (nat_lt v u) (list_any (λ w. w == u) (list_of lists v)) h.1 in
    (ltb-true v u parts.0, Contains-from_range (length lists) u h.0, Contains-from_list_any u (list_of lists v) parts.1)

pub Contains-later : (lists : Lists) (v u : ℕ) → v < u → u < length lists → Contains (list_of lists v) u → Contains (later_neighbours lists v) u
unfolding later_neighbours
Contains-later lists v u l h c =
    Contains-filter (λ x. nat_lt v x && list_any (λ w. w == x) (list_of lists v)) (vertices lists) u (Contains-range (length lists) u h)
    (and_from (nat_lt v u) (list_any (λ w. w == u) (list_of lists v)) (lt-ltb v u l) (list_any-from_Contains u (list_of lists v) c))

later_rises : (lists : Lists) (v : ℕ) → AllPairs (λ (a b : ℕ). a < b) (later_neighbours lists v)
unfolding later_neighbours
later_rises lists v = AllPairs-filter (λ (a b : ℕ). a < b) _ (vertices lists) (range_rises (length lists))

-- one number more of a list, if it is greater than v
pub later-more : (v : ℕ) (us : List ℕ) (k : ℕ) (old new : List ℕ) → k < length us → old ≡ filter (λ u. nat_lt v u) (take k us) → new ≡ old ++ cond (nat_lt v (get_or us k 0)) (get_or us k 0 ∷ []) [] → new ≡ filter (λ u. nat_lt v u) (take (k + 1) us)
later-more v us k old new l was is =
    let u = get_or us k 0 in
    is ∙ ap (λ (xs : List ℕ). xs ++ cond (nat_lt v u) (u ∷ []) []) was ∙ sym (filter-append (λ u. nat_lt v u) (take k us) (u ∷ [])) ∙ ap (filter (λ u. nat_lt v u)) (sym (take_more us k 0 l))

-- the neighbours that are greater, sorted, are the later neighbours
pub later-sorted : (lists : Lists) (v : ℕ) (row : List ℕ) → IsSimpleMap lists → v < length lists → IsPermutation (filter (λ u. nat_lt v u) (list_of lists v)) row → IsSorted nat_cmp row → row ≡ later_neighbours lists v
later-sorted lists v row simple h moved sorted =
    let us = filter (λ u. nat_lt v u) (list_of lists v) in
    let distinct : AllPairs ◌≢◌ us = AllPairs-filter ◌≢◌ (λ u. nat_lt v u) (list_of lists v) (simple.no_repeat v h) in
    rising-same row (later_neighbours lists v) (rising-sorted us row distinct moved sorted) (later_rises lists v)
    (λ u c.
    let passed = Contains-from_filter (λ w. nat_lt v w) (list_of lists v) u (Contains-permutation row us u (IsPermutation-sym us row moved) c) in
    Contains-later lists v u (ltb-true v u passed.1) (simple.in_range v u (h, passed.0)) passed.0)
    (λ u c.
    let later = Contains-from_later lists v u c in
    Contains-permutation us row u moved (Contains-filter (λ w. nat_lt v w) (list_of lists v) u later.2 (lt-ltb v u later.0)))

-- the edges from the vertices below v
abbrev pub edges_before : Lists → ℕ → List Dart
edges_before lists v = flat_map (λ w. darts_from w (later_neighbours lists w)) (range_with_len 0 v)

pub edges_before-more : (lists : Lists) (v : ℕ) → edges_before lists (v + 1) ≡ edges_before lists v ++ darts_from v (later_neighbours lists v)
edges_before-more lists v =
    ap (λ (vs : List ℕ). flat_map (λ w. darts_from w (later_neighbours lists w)) vs) (range-more v)
    ∙ flat_map-append (λ w. darts_from w (later_neighbours lists w)) (range_with_len 0 v) (v ∷ [])
    ∙ ap (λ (es : List Dart). edges_before lists v ++ es) (append-nil (darts_from v (later_neighbours lists v)))

-- both ends of the edges from v are vertices
AreBelow-from : (lists : Lists) (v : ℕ) → v < length lists → AreBelow (length lists) (darts_from v (later_neighbours lists v))
AreBelow-from lists v h =
    All-map (λ (e : Dart). (e.0 < length lists) × (e.1 < length lists)) (λ (u : ℕ). let d : Dart = (v, u) in d) (later_neighbours lists v)
    (All-from_contains (λ (u : ℕ). (v < length lists) × (u < length lists)) (later_neighbours lists v) (λ u c. (h, (Contains-from_later lists v u c).1)))

AreBelow-before : (lists : Lists) (v : ℕ) → v ≤ length lists → AreBelow (length lists) (edges_before lists v)
AreBelow-before lists zero h = All-nil (λ (e : Dart). (e.0 < length lists) × (e.1 < length lists))
AreBelow-before lists (suc v) h =
    subst (λ (es : List Dart). AreBelow (length lists) es) (sym (edges_before-more lists v) ∙ ap (λ (k : ℕ). edges_before lists k) (add-one v))
    (All-append (λ (e : Dart). (e.0 < length lists) × (e.1 < length lists)) (edges_before lists v) (darts_from v (later_neighbours lists v)) (AreBelow-before lists v (omega (arith, h))) (AreBelow-from lists v (omega (arith, h))))

-- both ends of an edge are vertices
pub AreBelow-edges : (lists : Lists) (n : ℕ) (es : List Dart) → n ≡ length lists → es ≡ edges lists → AreBelow n es
unfolding edges
AreBelow-edges lists n es count is =
    rw (count, is) (AreBelow-before lists (length lists) (omega arith))
