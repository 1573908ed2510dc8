-- Totals of weights of darts: over all darts, over those of a map without an edge, and where few darts weigh anything.
use Rattle.std.proofs.Common.{◌≡◌, ◌≢◌, ℕ, zero, suc, ◌+◌, ◌<◌, Bool, true, cond, eqb, List, [], ◌∷◌, ◌++◌, length, get_or, set, Contains, ℤ, pos, ◌+ℤ◌, refl, sym, ap, ap₂, ◌∙◌, inl, inr, arith, eq-eqb, eqb-true, get_or-set_other, length-set}
use Rattle.std.specs.List.{remove}
use Rattle.std.proofs.lemmas.Bool.{cases_eq, cond-true, cond-false, false_from_ne_true}
use Rattle.std.proofs.lemmas.Int.{ints}
use Rattle.map_lists.specs.Lists.{Lists}
use Rattle.map_theory.specs.Maps.{Dart, HasDart, IsSimpleMap, list_of, darts_from, darts_since, darts, dart_number}
use Rattle.map_theory.specs.Edges.{without_entry, without_edge}
use Rattle.map_theory.proofs.DartLemmas.{length-darts, dart_number-lt, get_or-dart_number, IsDartNumber-darts, place_of-here, place_of-there}
use Rattle.map_theory.proofs.EntryLemmas.{Contains-cons_cases}
use Rattle.drawings.specs.OuterFaces.{sum_over}

-- the sum of the weights of darts
abbrev pub total : (Dart → ℤ) → List Dart → ℤ
total w [] = pos 0
total w (d ∷ ds) = w d +ℤ total w ds

pub sum_over-total : (p : Dart → Bool) (f : Dart → ℤ) (ds : List Dart) → sum_over p f ds ≡ total (λ d. cond (p d) (f d) (pos 0)) ds
sum_over-total p f [] = refl
sum_over-total p f (d ∷ ds) = ap (λ (z : ℤ). cond (p d) (f d) (pos 0) +ℤ z) (sum_over-total p f ds)

total-append : (w : Dart → ℤ) (ds es : List Dart) → total w (ds ++ es) ≡ total w ds +ℤ total w es
total-append w [] es = omega (arith, ints)
total-append w (d ∷ ds) es = omega (arith, ints, total-append w ds es)

pub total-add : (w x : Dart → ℤ) (ds : List Dart) → total (λ d. w d +ℤ x d) ds ≡ total w ds +ℤ total x ds
total-add w x [] = omega (arith, ints)
total-add w x (d ∷ ds) = omega (arith, ints, total-add w x ds)

total-alike : (w x : Dart → ℤ) (ds : List Dart) → ((i : ℕ) → i < length ds → w (get_or ds i (0, 0)) ≡ x (get_or ds i (0, 0))) → total w ds ≡ total x ds
total-alike w x [] h = refl
total-alike w x (d ∷ ds) h = ap₂ (λ (y z : ℤ). y +ℤ z) (h 0 (omega arith)) (total-alike w x ds (λ i l. h (suc i) (omega arith)))

total-none : (w : Dart → ℤ) (ds : List Dart) → ((i : ℕ) → i < length ds → w (get_or ds i (0, 0)) ≡ pos 0) → total w ds ≡ pos 0
total-none w [] h = refl
total-none w (d ∷ ds) h = let e = h 0 (omega arith) in let f = total-none w ds (λ i l. h (suc i) (omega arith)) in omega (arith, ints)

-- the one dart that passes a test
total-one : (t : Dart → Bool) (z : ℤ) (ds : List Dart) (k : ℕ) → k < length ds → t (get_or ds k (0, 0)) ≡ true → ((i : ℕ) → i < length ds → t (get_or ds i (0, 0)) ≡ true → i ≡ k) → total (λ d. cond (t d) z (pos 0)) ds ≡ z
total-one t z [] k l on one = absurd (omega arith)
total-one t z (d ∷ ds) zero l on one =
    let e = cond-true (t d) z (pos 0) on in
    let f = total-none (λ (x : Dart). cond (t x) z (pos 0)) ds (λ i m. cond-false (t (get_or ds i (0, 0))) z (pos 0) (false_from_ne_true (t (get_or ds i (0, 0))) (λ on'. let q = one (suc i) (omega arith) on' in absurd (omega arith)))) in
    omega (arith, ints)
total-one t z (d ∷ ds) (suc k) l on one =
    let e = cond-false (t d) z (pos 0) (false_from_ne_true (t d) (λ on'. let q = one 0 (omega arith) on' in absurd (omega arith))) in
    omega (arith, total-one t z ds k (omega arith) on (λ i m on'. let q = one (suc i) (omega arith) on' in omega arith), ints)

-- ---- all darts of a map
-- weights that are alike at each dart
pub total-darts : (lists : Lists) → IsSimpleMap lists → (w x : Dart → ℤ) → ((v u : ℕ) → HasDart lists v u → w (v, u) ≡ x (v, u)) → total w (darts lists) ≡ total x (darts lists)
total-darts lists simple w x h =
    total-alike w x (darts lists)
    (λ i l. let n = length-darts lists in let is = IsDartNumber-darts lists i (0, 0) simple.no_repeat (omega arith) in h (get_or (darts lists) i (0, 0)).0 (get_or (darts lists) i (0, 0)).1 is.is_dart)

-- one dart alone
pub total-dart : (lists : Lists) → IsSimpleMap lists → (v u : ℕ) → HasDart lists v u → (z : ℤ) → total (λ d. cond (eqb (dart_number lists d) (dart_number lists (v, u))) z (pos 0)) (darts lists) ≡ z
total-dart lists simple v u has z =
    let n = length-darts lists in
    let k = dart_number lists (v, u) in
    let l = dart_number-lt lists v u has in
    total-one (λ (d : Dart). eqb (dart_number lists d) k) z (darts lists) k (omega arith)
    (eq-eqb (dart_number lists (get_or (darts lists) k (0, 0))) k (ap (dart_number lists) (get_or-dart_number lists v u (0, 0) has)))
    (λ i m on. let is = IsDartNumber-darts lists i (0, 0) simple.no_repeat (omega arith) in sym is.number ∙ eqb-true (dart_number lists (get_or (darts lists) i (0, 0))) k on)

-- ---- without an edge
-- the darts from a vertex to the entries of a list
abbrev row : (Dart → ℤ) → ℕ → List ℕ → ℤ
row w v us = total w (darts_from v us)

row-without : (w : Dart → ℤ) (v x : ℕ) (us : List ℕ) → Contains us x → row w v us ≡ row w v (without_entry us x) +ℤ w (v, x)
row-without w v x [] c = absurd (let l = c.1 in omega arith)
row-without w v x (y ∷ us) c =
    elim (cases_eq y x) [
      | inl e ↦
          omega (arith, ap (λ (k : ℕ). w (v, k)) e, ap (λ (k : ℕ). row w v (remove (y ∷ us) k)) (place_of-here x y us e), ints)
      | inr ne ↦
          let q = row-without w v x us (elim (Contains-cons_cases y us x c) [ inl e ↦ absurd (ne e) | inr h ↦ h ]) in
          omega (arith, ap (λ (k : ℕ). row w v (remove (y ∷ us) k)) (place_of-there x y us ne), ints)
    ]

-- a list replaced
total-set : (w : Dart → ℤ) (lists : Lists) (s v t : ℕ) (us : List ℕ) → t ≡ s + v → v < length lists → total w (darts_since s (set lists v us)) +ℤ row w t (list_of lists v) ≡ total w (darts_since s lists) +ℤ row w t us
total-set w [] s v t us e l = absurd (omega arith)
total-set w (vs ∷ lists) s zero t us e l =
    let q : t ≡ s = omega arith in
    let c = total-append w (darts_from s us) (darts_since (s + 1) lists) in
    let d = total-append w (darts_from s vs) (darts_since (s + 1) lists) in
    omega (arith, ap (λ (k : ℕ). row w k us) q, ap (λ (k : ℕ). row w k vs) q, ints)
total-set w (vs ∷ lists) s (suc v) t us e l =
    let c = total-append w (darts_from s vs) (darts_since (s + 1) (set lists v us)) in
    let d = total-append w (darts_from s vs) (darts_since (s + 1) lists) in
    omega (arith, total-set w lists (s + 1) v t us (omega arith) (omega arith), ints)

-- the two darts of an edge taken away
pub total-without : (lists : Lists) → IsSimpleMap lists → (u v : ℕ) → HasDart lists u v → (w : Dart → ℤ) → total w (darts lists) ≡ (total w (darts (without_edge lists u v)) +ℤ w (u, v)) +ℤ w (v, u)
total-without lists simple u v edge w =
    let back = simple.both_ways u v edge in
    let one = without_entry (list_of lists u) v in
    let other = without_entry (list_of lists v) u in
    let half = set lists u one in
    let a = total-set w lists 0 u u one (omega arith) edge.0 in
    let c = ap (row w v) (get_or-set_other lists u v one [] (simple.no_loop u v edge)) in
    let d = row-without w u v (list_of lists u) edge.1 in
    let e = row-without w v u (list_of lists v) back.1 in
    omega (arith, total-set w half 0 v v other (omega arith) (let n = length-set lists u one in let l = back.0 in omega arith), ints)
