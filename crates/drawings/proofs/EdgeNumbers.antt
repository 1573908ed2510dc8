-- The numbers of edges rise in their order, and are below m.
use Rattle.std.proofs.Common.{◌≡◌, ◌&&◌, ◌+◌, ◌<◌, ◌≤◌, ℕ, zero, suc, Bool, true, false, cond, eqb, List, [], ◌∷◌, length, count_by, nat_lt, refl, sym, ap, subst, ◌∙◌, inl, inr, arith, lt-ltb, eq-eqb, ne_eqb, add-one}
use Rattle.std.proofs.lemmas.List.Sums.{sum_by-cons}
use Rattle.std.proofs.lemmas.Bool.{cases_lt, cases_order, cond-true, le-ltb}
use Rattle.map_lists.specs.Lists.{Lists}
use Rattle.map_theory.specs.Maps.{IsSimpleMap, list_of}
use Rattle.map_theory.proofs.EntryLemmas.{count_of, count_of-cons, Contains-counted}
use Rattle.map_theory.proofs.DartCounts.{sum_below, sum_below-add, sum_below-same, sum_below-zero}
use Rattle.vertex_rounds.specs.Rounds.{HasEdge, ComesBefore}
use Rattle.drawings.specs.Bars.{edges_until, edges_before, edge_number}
use Rattle.drawings.proofs.EdgeCounts.{edges_until-is, edges_before-more}

-- how often u stands in a list, if it is above v
abbrev pub above : List ℕ → ℕ → ℕ → ℕ
above us v u = cond (nat_lt v u) (count_of u us) 0

-- one number more, by where x stands

below_end : (b c : Bool) → cond (b && true) 1 0 + cond {A = ℕ} c (cond false 1 0) 0 ≡ cond (b && true) 1 0
below_end true true = refl
below_end true false = refl
below_end false true = refl
below_end false false = refl

at_end : (b : Bool) → cond (b && false) 1 0 + cond {A = ℕ} b (cond true 1 0) 0 ≡ cond (b && true) 1 0
at_end true = refl
at_end false = refl

above_end : (b c : Bool) → cond (b && false) 1 0 + cond {A = ℕ} c (cond false 1 0) 0 ≡ cond (b && false) 1 0
above_end true true = refl
above_end true false = refl
above_end false true = refl
above_end false false = refl

single_more : (v x end : ℕ) → cond (nat_lt v x && nat_lt x end) 1 0 + cond {A = ℕ} (nat_lt v end) (cond (eqb x end) 1 0) 0 ≡ cond (nat_lt v x && nat_lt x (suc end)) 1 0
single_more v x end = grind (arith, cases_order, cond, nat_lt, eqb, le-ltb, eq-eqb, lt-ltb, at_end, ne_eqb, below_end, above_end)

none_of : (b : Bool) → 0 ≡ cond {A = ℕ} (b && false) 1 0
none_of true = refl
none_of false = refl

-- x alone, where it is above v and below end
single : (v x end : ℕ) → sum_below (λ u. cond (nat_lt v u) (cond (eqb x u) 1 0) 0) end ≡ cond (nat_lt v x && nat_lt x end) 1 0
single v x zero = rw (le-ltb x 0 (omega arith)) (none_of (nat_lt v x))
single v x (suc end) = omega (arith, single v x end, single_more v x end)

-- the count of a list is the sum over what may stand in it
pub count-sum : (us : List ℕ) (v end : ℕ) → count_by (λ u. nat_lt v u && nat_lt u end) us ≡ sum_below (above us v) end
count-sum [] v end = sym (sum_below-same (above [] v) (λ _. 0) end (λ u l. none (nat_lt v u)) ∙ sum_below-zero end)
  where
    none : (b : Bool) → cond {A = ℕ} b 0 0 ≡ 0
    none true = refl
    none false = refl
count-sum (x ∷ us) v end =
    let parts = sum_below-same (above (x ∷ us) v) (λ u. cond (nat_lt v u) (cond (eqb x u) 1 0) 0 + above us v u) end (λ u l. split (nat_lt v u) u) in
    let first = sum_by-cons (λ u. cond (nat_lt v u && nat_lt u end) 1 0) x us in
    omega (arith, parts, sum_below-add (λ u. cond (nat_lt v u) (cond (eqb x u) 1 0) 0) (above us v) end, first, single v x end, count-sum us v end)
  where
    split : (b : Bool) (u : ℕ) → cond b (count_of u (x ∷ us)) 0 ≡ cond b (cond (eqb x u) 1 0) 0 + cond b (count_of u us) 0
    split true u = count_of-cons u x us
    split false u = refl

pub edges_until-sum : (lists : Lists) (v end : ℕ) → edges_until lists v end ≡ sum_below (above (list_of lists v) v) end
edges_until-sum lists v end = edges_until-is lists v end ∙ count-sum (list_of lists v) v end

-- with a greater end there are no fewer
sum_below-more : (f : ℕ → ℕ) (k n : ℕ) → k ≤ n → sum_below f k ≤ sum_below f n
sum_below-more f k zero h = let e : k ≡ 0 = omega arith in subst (λ i. sum_below f i ≤ 0) (sym e) (omega arith)
sum_below-more f k (suc n) h =
    elim (cases_lt n k) [
      | inl more ↦ (let e : k ≡ suc n = omega arith in subst (λ i. sum_below f i ≤ sum_below f (suc n)) (sym e) (omega arith))
      | inr less ↦ omega (arith, sum_below-more f k n less)
    ]

module _ (lists : Lists) (simple : IsSimpleMap lists) where
  -- the edge from a to b is counted before a greater end
  pub edges_until-rise : (a b end : ℕ) → HasEdge lists a b → b < end → edges_until lists a b < edges_until lists a end
  edges_until-rise a b end e l =
      let f = above (list_of lists a) a in
      let here : f b ≡ count_of b (list_of lists a) = cond-true {A = ℕ} (nat_lt a b) (count_of b (list_of lists a)) 0 (lt-ltb a b e.0) in
      let some = Contains-counted b (list_of lists a) e.1.1 in
      omega (arith, edges_until-sum lists a b, edges_until-sum lists a end, sum_below-more f (suc b) end (omega arith), here, some)

  pub edges_before-up : (k n : ℕ) → k ≤ n → edges_before lists k ≤ edges_before lists n
  edges_before-up k zero h = let e : k ≡ 0 = omega arith in subst (λ i. edges_before lists i ≤ edges_before lists 0) (sym e) (omega arith)
  edges_before-up k (suc n) h =
      elim (cases_lt n k) [
        | inl more ↦ (let e : k ≡ suc n = omega arith in subst (λ i. edges_before lists i ≤ edges_before lists (suc n)) (sym e) (omega arith))
        | inr less ↦ omega (arith, edges_before-up k n less, edges_before-more lists n, ap (λ i. edges_before lists i) (add-one n))
      ]

  -- an edge comes before those of the next vertices
  pub edge_number-before : (a b k : ℕ) → HasEdge lists a b → a < k → edge_number lists a b < edges_before lists k
  edge_number-before a b k e l =
      let n = simple.in_range a b e.1 in
      omega (arith, edges_until-rise a b (length lists) e n, edges_before-more lists a, edges_before-up (a + 1) k (omega arith))

  -- numbers rise in the order of edges
  pub edge_number-rise : (a b c d : ℕ) → HasEdge lists a b → HasEdge lists c d → ComesBefore a b c d → edge_number lists a b < edge_number lists c d
  edge_number-rise a b c d e f o =
      elim o [
        | inl less ↦ omega (arith, edge_number-before a b c e less)
        | inr same ↦ subst (λ i. edge_number lists a b < edges_before lists i + edges_until lists i d) same.0 (omega (arith, edges_until-rise a b d e same.1))
      ]
