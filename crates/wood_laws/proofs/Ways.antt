-- No edge belongs to a wood in two ways: three ways for each inner vertex are as many as there are edges but the outer three.
use Rattle.std.proofs.Common.{◌≡◌, ◌≢◌, ◌⊎◌, ℕ, zero, suc, ◌+◌, ◌*◌, ◌<◌, ◌≤◌, true, cond, eqb, List, [], ◌∷◌, length, Contains, AllPairs, refl, sym, ap, ◌∙◌, subst, inl, inr, arith, eq-eqb, ne_eqb}
use Rattle.std.proofs.lemmas.Bool.{cases_eq, cases_lt}
use Rattle.map_lists.specs.Lists.{Lists}
use Rattle.map_theory.specs.Maps.{Dart, HasDart, list_of, darts_before}
use Rattle.map_theory.proofs.DartLemmas.{HasDart-follows, darts_before_none, darts_before_more, darts_before_all}
use Rattle.map_theory.proofs.DartCounts.{sum_below, sum_below-add, sum_below-same, sum_below-zero, sum_below-count_of, dart_count-edge_count}
use Rattle.map_theory.proofs.EntryLemmas.{count_of, count_of-cons, count_of-le-one, one-le-count_of, Contains-from_count_of, AllPairs-from_counts}
use Rattle.plane_laws.specs.Triangulations.{IsTriangulation}
use Rattle.plane_peeling.proofs.Ends.{nothing_taken_off}
use Rattle.plane_peeling.proofs.Rings.{each_of_two, each_of_three}
use Rattle.graph_search.proofs.Sums.{sum_below-most, sum_below-less}
use Rattle.wood_runs.specs.Parents.{Colour, one, two, three, next, previous, End, out, into}
use Rattle.wood_laws.specs.Woods.{root, IsInner, IsEndAt, IsWood}
use Rattle.wood_laws.proofs.ColourNumbers.{cases_colour}

-- a sum over rows is that over columns
sum_below-turned : (f : ℕ → ℕ → ℕ) (n m : ℕ) → sum_below (λ v. sum_below (f v) m) n ≡ sum_below (λ u. sum_below (λ v. f v u) n) m
sum_below-turned f zero m = sym (sum_below-zero m)
sum_below-turned f (suc n) m = omega (arith, sum_below-turned f n m, sum_below-add (λ u. sum_below (λ v. f v u) n) (f n) m)

sum_below-scaled : (f : ℕ → ℕ) (n : ℕ) → sum_below (λ v. 4 * f v) n ≡ 4 * sum_below f n
sum_below-scaled f zero = refl
sum_below-scaled f (suc n) = omega (arith, sum_below-scaled f n)

sum_below-sixes : (f : ℕ → ℕ) (n : ℕ) → ((v : ℕ) → v < n → f v ≡ 6) → sum_below f n ≡ 6 * n
sum_below-sixes f zero h = refl
sum_below-sixes f (suc n) h = omega (arith, sum_below-sixes f n (λ v l. h v (omega arith)), h n (omega arith))

darts_summed : (lists : Lists) (k : ℕ) → sum_below (λ v. length (list_of lists v)) k ≡ darts_before lists k
darts_summed lists zero = sym (darts_before_none lists)
darts_summed lists (suc k) = let e : suc k ≡ k + 1 = omega arith in omega (arith, darts_summed lists k, darts_before_more lists k, ap (darts_before lists) e)

swapped : (u a b c : ℕ) → count_of u (a ∷ b ∷ c ∷ []) ≡ count_of u (a ∷ c ∷ b ∷ [])
swapped u a b c = omega (arith, count_of-cons u a (b ∷ c ∷ []), count_of-cons u a (c ∷ b ∷ []), count_of-cons u b (c ∷ []), count_of-cons u c (b ∷ []), count_of-cons u b [], count_of-cons u c [])

module _ (lists : Lists) (base : Dart) (parent : Colour → ℕ → ℕ) (triangulation : IsTriangulation lists) (has : HasDart lists base.0 base.1) (wood : IsWood lists base parent) where
  abbrev n : ℕ
  n = length lists

  abbrev r : Colour → ℕ
  r c = root lists base c

  -- the roots are three vertices
  pub root_in : (c : Colour) → r c < n
  root_in one = triangulation.simple.in_range base.0 base.1 has
  root_in two = has.0
  root_in three = triangulation.simple.in_range base.1 (r three) (HasDart-follows lists base.1 base.0 (triangulation.simple.both_ways base.0 base.1 has))

  pub roots_apart : AllPairs ◌≢◌ (r one ∷ r three ∷ r two ∷ [])
  roots_apart = (nothing_taken_off lists (λ v. true) base.1 base.0 triangulation has (λ v l. refl)).near.cycle.distinct

  one_three : r one ≢ r three
  one_three = roots_apart 0 1 0 (omega arith) (omega arith)

  one_two : r one ≢ r two
  one_two = roots_apart 0 2 0 (omega arith) (omega arith)

  three_two : r three ≢ r two
  three_two = roots_apart 1 2 0 (omega arith) (omega arith)

  pub root_or_inner : (v : ℕ) → v < n → ((c : Colour) × (v ≡ r c)) ⊎ IsInner lists base v
  root_or_inner v l =
      elim (cases_eq v (r one)) [
        | inl e ↦ inl (one, e)
        | inr a ↦ elim (cases_eq v (r two)) [
          | inl e ↦ inl (two, e)
          | inr b ↦ elim (cases_eq v (r three)) [ inl e ↦ inl (three, e) | inr c ↦ inr (l, each a b c) ]
        ]
      ]
    where
      each : v ≢ r one → v ≢ r two → v ≢ r three → (c : Colour) → v ≢ r c
      each a b c one = a
      each a b c two = b
      each a b c three = c

  abbrev roots : List ℕ
  roots = r one ∷ r two ∷ r three ∷ []

  roots_distinct : AllPairs ◌≢◌ roots
  roots_distinct = AllPairs-from_counts roots (λ u c. one_each u)
    where
      one_each : (u : ℕ) → count_of u roots ≤ 1
      one_each u =
          omega (arith, swapped u (r one) (r two) (r three), count_of-le-one u (r one ∷ r three ∷ r two ∷ []) roots_apart)

  -- where the edges go that belong to v: to its parents, or from root to root
  abbrev three_of : ℕ → List ℕ
  three_of v = parent one v ∷ parent two v ∷ parent three v ∷ []

  abbrev others : Colour → List ℕ
  others c = r (next c) ∷ r (previous c) ∷ []

  abbrev by_root : {A : Type 0} → (Colour → A) → A → ℕ → A
  by_root at_root else v = cond (eqb v (r one)) (at_root one) (cond (eqb v (r two)) (at_root two) (cond (eqb v (r three)) (at_root three) else))

  by_root-root : {A : Type 0} (f : Colour → A) (x : A) (v : ℕ) (c : Colour) → v ≡ r c → by_root f x v ≡ f c
  by_root-root f x v one e = rw (eq-eqb v (r one) e) refl
  by_root-root f x v two e = rw (ne_eqb v (r one) (λ q. one_two (sym q ∙ e)), eq-eqb v (r two) e) refl
  by_root-root f x v three e = rw (ne_eqb v (r one) (λ q. one_three (sym q ∙ e)), ne_eqb v (r two) (λ q. three_two (sym e ∙ q)), eq-eqb v (r three) e) refl

  by_root-inner : {A : Type 0} (f : Colour → A) (x : A) (v : ℕ) → IsInner lists base v → by_root f x v ≡ x
  by_root-inner f x v i = rw (ne_eqb v (r one) (i.1 one), ne_eqb v (r two) (i.1 two), ne_eqb v (r three) (i.1 three)) refl

  abbrev from : ℕ → List ℕ
  from v = by_root others (three_of v) v

  abbrev up : ℕ → List ℕ
  up v = by_root {A = List ℕ} (λ c. []) (three_of v) v

  -- how often it goes along (v, u), one way or the other
  abbrev ways : ℕ → ℕ → ℕ
  ways v u = count_of u (from v) + count_of v (up u)

  in_three : (c : Colour) (v u : ℕ) → parent c v ≡ u → 1 ≤ count_of u (three_of v)
  in_three one v u e = one-le-count_of u (three_of v) 0 0 (omega arith) e
  in_three two v u e = one-le-count_of u (three_of v) 1 0 (omega arith) e
  in_three three v u e = one-le-count_of u (three_of v) 2 0 (omega arith) e

  out_way : (c : Colour) (v u : ℕ) → IsInner lists base v → parent c v ≡ u → 1 ≤ count_of u (from v)
  out_way c v u i e = subst (λ l. 1 ≤ count_of u l) (sym (by_root-inner others (three_of v) v i)) (in_three c v u e)

  up_way : (c : Colour) (v u : ℕ) → IsInner lists base v → parent c v ≡ u → 1 ≤ count_of u (up v)
  up_way c v u i e = subst (λ l. 1 ≤ count_of u l) (sym (by_root-inner {A = List ℕ} (λ c. []) (three_of v) v i)) (in_three c v u e)

  some_way : (v u : ℕ) → HasDart lists v u → 1 ≤ ways v u
  some_way v u d =
      elim (root_or_inner v d.0) [
        | inr i ↦ (let o = wood.order v u i d in at_inner o.second o.entry i)
        | inl x ↦ elim (root_or_inner u (triangulation.simple.in_range v u d)) [
          | inr j ↦ (let o = wood.order u v j (triangulation.simple.both_ways v u d) in at_root o.second o.entry x.0 x.1 j)
          | inl y ↦ at_roots x.0 x.1 y.0 y.1
        ]
      ]
    where
      at_inner : (e : End) → IsEndAt lists base parent e v u → IsInner lists base v → 1 ≤ ways v u
      at_inner (out c) e i = let h = out_way c v u i e in omega arith
      at_inner (into c) e i = let h = up_way c u v e.0 e.1 in omega arith

      at_root : (e : End) → IsEndAt lists base parent e u v → (c : Colour) → v ≡ r c → IsInner lists base u → 1 ≤ ways v u
      at_root (out d) e c s j = let h = up_way d u v j e in omega arith
      at_root (into d) e c s j = absurd (e.0.1 c s)

      at_roots : (c : Colour) → v ≡ r c → (k : Colour) → u ≡ r k → 1 ≤ ways v u
      at_roots c s k t =
          let e = by_root-root others (three_of v) v c s in
          elim (cases_colour c k) [
            | inl q ↦ absurd (triangulation.simple.no_loop v u d (t ∙ ap r q ∙ sym s))
            | inr (inl q) ↦ (let h = subst (λ l. 1 ≤ count_of u l) (sym e) (one-le-count_of u (others c) 0 0 (omega arith) (sym (t ∙ ap r q))) in omega arith)
            | inr (inr q) ↦ (let h = subst (λ l. 1 ≤ count_of u l) (sym e) (one-le-count_of u (others c) 1 0 (omega arith) (sym (t ∙ ap r q))) in omega arith)
          ]

  at_most : (v u : ℕ) → v < n → count_of u (list_of lists v) ≤ ways v u
  at_most v u l =
      elim (cases_lt 0 (count_of u (list_of lists v))) [
        | inl some ↦ (let w = some_way v u (l, Contains-from_count_of u (list_of lists v) some) in omega (arith, w, count_of-le-one u (list_of lists v) (triangulation.simple.no_repeat v l)))
        | inr none ↦ omega arith
      ]

  -- there are as many ways as darts
  parent_in : (v : ℕ) → IsInner lists base v → (u : ℕ) → Contains (three_of v) u → u < n
  parent_in v i u c =
      let small : (c : Colour) → parent c v < n = λ c. triangulation.simple.in_range v (parent c v) (wood.edges c v i) in
      each_of_three (λ z. z < n) (parent one v) (parent two v) (parent three v) (small one) (small two) (small three) u c

  from_in : (v : ℕ) → v < n → (u : ℕ) → Contains (from v) u → u < n
  from_in v l u c =
      elim (root_or_inner v l) [
        | inl x ↦ each_of_two (λ z. z < n) (r (next x.0)) (r (previous x.0)) (root_in (next x.0)) (root_in (previous x.0)) u (subst (λ l. Contains l u) (by_root-root others (three_of v) v x.0 x.1) c)
        | inr i ↦ parent_in v i u (subst (λ l. Contains l u) (by_root-inner others (three_of v) v i) c)
      ]

  up_in : (v : ℕ) → v < n → (u : ℕ) → Contains (up v) u → u < n
  up_in v l u c =
      elim (root_or_inner v l) [
        | inl x ↦ absurd (let q = ap (λ l. length l) (by_root-root {A = List ℕ} (λ c. []) (three_of v) v x.0 x.1) in omega (arith, q, c.1))
        | inr i ↦ parent_in v i u (subst (λ l. Contains l u) (by_root-inner {A = List ℕ} (λ c. []) (three_of v) v i) c)
      ]

  six : (v : ℕ) → v < n → length (from v) + length (up v) + 4 * count_of v roots ≡ 6
  six v l =
      elim (root_or_inner v l) [
        | inl x ↦
            let b = ap (λ l. length l) (by_root-root {A = List ℕ} (λ c. []) (three_of v) v x.0 x.1) in
            omega (arith, count_of-le-one v roots roots_distinct, in_roots x.0 x.1, ap (λ l. length l) (by_root-root others (three_of v) v x.0 x.1))
        | inr i ↦
            let b = ap (λ l. length l) (by_root-inner {A = List ℕ} (λ c. []) (three_of v) v i) in
            grind (arith, cases_lt, count_of, roots, each_of_three, one, two, three, Contains-from_count_of, length, by_root-inner, others, three_of)
      ]
    where
      in_roots : (c : Colour) → v ≡ r c → 1 ≤ count_of v roots
      in_roots one e = one-le-count_of v roots 0 0 (omega arith) (sym e)
      in_roots two e = one-le-count_of v roots 1 0 (omega arith) (sym e)
      in_roots three e = one-le-count_of v roots 2 0 (omega arith) (sym e)

  all_ways : sum_below (λ v. sum_below (ways v) n) n + 12 ≡ 6 * n
  all_ways =
      let a : ℕ → ℕ = λ v. length (from v) in
      let b : ℕ → ℕ = λ v. length (up v) in
      let k : ℕ → ℕ = λ v. count_of v roots in
      let rows = sum_below-same (λ v. sum_below (ways v) n) (λ v. a v + sum_below (λ u. count_of v (up u)) n) n
      (λ v l. sum_below-add (λ u. count_of u (from v)) (λ u. count_of v (up u)) n ∙ ap (λ z. z + sum_below (λ u. count_of v (up u)) n) (sum_below-count_of (from v) n (from_in v l))) in
      let turned = sum_below-turned (λ v u. count_of v (up u)) n n in
      let columns = sum_below-same (λ u. sum_below (λ v. count_of v (up u)) n) b n (λ u l. sum_below-count_of (up u) n (up_in u l)) in
      let sixes = sum_below-sixes (λ v. a v + b v + 4 * k v) n six in
      let apart = sum_below-add (λ v. a v + b v) (λ v. 4 * k v) n in
      let apart' = sum_below-add a b n in
      let scaled = sum_below-scaled k n in
      let three_roots = sum_below-count_of roots n (λ u c. each_of_three (λ z. z < n) (r one) (r two) (r three) (root_in one) (root_in two) (root_in three) u c) in
      omega (arith, rows, sum_below-add a (λ v. sum_below (λ u. count_of v (up u)) n) n, turned, columns, sixes, apart, apart', scaled, three_roots)

  all_darts : sum_below (λ v. sum_below (λ u. count_of u (list_of lists v)) n) n + 12 ≡ 6 * n
  all_darts =
      let rows = sum_below-same (λ v. sum_below (λ u. count_of u (list_of lists v)) n) (λ v. length (list_of lists v)) n
      (λ v l. sum_below-count_of (list_of lists v) n (λ u c. triangulation.simple.in_range v u (l, c))) in
      let edges = triangulation.edges in
      omega (arith, rows, darts_summed lists n, darts_before_all lists n (omega arith), dart_count-edge_count lists triangulation.simple, edges)

  -- THE LEMMA: an edge is not the parent's edge of both of its ends
  pub two_ways : (c d : Colour) (v u : ℕ) → IsInner lists base v → IsInner lists base u → parent c v ≡ u → parent d u ≡ v → ⊥
  two_ways c d v u i j e e' =
      let other_way = up_way d u v j e' in
      let once = count_of-le-one u (list_of lists v) (triangulation.simple.no_repeat v i.0) in
      let row = sum_below-less (λ u. count_of u (list_of lists v)) (ways v) n u j.0 (λ w l. at_most v w i.0) (omega (arith, out_way c v u i e)) in
      let all = sum_below-less (λ v. sum_below (λ u. count_of u (list_of lists v)) n) (λ v. sum_below (ways v) n) n v i.0 (λ w l. sum_below-most (λ u. count_of u (list_of lists w)) (ways w) n (λ u m. at_most w u l)) row in
      omega (arith, all, all_ways, all_darts)
