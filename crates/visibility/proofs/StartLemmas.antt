-- A pass that comes to know behind each row where the next number of its vertex goes.
use Rattle.std.proofs.Common.{◌≡◌, ◌≢◌, ℕ, zero, suc, ◌+◌, ◌-◌, ◌<◌, ◌≤◌, ◌++◌, ◌&&◌, Bool, true, false, cond, ltb, eqb, List, [], ◌∷◌, length, get_or, set, map, replicate, take, length-set, ℤ, pos, refl, sym, ap, ap₂, ◌∙◌, inl, inr, arith}
use Rattle.std.specs.List.{count_by}
use Rattle.std.proofs.lemmas.Bool.{cases_eq, cases_lt, lt-ltb, le-ltb}
use Rattle.std.proofs.Math.Seq.{set-append_seam, take-append_seam}
use Rattle.std.proofs.lemmas.List.{set-append_left, length-map, map-set, get_or_past, get_or-replicate, length-replicate, get_or-set_same, get_or-set_other, length-append, get_or_append_left, get_or_push}
use Rattle.std.proofs.lemmas.List.Sums.{count_by_more_yes, count_by_more_no}
use Rattle.pg_plane.proofs.Counts.{count_none}
use Rattle.map_lists.specs.Lists.{Lists}
use Rattle.map_theory.specs.Maps.{IsSimpleMap, list_of, edge_count}
use Rattle.map_theory.proofs.DartPermutations.{count_by-count_below}
use Rattle.drawings.specs.Bars.{edges_until, edges_before}
use Rattle.drawings.proofs.EdgeCounts.{edges_until-is}
use Rattle.graph_search.specs.Arcs.{arcs_of}
use Rattle.bipolar.proofs.ColumnLemmas.{place_in, IsFilled-none, IsFilled-more, IsFilled-next}
use Rattle.visibility.specs.Spans.{IsFilledTo}

-- the list of the first k values
values : (ℕ → ℕ) → ℕ → List ℕ
values f zero = []
values f (suc k) = values f k ++ f k ∷ []

length-values : (f : ℕ → ℕ) (k : ℕ) → length (values f k) ≡ k
unfolding values
length-values f zero = refl
length-values f (suc k) = omega (arith, length-append (values f k) (f k ∷ []), length-values f k)

get_or-values : (f : ℕ → ℕ) (k a : ℕ) → a < k → get_or (values f k) a 0 ≡ f a
unfolding values
get_or-values f zero a l = absurd (omega arith)
get_or-values f (suc k) a l = elim (cases_eq a k) [
  | inl e ↦ ap (λ i. get_or (values f k ++ f k ∷ []) i 0) e ∙ (get_or_push (values f k) (f k) 0 k (length-values f k) ∙ ap f (sym e))
  | inr ne ↦
      let less : a < k = omega (arith, l, ne) in
      get_or_append_left (values f k) (f k ∷ []) 0 a (omega (arith, less, length-values f k)) ∙ get_or-values f k a less
]

-- no edge leads from a vertex to one between it and itself
none_between : (lists : Lists) (b : ℕ) → edges_until lists b b ≡ 0
none_between lists b = edges_until-is lists b b ∙ (count_by-count_below both (list_of lists b) 0 ∙ count_none (λ i. both (get_or (list_of lists b) i 0)) (length (list_of lists b)) (λ i l. off (get_or (list_of lists b) i 0)))
  where
    both : ℕ → Bool
    both u = ltb b u && ltb u b

    off : (u : ℕ) → (ltb b u && ltb u b) ≡ false
    off u = elim (cases_lt b u) [
      | inl less ↦ ap₂ (λ p q. p && q) (lt-ltb b u less) (le-ltb u b (omega arith))
      | inr most ↦ ap (λ p. p && ltb u b) (le-ltb b u most)
    ]

-- one entry more, above b or not
pub above_more : (us : List ℕ) (b n i up one : ℕ) → i < length us → get_or us i 0 < n → one ≡ cond (ltb b (get_or us i 0)) 1 0 → up ≡ count_by (λ u. ltb b u && ltb u n) (take i us) → up + one ≡ count_by (λ u. ltb b u && ltb u n) (take (i + 1) us)
above_more us b n i up one li within e h =
    let a = get_or us i 0 in
    elim (cases_lt b a) [
      | inl less ↦
          let yes : (ltb b a && ltb a n) ≡ true = ap₂ (λ p q. p && q) (lt-ltb b a less) (lt-ltb a n within) in
          let is : one ≡ 1 = e ∙ ap (λ (q : Bool). cond {A = ℕ} q 1 0) (lt-ltb b a less) in
          omega (arith, count_by_more_yes (λ u. ltb b u && ltb u n) us i 0 li yes, h, is)
      | inr most ↦
          let no' : (ltb b a && ltb a n) ≡ false = ap (λ p. p && ltb a n) (le-ltb b a most) in
          let is : one ≡ 0 = e ∙ ap (λ (q : Bool). cond {A = ℕ} q 1 0) (le-ltb b a most) in
          omega (arith, count_by_more_no (λ u. ltb b u && ltb u n) us i 0 li no', h, is)
    ]

-- the entries above b and those below it are all, where none is b
pub below_more : (us : List ℕ) (b n i down one : ℕ) → i < length us → get_or us i 0 < n → get_or us i 0 ≢ b → one ≡ cond (ltb (get_or us i 0) b) 1 0 → count_by (λ u. ltb b u && ltb u n) (take i us) + down ≡ i → count_by (λ u. ltb b u && ltb u n) (take (i + 1) us) + (down + one) ≡ i + 1
below_more us b n i down one li within ne e h =
    let a = get_or us i 0 in
    elim (cases_lt b a) [
      | inl less ↦
          let more = above_more us b n i (count_by (λ u. ltb b u && ltb u n) (take i us)) 1 li within (sym (ap (λ (q : Bool). cond {A = ℕ} q 1 0) (lt-ltb b a less))) refl in
          let is : one ≡ 0 = e ∙ ap (λ (q : Bool). cond {A = ℕ} q 1 0) (le-ltb a b (omega arith)) in
          omega (arith, more, is, h)
      | inr most ↦
          let more = above_more us b n i (count_by (λ u. ltb b u && ltb u n) (take i us)) 0 li within (sym (ap (λ (q : Bool). cond {A = ℕ} q 1 0) (le-ltb b a most))) refl in
          let is : one ≡ 1 = e ∙ ap (λ (q : Bool). cond {A = ℕ} q 1 0) (lt-ltb a b (omega (arith, most, ne))) in
          omega (arith, more, is, h)
    ]

pub one_most : (t : Bool) → cond {A = ℕ} t 1 0 ≤ 1
one_most true = omega arith
one_most false = omega arith

-- a write to numbers is one to whole numbers
pub columns_put : (t : Bool) (old new : List ℤ) (numbers : List ℕ) (spare : ℤ) (k x : ℕ) → old ≡ map pos numbers ++ spare ∷ [] → (t ≡ true → k < length numbers) → new ≡ set old (cond t k (length old - 1)) (pos x) → new ≡ map pos (cond t (set numbers k x) numbers) ++ cond t spare (pos x) ∷ []
columns_put true old new numbers spare k x are within put =
    put
    ∙ (ap (λ (zs : List ℤ). set zs k (pos x)) are
    ∙ (set-append_left (map pos numbers) (spare ∷ []) k (pos x) (omega (arith, within refl, length-map numbers pos)) ∙ ap (λ (zs : List ℤ). zs ++ spare ∷ []) (sym (map-set pos numbers k x))))
columns_put false old new numbers spare k x are within put =
    let last : length old - 1 ≡ length (map pos numbers) = omega (arith, ap (λ (zs : List ℤ). length zs) are, length-append (map pos numbers) (spare ∷ [])) in
    put ∙ (ap₂ (λ (zs : List ℤ) (i : ℕ). set zs i (pos x)) are last ∙ set-append_seam (map pos numbers) spare [] (pos x))

-- how many there are
pub columns_long : (columns : List ℤ) (numbers : List ℕ) (spare : ℤ) → columns ≡ map pos numbers ++ spare ∷ [] → length columns ≡ length numbers + 1
columns_long columns numbers spare are = omega (arith, ap (λ (zs : List ℤ). length zs) are, length-append (map pos numbers) (spare ∷ []), length-map numbers pos)

-- all but the spare one
pub columns_all : (columns : List ℤ) (numbers : List ℕ) (spare : ℤ) (n : ℕ) → columns ≡ map pos numbers ++ spare ∷ [] → length numbers ≡ n → take n columns ≡ map pos numbers
columns_all columns numbers spare n are long =
    ap₂ (λ (k : ℕ) (zs : List ℤ). take k zs) (sym long ∙ sym (length-map numbers pos)) are ∙ take-append_seam (map pos numbers) (spare ∷ [])

pub zero_at : (n x : ℕ) → get_or {A = ℕ} (replicate n 0) x 0 ≡ 0
zero_at n x =
    let zeros : List ℕ = replicate n 0 in
    elim (cases_lt x n) [ inl l ↦ get_or-replicate {A = ℕ} n x 0 0 l | inr past ↦ get_or_past zeros x 0 (omega (arith, past, length-replicate {A = ℕ} n 0)) ]

pub columns_none : (n : ℕ) → replicate (n + 1) (pos 0) ≡ map pos (replicate n 0) ++ pos 0 ∷ []
columns_none n = let next : n + 1 ≡ suc n = omega arith in rw next (more n)
  where
    more : (n : ℕ) → replicate (suc n) (pos 0) ≡ map pos (replicate n 0) ++ pos 0 ∷ []
    more zero = refl
    more (suc n) = ap (λ (zs : List ℤ). pos 0 ∷ zs) (more n)

module _ (lists rows : Lists) (simple : IsSimpleMap lists) where
  -- before all rows
  pub IsFilledTo-none : (starts columns : List ℕ) → length starts ≡ length lists → length columns ≡ edge_count lists → ((x : ℕ) → get_or columns x 0 ≡ 0) → IsFilledTo lists rows 0 0 starts columns
  IsFilledTo-none starts columns ls lc zeros =
      let n = length lists in
      let all = values (edges_before lists) n in
      record {
        places = all;
        filled = IsFilled-none lists rows simple all columns (length-values (edges_before lists) n) lc (λ a l. get_or-values (edges_before lists) n a l) zeros;
        same = λ a l. absurd (omega (arith, l));
        vertices = ls;
      }

  -- the place of an edge whose turn it is
  pub start_in : (b i : ℕ) (starts columns : List ℕ) → b < length lists → i < length (list_of lists b) → IsFilledTo lists rows b i starts columns → get_or (list_of lists b) i 0 < b → get_or starts (get_or (list_of lists b) i 0) 0 < length columns
  start_in b i starts columns lb li w l = omega (arith, place_in lists rows simple b i w.places columns lb li w.filled l, w.same (get_or (list_of lists b) i 0) l)

  -- one entry more of a row, as it is read
  pub IsFilledTo-more : (b i : ℕ) (starts columns : List ℕ) → b < length lists → i < length (list_of lists b) → IsFilledTo lists rows b i starts columns → (us row starts' columns' : List ℕ) → us ≡ list_of lists b → row ≡ arcs_of rows b → columns' ≡ cond (ltb (get_or us i 0) b) (set columns (get_or starts (get_or us i 0) 0) (get_or row i 0)) columns → starts' ≡ cond (ltb (get_or us i 0) b) (set starts (get_or us i 0) (get_or starts (get_or us i 0) 0 + 1)) starts → IsFilledTo lists rows b (i + 1) starts' columns'
  IsFilledTo-more b i starts columns lb li w us row starts' columns' eu er ec es =
      let here : ℕ = get_or us i 0 in
      let x : ℕ = get_or row i 0 in
      let old : List ℕ = w.places in
      let more : List ℕ = set old here (get_or old here 0 + 1) in
      let put : List ℕ = set starts here (get_or starts here 0 + 1) in
      let now : List ℕ = cond (ltb here b) more old in
      elim (cases_lt here b) [
        | inl less ↦
            let t = lt-ltb here b less in
            let at : get_or starts here 0 ≡ get_or old here 0 = w.same here less in
            let c : columns' ≡ cond (ltb here b) (set columns (get_or old here 0) x) columns = ec ∙ ap (λ (z : ℕ). cond (ltb here b) (set columns z x) columns) at in
            let s : starts' ≡ put = es ∙ ap (λ (q : Bool). cond q put starts) t in
            let f : now ≡ more = ap (λ (q : Bool). cond q more old) t in
            let vs = w.filled.vertices in
            record {
              places = now;
              filled = IsFilled-more lists rows simple b i old columns lb li w.filled us row now columns' eu er c refl;
              same = λ a l. elim (cases_eq a here) [
                | inl e ↦
                    let p : get_or starts' a 0 ≡ get_or starts here 0 + 1 = ap (λ (z : List ℕ). get_or z a 0) s ∙ (ap (λ k. get_or put k 0) e ∙ get_or-set_same starts here (get_or starts here 0 + 1) 0 (omega (arith, less, lb, w.vertices))) in
                    let q : get_or now a 0 ≡ get_or old here 0 + 1 = ap (λ (z : List ℕ). get_or z a 0) f ∙ (ap (λ k. get_or more k 0) e ∙ get_or-set_same old here (get_or old here 0 + 1) 0 (omega (arith, less, lb, vs))) in
                    p ∙ (ap (λ k. k + 1) at ∙ sym q)
                | inr ne ↦
                    let p : get_or starts' a 0 ≡ get_or starts a 0 = ap (λ (z : List ℕ). get_or z a 0) s ∙ get_or-set_other starts here a (get_or starts here 0 + 1) 0 ne in
                    let q : get_or now a 0 ≡ get_or old a 0 = ap (λ (z : List ℕ). get_or z a 0) f ∙ get_or-set_other old here a (get_or old here 0 + 1) 0 ne in
                    p ∙ (w.same a l ∙ sym q)
              ];
              vertices = ap (λ (z : List ℕ). length z) s ∙ (length-set starts here (get_or starts here 0 + 1) ∙ w.vertices);
            }
        | inr most ↦
            let t = le-ltb here b most in
            let c : columns' ≡ cond (ltb here b) (set columns (get_or old here 0) x) columns = ec ∙ (ap (λ (q : Bool). cond q (set columns (get_or starts here 0) x) columns) t ∙ sym (ap (λ (q : Bool). cond q (set columns (get_or old here 0) x) columns) t)) in
            let s : starts' ≡ starts = es ∙ ap (λ (q : Bool). cond q put starts) t in
            let f : now ≡ old = ap (λ (q : Bool). cond q more old) t in
            record {
              places = now;
              filled = IsFilled-more lists rows simple b i old columns lb li w.filled us row now columns' eu er c refl;
              same = λ a l. ap (λ (z : List ℕ). get_or z a 0) s ∙ (w.same a l ∙ sym (ap (λ (z : List ℕ). get_or z a 0) f));
              vertices = ap (λ (z : List ℕ). length z) s ∙ w.vertices;
            }
      ]

  -- the next row
  pub IsFilledTo-next : (b : ℕ) (starts columns : List ℕ) (total : ℕ) → b < length lists → IsFilledTo lists rows b (length (list_of lists b)) starts columns → total ≡ edges_before lists b → IsFilledTo lists rows (b + 1) 0 (set starts b total) columns
  IsFilledTo-next b starts columns total lb w is =
      let off : cond (ltb b b) (count_by (λ u. eqb u b) (take (length (list_of lists b)) (list_of lists b))) 0 ≡ 0 = ap (λ (q : Bool). cond {A = ℕ} q (count_by (λ u. eqb u b) (take (length (list_of lists b)) (list_of lists b))) 0) (le-ltb b b (omega arith)) in
      let at : get_or w.places b 0 ≡ edges_before lists b = omega (arith, w.filled.places b lb, none_between lists b, off) in
      record {
        places = w.places;
        filled = IsFilled-next lists rows simple b w.places columns lb w.filled;
        same = λ a l. elim (cases_eq a b) [
          | inl e ↦ ap (λ k. get_or (set starts b total) k 0) e ∙ (get_or-set_same starts b total 0 (omega (arith, lb, w.vertices)) ∙ (is ∙ (sym at ∙ ap (λ k. get_or w.places k 0) (sym e))))
          | inr ne ↦ get_or-set_other starts b a total 0 ne ∙ w.same a (omega (arith, l, ne))
        ];
        vertices = length-set starts b total ∙ w.vertices;
      }
