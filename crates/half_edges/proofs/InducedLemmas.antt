-- The part of a simple map between some of its vertices is a simple map.
use Rattle.std.proofs.Common.{ℕ, zero, suc, ◌+◌, ◌<◌, ◌≤◌, ◌≡◌, ◌≢◌, Bool, true, false, cond, List, [], ◌∷◌, ◌++◌, map, length, get_or, take, AllPairs, All, Contains, refl, sym, ap, ◌∙◌, subst, inl, inr, arith}
use Rattle.std.specs.List.{filter}
use Rattle.std.proofs.lemmas.List.{length-map, get_or-map, map-append, append-nil}
use Rattle.std.proofs.lemmas.Bool.{cases_order, true≢false}
use Rattle.map_lists.specs.Lists.{Lists}
use Rattle.map_theory.specs.Maps.{list_of, HasDart, IsSimpleMap}
use Rattle.map_theory.proofs.EntryLemmas.{Contains-from_filter, Contains-filter, Contains-from_map, Contains-map, AllPairs-map}
use Rattle.std.proofs.lemmas.List.Kept.{AllPairs-filter}
use Rattle.map_theory.proofs.DartLemmas.{HasDart-at}
use Rattle.half_edges.specs.Induced.{kept_before, is_kept, induced_list, kept_lists, induced_lists}

-- one vertex more
pub kept_before_more : (keep : List Bool) (v : ℕ) → v < length keep → kept_before keep (v + 1) ≡ kept_before keep v + cond (get_or keep v false) 1 0
kept_before_more [] v l = absurd (omega (arith, l))
kept_before_more (k ∷ []) zero l = omega arith
kept_before_more (k ∷ j ∷ keep) zero l = omega arith
kept_before_more (k ∷ keep) (suc v) l =
    let e : suc v + 1 ≡ suc (v + 1) = omega arith in
    rw e (omega (arith, kept_before_more keep v (omega (arith, l))))

-- no vertex stands before the first
pub kept_before_none : (keep : List Bool) → kept_before keep 0 ≡ 0
kept_before_none [] = refl
kept_before_none (k ∷ keep) = refl

-- a later vertex has no lesser number
kept_before-le : (keep : List Bool) (v w : ℕ) → v ≤ w → kept_before keep v ≤ kept_before keep w
kept_before-le [] v w l = omega arith
kept_before-le (k ∷ keep) zero w l = omega arith
kept_before-le (k ∷ keep) (suc v) zero l = absurd (omega (arith, l))
kept_before-le (k ∷ keep) (suc v) (suc w) l = omega (arith, kept_before-le keep v w (omega (arith, l)))

is_kept-lt : (keep : List Bool) (v : ℕ) → is_kept keep v ≡ true → v < length keep
is_kept-lt [] v e = absurd (true≢false (sym e))
is_kept-lt (k ∷ keep) zero e = omega arith
is_kept-lt (k ∷ keep) (suc v) e = omega (arith, is_kept-lt keep v e)

as_one : (b : Bool) → b ≡ true → ◌≡◌ {A = ℕ} (cond b 1 0) 1
as_one true e = omega arith
as_one false e = absurd (true≢false (sym e))

-- a vertex after a kept one has a greater number
kept_before-lt : (keep : List Bool) (v w : ℕ) → is_kept keep v ≡ true → v < w → kept_before keep v < kept_before keep w
kept_before-lt keep v w e l =
    let one : ◌≡◌ {A = ℕ} (cond (get_or keep v false) 1 0) 1 = as_one (get_or keep v false) e in
    omega (arith, one, kept_before_more keep v (is_kept-lt keep v e), kept_before-le keep (v + 1) w (omega (arith, l)))

-- two kept vertices with one number are one
kept_before-injective : (keep : List Bool) (v w : ℕ) → is_kept keep v ≡ true → is_kept keep w ≡ true → kept_before keep v ≡ kept_before keep w → v ≡ w
kept_before-injective keep v w at_v at_w e = grind (arith, cases_order, kept_before-lt)

-- a kept vertex, and the place of its list among those of the kept ones
pub record IsKeptAt (keep : List Bool) (lists : Lists) (v w : ℕ) : Type 0 where
  pub kept : is_kept keep v ≡ true
  pub number : kept_before keep v ≡ w
  pub below : w < length (kept_lists keep lists)
  pub list : list_of (kept_lists keep lists) w ≡ list_of lists v

IsKeptAt-more : (k : Bool) (keep : List Bool) (us : List ℕ) (lists : Lists) (v w : ℕ) → IsKeptAt keep lists v w → IsKeptAt (k ∷ keep) (us ∷ lists) (suc v) (cond k 1 0 + w)
IsKeptAt-more x0 keep us lists v w h = grind (arith, list_of, kept_lists)

-- each kept vertex has its place
pub kept_at : (keep : List Bool) (lists : Lists) (v : ℕ) → length keep ≡ length lists → is_kept keep v ≡ true → IsKeptAt keep lists v (kept_before keep v)
kept_at [] lists v same e = absurd (true≢false (sym e))
kept_at (k ∷ keep) [] v same e = absurd (omega (arith, same))
kept_at (true ∷ keep) (us ∷ lists) zero same e = record { kept = refl; number = refl; below = omega arith; list = refl }
kept_at (false ∷ keep) (us ∷ lists) zero same e = absurd (true≢false (sym e))
kept_at (k ∷ keep) (us ∷ lists) (suc v) same e = IsKeptAt-more k keep us lists v (kept_before keep v) (kept_at keep lists v (omega (arith, same)) e)

-- each place is that of a kept vertex
pub kept_of : (keep : List Bool) (lists : Lists) (w : ℕ) → w < length (kept_lists keep lists) → (v : ℕ) × IsKeptAt keep lists v w
kept_of [] lists w l = absurd (omega (arith, l))
kept_of (k ∷ keep) [] w l = absurd (omega (arith, l))
kept_of (true ∷ keep) (us ∷ lists) zero l = (zero, record { kept = refl; number = refl; below = omega arith; list = refl })
kept_of (true ∷ keep) (us ∷ lists) (suc w) l =
    let before = kept_of keep lists w (omega (arith, l)) in
    let e : 1 + w ≡ suc w = omega arith in
    (suc before.0, subst (λ x. IsKeptAt (true ∷ keep) (us ∷ lists) (suc before.0) x) e (IsKeptAt-more true keep us lists before.0 w before.1))
kept_of (false ∷ keep) (us ∷ lists) w l =
    let before = kept_of keep lists w l in
    let e : 0 + w ≡ w = omega arith in
    (suc before.0, subst (λ x. IsKeptAt (false ∷ keep) (us ∷ lists) (suc before.0) x) e (IsKeptAt-more false keep us lists before.0 w before.1))

-- an entry of a restricted list is the new number of a kept entry
pub record IsKeptEntry (keep : List Bool) (us : List ℕ) (u x : ℕ) : Type 0 where
  pub entry : Contains us u
  pub kept : is_kept keep u ≡ true
  pub number : kept_before keep u ≡ x

pub entry_from_induced : (keep : List Bool) (us : List ℕ) (x : ℕ) → Contains (induced_list keep us) x → (u : ℕ) × IsKeptEntry keep us u x
entry_from_induced keep us x c =
    let (u, kept, number) = Contains-from_map (kept_before keep) (filter (is_kept keep) us) x c in
    let e = Contains-from_filter (is_kept keep) us u kept in
    (u, record { entry = e.0; kept = e.1; number = number })

-- each kept entry stays
pub entry_to_induced : (keep : List Bool) (us : List ℕ) (u : ℕ) → Contains us u → is_kept keep u ≡ true → Contains (induced_list keep us) (kept_before keep u)
entry_to_induced keep us u c kept = Contains-map (kept_before keep) (filter (is_kept keep) us) u (Contains-filter (is_kept keep) us u c kept)

-- a restricted list repeats nothing
pub AllPairs-induced : (keep : List Bool) (us : List ℕ) → AllPairs ◌≢◌ us → AllPairs ◌≢◌ (induced_list keep us)
AllPairs-induced keep us h =
    AllPairs-map (kept_before keep) (filter (is_kept keep) us)
    (λ z w at_z at_w. kept_before-injective keep z w (Contains-from_filter (is_kept keep) us z at_z).1 (Contains-from_filter (is_kept keep) us w at_w).1)
    (AllPairs-filter ◌≢◌ (is_kept keep) us h)

module _ (keep : List Bool) (lists : Lists) (same : length keep ≡ length lists) where
  length-induced : length (induced_lists keep lists) ≡ length (kept_lists keep lists)
  length-induced = length-map (kept_lists keep lists) (induced_list keep)

  -- the list of a place
  list_at : (w : ℕ) → w < length (kept_lists keep lists) → list_of (induced_lists keep lists) w ≡ induced_list keep (list_of (kept_lists keep lists) w)
  list_at w l = get_or-map (induced_list keep) (kept_lists keep lists) w [] [] l

  -- a dart of the part is one of the map, between kept vertices
  pub record IsKeptDart (w x v u : ℕ) : Type 0 where
    pub tail : IsKeptAt keep lists v w
    pub entry : IsKeptEntry keep (list_of lists v) u x

  pub dart_from_induced : (w x : ℕ) → HasDart (induced_lists keep lists) w x → (v : ℕ) × (u : ℕ) × IsKeptDart w x v u
  dart_from_induced w x d =
      let l : w < length (kept_lists keep lists) = omega (arith, d.0, length-induced) in
      let v = kept_of keep lists w l in
      let u = entry_from_induced keep (list_of lists v.0) x (subst (λ (xs : List ℕ). Contains xs x) (list_at w l ∙ ap (λ xs. induced_list keep xs) v.1.list) d.1) in
      (v.0, u.0, record { tail = v.1; entry = u.1 })

  pub dart_to_induced : (v u : ℕ) → HasDart lists v u → is_kept keep v ≡ true → is_kept keep u ≡ true → HasDart (induced_lists keep lists) (kept_before keep v) (kept_before keep u)
  dart_to_induced v u d at_v at_u =
      let h = kept_at keep lists v same at_v in (
        omega (arith, h.below, length-induced),
        subst (λ (xs : List ℕ). Contains xs (kept_before keep u)) (sym (list_at (kept_before keep v) h.below ∙ ap (λ xs. induced_list keep xs) h.list)) (entry_to_induced keep (list_of lists v) u d.1 at_u),
      )

  module _ (simple : IsSimpleMap lists) (some : Contains keep true) where
    kept_one : is_kept keep some.0 ≡ true
    kept_one = kept_true keep some.0 some.1 some.2
      where
        kept_true : (keep : List Bool) (k : ℕ) → k < length keep → get_or keep k true ≡ true → is_kept keep k ≡ true
        kept_true [] k l e = absurd (omega (arith, l))
        kept_true (b ∷ keep) zero l e = e
        kept_true (b ∷ keep) (suc k) l e = kept_true keep k (omega (arith, l)) e

    dart_of_part : (w x v u : ℕ) → IsKeptDart w x v u → HasDart lists v u
    dart_of_part w x v u h = (omega (arith, is_kept-lt keep v h.tail.kept, same), h.entry.entry)

    part_in_range : (w x : ℕ) → HasDart (induced_lists keep lists) w x → x < length (induced_lists keep lists)
    part_in_range w x d =
        let h = dart_from_induced w x d in
        omega (arith, (kept_at keep lists h.1 same h.2.entry.kept).below, h.2.entry.number, length-induced)

    part_no_loop : (w x : ℕ) → HasDart (induced_lists keep lists) w x → x ≢ w
    part_no_loop w x d e =
        let h = dart_from_induced w x d in
        simple.no_loop h.0 h.1 (dart_of_part w x h.0 h.1 h.2)
        (kept_before-injective keep h.1 h.0 h.2.entry.kept h.2.tail.kept (h.2.entry.number ∙ e ∙ sym h.2.tail.number))

    part_both_ways : (w x : ℕ) → HasDart (induced_lists keep lists) w x → HasDart (induced_lists keep lists) x w
    part_both_ways w x d =
        let h = dart_from_induced w x d in
        let back = dart_to_induced h.1 h.0 (simple.both_ways h.0 h.1 (dart_of_part w x h.0 h.1 h.2)) h.2.entry.kept h.2.tail.kept in
        subst (λ z. HasDart (induced_lists keep lists) z w) h.2.entry.number (subst (λ z. HasDart (induced_lists keep lists) (kept_before keep h.1) z) h.2.tail.number back)

    part_no_repeat : (w : ℕ) → w < length (induced_lists keep lists) → AllPairs ◌≢◌ (list_of (induced_lists keep lists) w)
    part_no_repeat w l =
        let below : w < length (kept_lists keep lists) = omega (arith, l, length-induced) in
        let v = kept_of keep lists w below in
        subst (λ (xs : List ℕ). AllPairs ◌≢◌ xs) (sym (list_at w below ∙ ap (λ xs. induced_list keep xs) v.1.list))
        (AllPairs-induced keep (list_of lists v.0) (simple.no_repeat v.0 (omega (arith, is_kept-lt keep v.0 v.1.kept, same))))

    -- the part is simple
    pub IsSimpleMap-induced : IsSimpleMap (induced_lists keep lists)
    IsSimpleMap-induced = record {
      some_vertex = omega (arith, (kept_at keep lists some.0 same kept_one).below, length-induced);
      in_range = part_in_range;
      no_loop = part_no_loop;
      no_repeat = part_no_repeat;
      both_ways = part_both_ways;
    }

-- the part has no more vertices than the map
pub length-kept_lists-le : (keep : List Bool) (lists : Lists) → length (kept_lists keep lists) ≤ length lists
length-kept_lists-le [] lists = omega arith
length-kept_lists-le (k ∷ keep) [] = omega arith
length-kept_lists-le (true ∷ keep) (us ∷ lists) = omega (arith, length-kept_lists-le keep lists)
length-kept_lists-le (false ∷ keep) (us ∷ lists) = omega (arith, length-kept_lists-le keep lists)

-- one list more
pub kept_lists_more : (keep : List Bool) (lists : Lists) (i : ℕ) → i < length keep → i < length lists → kept_lists (take (i + 1) keep) (take (i + 1) lists) ≡ kept_lists (take i keep) (take i lists) ++ cond (is_kept keep i) (list_of lists i ∷ []) []
kept_lists_more [] lists i l m = absurd (omega (arith, l))
kept_lists_more (k ∷ keep) [] i l m = absurd (omega (arith, m))
kept_lists_more (true ∷ keep) (us ∷ lists) zero l m = refl
kept_lists_more (false ∷ keep) (us ∷ lists) zero l m = refl
kept_lists_more (true ∷ keep) (us ∷ lists) (suc i) l m =
    let e : suc i + 1 ≡ suc (i + 1) = omega arith in
    rw e (ap (λ xs. us ∷ xs) (kept_lists_more keep lists i (omega (arith, l)) (omega (arith, m))))
kept_lists_more (false ∷ keep) (us ∷ lists) (suc i) l m =
    let e : suc i + 1 ≡ suc (i + 1) = omega arith in
    rw e (kept_lists_more keep lists i (omega (arith, l)) (omega (arith, m)))

-- one list more, restricted
pub induced_more_yes : (keep : List Bool) (lists : Lists) (i : ℕ) → i < length keep → i < length lists → is_kept keep i ≡ true → map (induced_list keep) (kept_lists (take (i + 1) keep) (take (i + 1) lists)) ≡ map (induced_list keep) (kept_lists (take i keep) (take i lists)) ++ induced_list keep (list_of lists i) ∷ []
induced_more_yes keep lists i l m is_yes =
    ap (λ xs. map (induced_list keep) xs) (kept_lists_more keep lists i l m ∙ ap (λ b. kept_lists (take i keep) (take i lists) ++ cond b (list_of lists i ∷ []) []) is_yes)
    ∙ map-append (induced_list keep) (kept_lists (take i keep) (take i lists)) (list_of lists i ∷ [])

pub induced_more_no : (keep : List Bool) (lists : Lists) (i : ℕ) → i < length keep → i < length lists → is_kept keep i ≡ false → map (induced_list keep) (kept_lists (take (i + 1) keep) (take (i + 1) lists)) ≡ map (induced_list keep) (kept_lists (take i keep) (take i lists))
induced_more_no keep lists i l m is_no =
    ap (λ xs. map (induced_list keep) xs) (kept_lists_more keep lists i l m ∙ ap (λ b. kept_lists (take i keep) (take i lists) ++ cond b (list_of lists i ∷ []) []) is_no)
    ∙ map-append (induced_list keep) (kept_lists (take i keep) (take i lists)) []
    ∙ append-nil (map (induced_list keep) (kept_lists (take i keep) (take i lists)))

-- the entries of a simple map's list have flags
pub entries_flagged : (lists : Lists) (keep : List Bool) (v : ℕ) (us : List ℕ) → IsSimpleMap lists → length keep ≡ length lists → v < length lists → us ≡ list_of lists v → All (λ u. u < length keep) us
entries_flagged lists keep v us simple same l e =
    rw e (λ k d h. omega (arith, same, simple.in_range v (get_or (list_of lists v) k d) (HasDart-at lists v k d l h)))
