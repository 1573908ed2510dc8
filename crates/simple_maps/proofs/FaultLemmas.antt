-- The least number that passes a test, the first vertex where one is found, and what no fault says of lists.
use Rattle.std.proofs.Common.{ℕ, zero, suc, ◌+◌, ◌<◌, ◌≤◌, ◌≡◌, ◌≢◌, ◌⊎◌, min, Bool, true, false, not, ltb, leb, List, [], ◌∷◌, ◌++◌, length, get_or, take, AllPairs, Contains, Option, Some, None, sym, refl, ap, ◌∙◌, ltb-true, lt-ltb, subst, inl, inr, ⊎_elim, arith, eqb-true, eq-eqb, ne_eqb, leb-false, ltb-false, le-ltb, if◌then◌else◌, ◌==◌}
use Rattle.std.specs.List.{list_any}
use Rattle.std.proofs.lemmas.List.{take_more}
use Rattle.std.proofs.lemmas.Option.{none-some}
use Rattle.std.proofs.lemmas.Bool.{lt-leb, false≢true, cases_lt, cases_eq, eqb-false, cond-true, cond-false, true≢false, not-false, not_from_true, false_from_ne_true}
use Rattle.map_lists.specs.Lists.{Lists}
use Rattle.map_theory.specs.Maps.{list_of, HasDart, IsSimpleMap}
use Rattle.simple_maps.specs.Faults.{Fault, out_of_range, loop_at, repeated, one_sided, lesser_of, least_where, or_from, first_from, least_out_of_range, own_number, least_repeated, least_one_sided, fault_or, first_fault}
use Rattle.simple_maps.specs.MapFault.{Names}
use Rattle.simple_maps.specs.declared.map_fault.MapFault.{MapFault}
use Rattle.simple_maps.specs.declared.map_fault.MapFault.TheVariants.{OutOfRange, Loop, Repeated, OneSided, NoMemory}
use Rattle.map_theory.proofs.EntryLemmas.{Contains-here, Contains-there, Contains-cons_cases, count_of, one-le-count_of, Contains-from_count_of, count_of-le-one, AllPairs-from_counts, Contains-from_list_any, list_any-from_Contains, count_of-push, count_of-push_same, count_of-push_other}

-- the least number of which P holds, where there is one
abbrev pub IsLeast : (ℕ → Type 0) → Option ℕ → Type 0
IsLeast P None = (w : ℕ) → ¬ P w
IsLeast P (Some u) = P u × ((w : ℕ) → P w → u ≤ w)

-- there is but one answer
pub same_from_IsLeast : (P : ℕ → Type 0) (a b : Option ℕ) → IsLeast P a → IsLeast P b → a ≡ b
same_from_IsLeast P None None h l = refl
same_from_IsLeast P None (Some u) h l = absurd (h u l.0)
same_from_IsLeast P (Some u) None h l = absurd (l u h.0)
same_from_IsLeast P (Some u) (Some w) h l = ap (λ x. Some x) (omega (arith, h.1 w l.0, l.1 u h.0))

-- the least of two kinds of numbers
pub IsLeast-lesser_of : (P Q R : ℕ → Type 0) (a b : Option ℕ) → ((w : ℕ) → R w → P w ⊎ Q w) → ((w : ℕ) → P w → R w) → ((w : ℕ) → Q w → R w) → IsLeast P a → IsLeast Q b → IsLeast R (lesser_of a b)
IsLeast-lesser_of P Q R None None parts left right h l = λ w r. ⊎_elim (h w) (l w) (parts w r)
IsLeast-lesser_of P Q R None (Some u) parts left right h l =
    (right u l.0, λ w r. elim (parts w r) [ inl p ↦ absurd (h w p) | inr q ↦ l.1 w q ])
IsLeast-lesser_of P Q R (Some u) None parts left right h l =
    (left u h.0, λ w r. elim (parts w r) [ inl p ↦ h.1 w p | inr q ↦ absurd (l w q) ])
IsLeast-lesser_of P Q R (Some a) (Some b) parts left right h l = (
  elim (cases_lt a b) [
    | inl less ↦ (let e : min a b ≡ a = omega arith in rw e (left a h.0))
    | inr more ↦ (let e : min a b ≡ b = omega arith in rw e (right b l.0))
  ],
  λ w r. elim (parts w r) [ inl p ↦ omega (arith, h.1 w p) | inr q ↦ omega (arith, l.1 w q) ],
)

-- the same numbers have the same least
pub IsLeast-same : (P Q : ℕ → Type 0) (a : Option ℕ) → ((w : ℕ) → P w → Q w) → ((w : ℕ) → Q w → P w) → IsLeast P a → IsLeast Q a
IsLeast-same P Q None into from h = λ w q. h w (from w q)
IsLeast-same P Q (Some u) into from h = (into u h.0, λ w q. h.1 w (from w q))

pub lesser_of-None : (a : Option ℕ) → lesser_of a None ≡ a
lesser_of-None None = refl
lesser_of-None (Some a) = refl

pub lesser_of_assoc : (a b c : Option ℕ) → lesser_of (lesser_of a b) c ≡ lesser_of a (lesser_of b c)
lesser_of_assoc None b c = refl
lesser_of_assoc (Some a) None c = refl
lesser_of_assoc (Some a) (Some b) None = refl
lesser_of_assoc (Some a) (Some b) (Some c) = ap (λ x. Some x) (omega arith)

-- one more entry
pub least_where_push : (p : ℕ → Bool) (us : List ℕ) (u : ℕ) → least_where p (us ++ u ∷ []) ≡ lesser_of (least_where p us) (if p u then Some u else None)
least_where_push p [] u = lesser_of-None (if p u then Some u else None)
least_where_push p (w ∷ us) u =
    ap (λ o. lesser_of (if p w then Some w else None) o) (least_where_push p us u)
    ∙ sym (lesser_of_assoc (if p w then Some w else None) (least_where p us) (if p u then Some u else None))

pub least_where_more : (p : ℕ → Bool) (us : List ℕ) (i d : ℕ) → i < length us → least_where p (take (i + 1) us) ≡ lesser_of (least_where p (take i us)) (if p (get_or us i d) then Some (get_or us i d) else None)
least_where_more p us i d h = ap (λ xs. least_where p xs) (take_more us i d h) ∙ least_where_push p (take i us) (get_or us i d)

-- the same at an entry that passes, and at one that does not
pub least_where_more_yes : (p : ℕ → Bool) (us : List ℕ) (i d : ℕ) → i < length us → p (get_or us i d) ≡ true → least_where p (take (i + 1) us) ≡ lesser_of (least_where p (take i us)) (Some (get_or us i d))
least_where_more_yes p us i d h e =
    least_where_more p us i d h ∙ ap (λ o. lesser_of (least_where p (take i us)) o) (cond-true (p (get_or us i d)) (Some (get_or us i d)) None e)

pub least_where_more_no : (p : ℕ → Bool) (us : List ℕ) (i d : ℕ) → i < length us → p (get_or us i d) ≡ false → least_where p (take (i + 1) us) ≡ least_where p (take i us)
least_where_more_no p us i d h e =
    least_where_more p us i d h ∙ ap (λ o. lesser_of (least_where p (take i us)) o) (cond-false (p (get_or us i d)) (Some (get_or us i d)) None e)
    ∙ lesser_of-None (least_where p (take i us))

-- what stands in a list with one more entry at its front

-- w stands in the list and passes
abbrev pub Passes : (ℕ → Bool) → List ℕ → ℕ → Type 0
Passes p us w = Contains us w × (p w ≡ true)

IsLeast-one : (p : ℕ → Bool) (u : ℕ) (b : Bool) → p u ≡ b → IsLeast (λ w. (u ≡ w) × (p w ≡ true)) (if b then Some u else None)
IsLeast-one p u true e = ((refl, e), λ w h. omega (arith, h.0))
IsLeast-one p u false e = λ w h. true≢false (sym h.1 ∙ ap p (sym h.0) ∙ e)

pub IsLeast-least_where : (p : ℕ → Bool) (us : List ℕ) → IsLeast (Passes p us) (least_where p us)
IsLeast-least_where p [] = λ w h. omega (arith, h.0.1)
IsLeast-least_where p (u ∷ us) =
    IsLeast-lesser_of (λ w. (u ≡ w) × (p w ≡ true)) (Passes p us) (Passes p (u ∷ us)) (if p u then Some u else None) (least_where p us)
    (λ w r. elim (Contains-cons_cases u us w r.0) [ inl e ↦ inl (e, r.1) | inr c ↦ inr (c, r.1) ])
    (λ w h. (subst (λ x. Contains (u ∷ us) x) h.0 (Contains-here u us), h.1))
    (λ w h. (Contains-there u us w h.0, h.1))
    (IsLeast-one p u (p u) refl)
    (IsLeast-least_where p us)

pub least_where_is : (p : ℕ → Bool) (us : List ℕ) (a : Option ℕ) → IsLeast (Passes p us) a → a ≡ least_where p us
least_where_is p us a h = same_from_IsLeast (Passes p us) a (least_where p us) h (IsLeast-least_where p us)

-- nothing is found exactly where no entry passes
pub least_where_none : (p : ℕ → Bool) (us : List ℕ) → ((w : ℕ) → Contains us w → p w ≡ false) → least_where p us ≡ None
least_where_none p us h = sym (least_where_is p us None (λ w r. true≢false (sym r.1 ∙ h w r.0)))

pub fails_from_none : (p : ℕ → Bool) (us : List ℕ) (w : ℕ) → least_where p us ≡ None → Contains us w → p w ≡ false
fails_from_none p us w e h =
    false_from_ne_true (p w) (λ t. (subst (λ o. IsLeast (Passes p us) o) e (IsLeast-least_where p us)) w (h, t))

-- the first vertex where something is found

or_from-None : (later : Option (ℕ × ℕ)) (found : Option ℕ) (v : ℕ) → or_from later found v ≡ None → (found ≡ None) × (later ≡ None)
or_from-None later None v e = (refl, e)
or_from-None later (Some u) v e = absurd (none-some (v, u) (sym e))

first_from_none_at : (find : ℕ → List ℕ → Option ℕ) (from : ℕ) (lists : Lists) → ((v : ℕ) → v < length lists → find (from + v) (list_of lists v) ≡ None) → first_from find from lists ≡ None
first_from_none_at find from [] h = refl
first_from_none_at find from (us ∷ lists) h =
    let zeroth : from ≡ from + 0 = omega arith in
    let tail : (v : ℕ) → v < length lists → find (from + 1 + v) (list_of lists v) ≡ None = λ v l.
    let e : from + 1 + v ≡ from + suc v = omega arith in
    ap (λ n. find n (list_of lists v)) e ∙ h (suc v) (omega (arith, l))
    in
    ap (λ o. or_from (first_from find (from + 1) lists) o from) (ap (λ n. find n us) zeroth ∙ h 0 (omega arith))
    ∙ first_from_none_at find (from + 1) lists tail

first_from_found_at : (find : ℕ → List ℕ → Option ℕ) (from : ℕ) (lists : Lists) (v u : ℕ) → v < length lists → ((w : ℕ) → w < v → find (from + w) (list_of lists w) ≡ None) → find (from + v) (list_of lists v) ≡ Some u → first_from find from lists ≡ Some (from + v, u)
first_from_found_at find from [] v u l h e = absurd (omega (arith, l))
first_from_found_at find from (us ∷ lists) zero u l h e =
    let zeroth : from ≡ from + 0 = omega arith in
    ap (λ o. or_from (first_from find (from + 1) lists) o from) (ap (λ n. find n us) zeroth ∙ e) ∙ ap (λ n. Some (n, u)) zeroth
first_from_found_at find from (us ∷ lists) (suc v) u l h e =
    let zeroth : from ≡ from + 0 = omega arith in
    let step : from + 1 + v ≡ from + suc v = omega arith in
    let tail : (w : ℕ) → w < v → find (from + 1 + w) (list_of lists w) ≡ None = λ w m.
    let s : from + 1 + w ≡ from + suc w = omega arith in
    ap (λ n. find n (list_of lists w)) s ∙ h (suc w) (omega (arith, m))
    in
    ap (λ o. or_from (first_from find (from + 1) lists) o from) (ap (λ n. find n us) zeroth ∙ h 0 (omega arith))
    ∙ first_from_found_at find (from + 1) lists v u (omega (arith, l)) tail (ap (λ n. find n (list_of lists v)) step ∙ e)
    ∙ ap (λ n. Some (n, u)) step

none_at_from_first_from : (find : ℕ → List ℕ → Option ℕ) (from : ℕ) (lists : Lists) → first_from find from lists ≡ None → (v : ℕ) → v < length lists → find (from + v) (list_of lists v) ≡ None
none_at_from_first_from find from [] e v l = absurd (omega (arith, l))
none_at_from_first_from find from (us ∷ lists) e zero l =
    let zeroth : from + 0 ≡ from = omega arith in
    ap (λ n. find n us) zeroth ∙ (or_from-None (first_from find (from + 1) lists) (find from us) from e).0
none_at_from_first_from find from (us ∷ lists) e (suc v) l =
    let step : from + suc v ≡ from + 1 + v = omega arith in
    ap (λ n. find n (list_of lists v)) step
    ∙ none_at_from_first_from find (from + 1) lists (or_from-None (first_from find (from + 1) lists) (find from us) from e).1 v (omega (arith, l))

-- nothing is found in the first n lists
abbrev pub NoneBelow : (ℕ → List ℕ → Option ℕ) → Lists → ℕ → Type 0
NoneBelow find lists n = (v : ℕ) → v < n → find v (list_of lists v) ≡ None

module _ (find : ℕ → List ℕ → Option ℕ) (lists : Lists) where
  pub first_from_none : NoneBelow find lists (length lists) → first_from find 0 lists ≡ None
  first_from_none h =
      first_from_none_at find 0 lists (λ v l. let e : 0 + v ≡ v = omega arith in ap (λ n. find n (list_of lists v)) e ∙ h v l)

  pub first_from_found : (v u : ℕ) → v < length lists → NoneBelow find lists v → find v (list_of lists v) ≡ Some u → first_from find 0 lists ≡ Some (v, u)
  first_from_found v u l h e =
      let zeroth : 0 + v ≡ v = omega arith in
      first_from_found_at find 0 lists v u l (λ w m. let s : 0 + w ≡ w = omega arith in ap (λ n. find n (list_of lists w)) s ∙ h w m)
      (ap (λ n. find n (list_of lists v)) zeroth ∙ e)
      ∙ ap (λ n. Some (n, u)) zeroth

  pub NoneBelow-from_none : first_from find 0 lists ≡ None → NoneBelow find lists (length lists)
  NoneBelow-from_none e v l =
      let s : v ≡ 0 + v = omega arith in
      ap (λ n. find n (list_of lists v)) s ∙ none_at_from_first_from find 0 lists e v l

-- how often a number stands in a list

fault_or-None : (fault : ℕ → ℕ → Fault) (found : Option (ℕ × ℕ)) (later : Option Fault) → fault_or fault found later ≡ None → (found ≡ None) × (later ≡ None)
fault_or-None fault None later e = (refl, e)
fault_or-None fault (Some place) later e = absurd (none-some (fault place.0 place.1) (sym e))

-- each kind of fault is looked for, and none is found
pub record HasNoFault (lists : Lists) : Type 0 where
  pub in_range : first_from (least_out_of_range (length lists)) 0 lists ≡ None
  pub no_loop : first_from own_number 0 lists ≡ None
  pub no_repeat : first_from least_repeated 0 lists ≡ None
  pub both_ways : first_from (least_one_sided lists) 0 lists ≡ None

pub HasNoFault-from_first_fault : (lists : Lists) → first_fault lists ≡ None → HasNoFault lists
unfolding first_fault
HasNoFault-from_first_fault lists e =
    let a = fault_or-None out_of_range (first_from (least_out_of_range (length lists)) 0 lists) _ e in
    let b = fault_or-None (λ v u. loop_at v) (first_from own_number 0 lists) _ a.1 in
    let c = fault_or-None repeated (first_from least_repeated 0 lists) _ b.1 in
    let d = fault_or-None one_sided (first_from (least_one_sided lists) 0 lists) None c.1 in
    record { in_range = a.0; no_loop = b.0; no_repeat = c.0; both_ways = d.0 }

module _ (lists : Lists) where
  pub first_fault_out_of_range : (v u : ℕ) → first_from (least_out_of_range (length lists)) 0 lists ≡ Some (v, u) → first_fault lists ≡ Some (out_of_range v u)
  unfolding first_fault
  first_fault_out_of_range v u e = rw e

  pub first_fault_loop : (v u : ℕ) → first_from (least_out_of_range (length lists)) 0 lists ≡ None → first_from own_number 0 lists ≡ Some (v, u) → first_fault lists ≡ Some (loop_at v)
  unfolding first_fault
  first_fault_loop v u a e = rw (a, e)

  pub first_fault_repeated : (v u : ℕ) → first_from (least_out_of_range (length lists)) 0 lists ≡ None → first_from own_number 0 lists ≡ None → first_from least_repeated 0 lists ≡ Some (v, u) → first_fault lists ≡ Some (repeated v u)
  unfolding first_fault
  first_fault_repeated v u a b e = rw (a, b, e)

  pub first_fault_one_sided : (v u : ℕ) → first_from (least_out_of_range (length lists)) 0 lists ≡ None → first_from own_number 0 lists ≡ None → first_from least_repeated 0 lists ≡ None → first_from (least_one_sided lists) 0 lists ≡ Some (v, u) → first_fault lists ≡ Some (one_sided v u)
  unfolding first_fault
  first_fault_one_sided v u a b c e = rw (a, b, c, e)

  pub first_fault_none : HasNoFault lists → first_fault lists ≡ None
  unfolding first_fault
  first_fault_none h = rw (h.in_range, h.no_loop, h.no_repeat, h.both_ways)

-- no number out of range
pub in_range_from_none : (lists : Lists) (v u : ℕ) → first_from (least_out_of_range (length lists)) 0 lists ≡ None → HasDart lists v u → u < length lists
in_range_from_none lists v u e h =
    leb-false (length lists) u (fails_from_none (leb (length lists)) (list_of lists v) u (NoneBelow-from_none (least_out_of_range (length lists)) lists e v h.0) h.1)

-- no loop
pub no_loop_from_none : (lists : Lists) (v u : ℕ) → first_from own_number 0 lists ≡ None → HasDart lists v u → u ≢ v
no_loop_from_none lists v u e h =
    eqb-false u v (fails_from_none (λ w. w == v) (list_of lists v) u (NoneBelow-from_none own_number lists e v h.0) h.1)

-- no repeat
pub no_repeat_from_none : (lists : Lists) (v : ℕ) → first_from least_repeated 0 lists ≡ None → v < length lists → AllPairs ◌≢◌ (list_of lists v)
no_repeat_from_none lists v e h =
    let us = list_of lists v in
    AllPairs-from_counts us
    (λ u c. ltb-false 1 (count_of u us) (fails_from_none (λ u. ltb 1 (count_of u us)) us u (NoneBelow-from_none least_repeated lists e v h) c))

-- no one-sided pair
pub both_ways_from_none : (lists : Lists) (v u : ℕ) → first_from (least_one_sided lists) 0 lists ≡ None → HasDart lists v u → u < length lists → HasDart lists u v
both_ways_from_none lists v u e h in_range = (
  in_range,
  Contains-from_list_any v (list_of lists u)
      (not-false (list_any (λ w. w == v) (list_of lists u))
      (fails_from_none (λ u. not (list_any (λ w. w == v) (list_of lists u))) (list_of lists v) u (NoneBelow-from_none (least_one_sided lists) lists e v h.0) h.1)),
)

-- lists without a fault are a simple map
pub IsSimpleMap-from_HasNoFault : (lists : Lists) → 0 < length lists → HasNoFault lists → IsSimpleMap lists
IsSimpleMap-from_HasNoFault lists some h =
    record {
      some_vertex = some;
      in_range = λ v u d. in_range_from_none lists v u h.in_range d;
      no_loop = λ v u d. no_loop_from_none lists v u h.no_loop d;
      no_repeat = λ v l. no_repeat_from_none lists v h.no_repeat l;
      both_ways = λ v u d. both_ways_from_none lists v u h.both_ways d (in_range_from_none lists v u h.in_range d);
    }

pub IsSimpleMap-from_first_fault : (lists : Lists) → 0 < length lists → first_fault lists ≡ None → IsSimpleMap lists
IsSimpleMap-from_first_fault lists some e = IsSimpleMap-from_HasNoFault lists some (HasNoFault-from_first_fault lists e)

-- a simple map has no fault
pub HasNoFault-from_IsSimpleMap : (lists : Lists) → IsSimpleMap lists → HasNoFault lists
HasNoFault-from_IsSimpleMap lists simple =
    record {
      in_range = first_from_none (least_out_of_range (length lists)) lists
          (λ v l. least_where_none (leb (length lists)) (list_of lists v) (λ u c. lt-leb (length lists) u (simple.in_range v u (l, c))));
      no_loop = first_from_none own_number lists
          (λ v l. least_where_none (λ u. u == v) (list_of lists v) (λ u c. ne_eqb u v (simple.no_loop v u (l, c))));
      no_repeat = first_from_none least_repeated lists
          (λ v l. least_where_none (λ u. ltb 1 (count_of u (list_of lists v))) (list_of lists v) (λ u c. le-ltb 1 (count_of u (list_of lists v)) (count_of-le-one u (list_of lists v) (simple.no_repeat v l))));
      both_ways = first_from_none (least_one_sided lists) lists
          (λ v l. least_where_none (λ u. not (list_any (λ w. w == v) (list_of lists u))) (list_of lists v) (λ u c. not_from_true (list_any (λ w. w == v) (list_of lists u)) (list_any-from_Contains v (list_of lists u) (simple.both_ways v u (l, c)).1)));
    }

pub first_fault-IsSimpleMap : (lists : Lists) → IsSimpleMap lists → first_fault lists ≡ None
first_fault-IsSimpleMap lists simple = first_fault_none lists (HasNoFault-from_IsSimpleMap lists simple)

-- a vertex's own number is found exactly where its list holds it

pub own_number_found : (v : ℕ) (us : List ℕ) → list_any (λ w. w == v) us ≡ true → own_number v us ≡ Some v
own_number_found v us e =
    sym (least_where_is (λ u. u == v) us (Some v) ((Contains-from_list_any v us e, eq-eqb v v refl), λ w h. omega (arith, eqb-true w v h.1)))

pub own_number_none : (v : ℕ) (us : List ℕ) → list_any (λ w. w == v) us ≡ false → own_number v us ≡ None
own_number_none v us e =
    least_where_none (λ u. u == v) us (λ u c. false_from_ne_true (u == v) (λ t. false≢true (sym e ∙ list_any-from_Contains v us (subst (λ z. Contains us z) (eqb-true u v t) c))))

-- the least number that stands twice, as the list grows

abbrev pub StandsTwice : List ℕ → ℕ → Type 0
StandsTwice us w = 1 < count_of w us

stands_twice_cases : (us : List ℕ) (u w : ℕ) → StandsTwice (us ++ u ∷ []) w → StandsTwice us w ⊎ (w ≡ u)
stands_twice_cases us u w t =
    elim (cases_eq u w) [ inl e ↦ inr (sym e) | inr n ↦ inl (omega (arith, t, count_of-push_other w us u n)) ]

stands_twice_left : (us : List ℕ) (u w : ℕ) → StandsTwice us w → StandsTwice (us ++ u ∷ []) w
stands_twice_left us u w t = omega (arith, t, count_of-push w us u)

pub IsLeast-least_repeated : (v : ℕ) (us : List ℕ) → IsLeast (StandsTwice us) (least_repeated v us)
IsLeast-least_repeated v us =
    IsLeast-same (Passes (λ u. ltb 1 (count_of u us)) us) (StandsTwice us) (least_repeated v us)
    (λ w p. ltb-true 1 (count_of w us) p.1)
    (λ w t. (Contains-from_count_of w us (omega (arith, t)), lt-ltb 1 (count_of w us) t))
    (IsLeast-least_where (λ u. ltb 1 (count_of u us)) us)

-- one more entry, which stands in the list already
pub least_repeated_push_again : (v : ℕ) (us : List ℕ) (u : ℕ) → Contains us u → least_repeated v (us ++ u ∷ []) ≡ lesser_of (least_repeated v us) (Some u)
least_repeated_push_again v us u c =
    same_from_IsLeast (StandsTwice (us ++ u ∷ [])) (least_repeated v (us ++ u ∷ [])) (lesser_of (least_repeated v us) (Some u))
    (IsLeast-least_repeated v (us ++ u ∷ []))
    (IsLeast-lesser_of (StandsTwice us) (λ w. w ≡ u) (StandsTwice (us ++ u ∷ [])) (least_repeated v us) (Some u)
    (stands_twice_cases us u)
    (stands_twice_left us u)
    (λ w e. omega (arith, count_of-push_same w us u (sym e), one-le-count_of w us c.0 u c.1 (c.2 ∙ sym e)))
    (IsLeast-least_repeated v us)
    (refl, λ w e. omega (arith, e)))

-- one more entry, which does not
pub least_repeated_push_first : (v : ℕ) (us : List ℕ) (u : ℕ) → ¬ Contains us u → least_repeated v (us ++ u ∷ []) ≡ least_repeated v us
least_repeated_push_first v us u n =
    same_from_IsLeast (StandsTwice (us ++ u ∷ [])) (least_repeated v (us ++ u ∷ [])) (least_repeated v us)
    (IsLeast-least_repeated v (us ++ u ∷ []))
    (IsLeast-same (StandsTwice us) (StandsTwice (us ++ u ∷ [])) (least_repeated v us)
    (stands_twice_left us u)
    (λ w t. elim (stands_twice_cases us u w t) [
      | inl two ↦ two
      | inr e ↦ absurd (n (Contains-from_count_of u us (omega (arith, subst (λ z. StandsTwice (us ++ u ∷ []) z) e t, count_of-push_same u us u refl))))
    ])
    (IsLeast-least_repeated v us))

-- lists that are simple have no fault to name
pub NoMemory-from_simple : (lists : Lists) (fault : MapFault) → IsSimpleMap lists → Names (first_fault lists) fault → fault ≡ NoMemory
NoMemory-from_simple lists (OutOfRange v u) simple named = absurd (none-some (out_of_range v u) (sym (first_fault-IsSimpleMap lists simple) ∙ named))
NoMemory-from_simple lists (Loop v) simple named = absurd (none-some (loop_at v) (sym (first_fault-IsSimpleMap lists simple) ∙ named))
NoMemory-from_simple lists (Repeated v u) simple named = absurd (none-some (repeated v u) (sym (first_fault-IsSimpleMap lists simple) ∙ named))
NoMemory-from_simple lists (OneSided v u) simple named = absurd (none-some (one_sided v u) (sym (first_fault-IsSimpleMap lists simple) ∙ named))
NoMemory-from_simple lists NoMemory simple named = refl
