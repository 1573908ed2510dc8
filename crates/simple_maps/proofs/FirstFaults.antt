-- The first fault of lists, as the first of the faults that they have.
use Rattle.std.proofs.Common.{ℕ, suc, ◌+◌, ◌<◌, ◌≤◌, ◌≡◌, ◌⊎◌, Bool, not, leb, List, [], ◌∷◌, length, Contains, Option, Some, None, refl, sym, ap, ap₂, if◌then◌else◌, ◌∙◌, subst, inl, inr, arith, eqb-true, eq-eqb, leb-true, le-leb, ◌==◌}
use Rattle.std.proofs.lemmas.List.{get_or_past}
use Rattle.std.specs.List.{list_any}
use Rattle.std.proofs.lemmas.Bool.{cases_lt, cases_eq, not_from_true, false_from_ne_true, true≢false}
use Rattle.map_lists.specs.Lists.{Lists}
use Rattle.map_theory.specs.Maps.{list_of}
use Rattle.map_theory.proofs.EntryLemmas.{list_any-from_Contains, Contains-from_list_any}
use Rattle.simple_maps.specs.Faults.{Fault, out_of_range, loop_at, repeated, one_sided, or_from, first_from, least_out_of_range, own_number, least_repeated, least_one_sided, fault_or, first_fault}
use Rattle.simple_maps.specs.Laws.{HasFault, kind, first_vertex, second_vertex, IsNoLater, IsFirstFault, NoFaultIsSimple, FirstFaultIsFirst}
use Rattle.simple_maps.proofs.FaultLemmas.{IsLeast, IsLeast-same, IsLeast-least_where, IsLeast-least_repeated, Passes, IsSimpleMap-from_first_fault, first_fault-IsSimpleMap}

-- the first pair, by its first number and then by its second, of which P holds and whose first number is at least `from` and below `to`
abbrev pub IsFirstPair : (ℕ → ℕ → Type 0) → ℕ → ℕ → Option (ℕ × ℕ) → Type 0
IsFirstPair P from to None = (v u : ℕ) → from ≤ v → v < to → ¬ P v u
IsFirstPair P from to (Some p) =
    (p.0 < to) × P p.0 p.1 × ((v u : ℕ) → from ≤ v → v < to → P v u → (p.0 < v) ⊎ ((p.0 ≡ v) × (p.1 ≤ u)))

-- one vertex more at the front
IsFirstPair-front : (P : ℕ → ℕ → Type 0) (from to : ℕ) (here : Option ℕ) (later : Option (ℕ × ℕ)) → from < to → IsLeast (P from) here → IsFirstPair P (from + 1) to later → IsFirstPair P from to (or_from later here from)
IsFirstPair-front P from to None None l h rest =
    λ v u a b p. elim (cases_eq v from) [ inl e ↦ h u (subst (λ x. P x u) e p) | inr ne ↦ rest v u (omega arith) b p ]
IsFirstPair-front P from to None (Some q) l h rest = (
  rest.0,
  rest.1,
  λ v u a b p. elim (cases_eq v from) [ inl e ↦ absurd (h u (subst (λ x. P x u) e p)) | inr ne ↦ rest.2 v u (omega arith) b p ],
)
IsFirstPair-front P from to (Some u) later l h rest = (
  l,
  h.0,
  λ v w a b p. elim (cases_eq from v) [ inl e ↦ inr (e, h.1 w (subst (λ x. P x w) (sym e) p)) | inr ne ↦ inl (omega arith) ],
)

-- what is found first is the first pair
IsFirstPair-first_from : (P : ℕ → ℕ → Type 0) (find : ℕ → List ℕ → Option ℕ) (from to : ℕ) (lists : Lists) → from + length lists ≡ to → ((v : ℕ) → v < length lists → IsLeast (P (from + v)) (find (from + v) (list_of lists v))) → IsFirstPair P from to (first_from find from lists)
IsFirstPair-first_from P find from to [] n h = λ v u a b p. omega arith
IsFirstPair-first_from P find from to (us ∷ lists) n h =
    let zeroth : from + 0 ≡ from = omega arith in
    IsFirstPair-front P from to (find from us) (first_from find (from + 1) lists) (omega arith)
    (subst (λ x. IsLeast (P x) (find x us)) zeroth (h 0 (omega arith)))
    (IsFirstPair-first_from P find (from + 1) to lists (omega arith) (λ v l. let step : from + suc v ≡ from + 1 + v = omega arith in subst (λ x. IsLeast (P x) (find x (list_of lists v))) step (h (suc v) (omega arith))))

-- the same for all the lists
first_pair : (P : ℕ → ℕ → Type 0) (find : ℕ → List ℕ → Option ℕ) (lists : Lists) → ((v : ℕ) → v < length lists → IsLeast (P v) (find v (list_of lists v))) → IsFirstPair P 0 (length lists) (first_from find 0 lists)
first_pair P find lists h =
    IsFirstPair-first_from P find 0 (length lists) lists (omega arith) (λ v l. let z : v ≡ 0 + v = omega arith in subst (λ x. IsLeast (P x) (find x (list_of lists v))) z (h v l))

-- ---- the four kinds
module _ (lists : Lists) where
  abbrev OutOfRangeAt : ℕ → ℕ → Type 0
  OutOfRangeAt v u = HasFault lists (out_of_range v u)

  abbrev LoopAt : ℕ → ℕ → Type 0
  LoopAt v u = (u ≡ v) × HasFault lists (loop_at v)

  abbrev RepeatedAt : ℕ → ℕ → Type 0
  RepeatedAt v u = HasFault lists (repeated v u)

  abbrev OneSidedAt : ℕ → ℕ → Type 0
  OneSidedAt v u = HasFault lists (one_sided v u)

  first_out_of_range : IsFirstPair OutOfRangeAt 0 (length lists) (first_from (least_out_of_range (length lists)) 0 lists)
  first_out_of_range =
      first_pair OutOfRangeAt (least_out_of_range (length lists)) lists (λ v l.
      IsLeast-same (Passes (leb (length lists)) (list_of lists v)) (OutOfRangeAt v) (least_out_of_range (length lists) v (list_of lists v))
      (λ u p. ((l, p.0), leb-true (length lists) u p.1))
      (λ u h. (h.0.1, le-leb (length lists) u h.1))
      (IsLeast-least_where (leb (length lists)) (list_of lists v)))

  first_loop : IsFirstPair LoopAt 0 (length lists) (first_from own_number 0 lists)
  first_loop =
      first_pair LoopAt own_number lists (λ v l.
      IsLeast-same (Passes (λ u. u == v) (list_of lists v)) (LoopAt v) (own_number v (list_of lists v))
      (λ u p. let e = eqb-true u v p.1 in (e, (l, subst (λ x. Contains (list_of lists v) x) e p.0)))
      (λ u h. (subst (λ x. Contains (list_of lists v) x) (sym h.0) h.1.1, eq-eqb u v h.0))
      (IsLeast-least_where (λ u. u == v) (list_of lists v)))

  first_repeated : IsFirstPair RepeatedAt 0 (length lists) (first_from least_repeated 0 lists)
  first_repeated =
      first_pair RepeatedAt least_repeated lists (λ v l.
      IsLeast-same _ (RepeatedAt v) (least_repeated v (list_of lists v))
      (λ u t. (l, omega (arith, t)))
      (λ u h. omega (arith, h.1))
      (IsLeast-least_repeated v (list_of lists v)))

  -- a list that holds something is that of a vertex
  holder_in : (u v : ℕ) → Contains (list_of lists u) v → u < length lists
  holder_in u v c =
      elim (cases_lt u (length lists)) [
        | inl l ↦ l
        | inr l ↦ let some = c.1 in absurd (omega (arith, ap length (get_or_past lists u [] l)))
      ]

  first_one_sided : IsFirstPair OneSidedAt 0 (length lists) (first_from (least_one_sided lists) 0 lists)
  first_one_sided =
      first_pair OneSidedAt (least_one_sided lists) lists (λ v l.
      let misses : ℕ → Bool = λ u. not (list_any (λ w. w == v) (list_of lists u)) in
      IsLeast-same (Passes misses (list_of lists v)) (OneSidedAt v) (least_one_sided lists v (list_of lists v))
      (λ u p. ((l, p.0), λ d. true≢false (sym p.1 ∙ not_from_true (list_any (λ w. w == v) (list_of lists u)) (list_any-from_Contains v (list_of lists u) d.1))))
      (λ u h. (h.0.1, ap not (false_from_ne_true (list_any (λ w. w == v) (list_of lists u)) (λ t. let c = Contains-from_list_any v (list_of lists u) t in h.1 (holder_in u v c, c)))))
      (IsLeast-least_where misses (list_of lists v)))

  -- what an answer says
  abbrev Answers : Option Fault → Type 0
  Answers None = (fault : Fault) → ¬ HasFault lists fault
  Answers (Some fault) = IsFirstFault lists fault

  -- each kind is looked for only where no kind before it is found
  first_of_four : (a b c d : Option (ℕ × ℕ)) → IsFirstPair OutOfRangeAt 0 (length lists) a → IsFirstPair LoopAt 0 (length lists) b → IsFirstPair RepeatedAt 0 (length lists) c → IsFirstPair OneSidedAt 0 (length lists) d → Answers (fault_or out_of_range a (fault_or (λ v u. loop_at v) b (fault_or repeated c (fault_or one_sided d None))))
  first_of_four (Some p) b c d h h' h'' h''' =
      record {
        has = h.1;
        first = λ other o. elim other as (λ f. HasFault lists f → IsNoLater (out_of_range p.0 p.1) f) [
          | out_of_range v u ↦ λ q. inr (refl, h.2 v u (omega arith) q.0.0 q)
          | loop_at v ↦ λ q. inl (omega arith)
          | repeated v u ↦ λ q. inl (omega arith)
          | one_sided v u ↦ λ q. inl (omega arith)
        ] o;
      }
  first_of_four None (Some p) c d h h' h'' h''' =
      record {
        has = h'.1.1;
        first = λ other o. elim other as (λ f. HasFault lists f → IsNoLater (loop_at p.0) f) [
          | out_of_range v u ↦ λ q. absurd (h v u (omega arith) q.0.0 q)
          | loop_at v ↦ λ q. inr (refl, elim (h'.2 v v (omega arith) q.0 (refl, q)) [ inl l ↦ inl l | inr e ↦ inr (e.0, omega arith) ])
          | repeated v u ↦ λ q. inl (omega arith)
          | one_sided v u ↦ λ q. inl (omega arith)
        ] o;
      }
  first_of_four None None (Some p) d h h' h'' h''' =
      record {
        has = h''.1;
        first = λ other o. elim other as (λ f. HasFault lists f → IsNoLater (repeated p.0 p.1) f) [
          | out_of_range v u ↦ λ q. absurd (h v u (omega arith) q.0.0 q)
          | loop_at v ↦ λ q. absurd (h' v v (omega arith) q.0 (refl, q))
          | repeated v u ↦ λ q. inr (refl, h''.2 v u (omega arith) q.0 q)
          | one_sided v u ↦ λ q. inl (omega arith)
        ] o;
      }
  first_of_four None None None (Some p) h h' h'' h''' =
      record {
        has = h'''.1;
        first = λ other o. elim other as (λ f. HasFault lists f → IsNoLater (one_sided p.0 p.1) f) [
          | out_of_range v u ↦ λ q. absurd (h v u (omega arith) q.0.0 q)
          | loop_at v ↦ λ q. absurd (h' v v (omega arith) q.0 (refl, q))
          | repeated v u ↦ λ q. absurd (h'' v u (omega arith) q.0 q)
          | one_sided v u ↦ λ q. inr (refl, h'''.2 v u (omega arith) q.0.0 q)
        ] o;
      }
  first_of_four None None None None h h' h'' h''' =
      λ fault o. elim fault as (λ f. HasFault lists f → ⊥) [
        | out_of_range v u ↦ λ q. h v u (omega arith) q.0.0 q
        | loop_at v ↦ λ q. h' v v (omega arith) q.0 (refl, q)
        | repeated v u ↦ λ q. h'' v u (omega arith) q.0 q
        | one_sided v u ↦ λ q. h''' v u (omega arith) q.0.0 q
      ] o

  answers : Answers (first_fault lists)
  unfolding first_fault
  answers =
      first_of_four (first_from (least_out_of_range (length lists)) 0 lists) (first_from own_number 0 lists) (first_from least_repeated 0 lists) (first_from (least_one_sided lists) 0 lists)
      first_out_of_range first_loop first_repeated first_one_sided

-- two faults of which neither is later agree in kind and vertices
same_parts : (fault other : Fault) → IsNoLater fault other → IsNoLater other fault → (kind fault ≡ kind other) × (first_vertex fault ≡ first_vertex other) × (second_vertex fault ≡ second_vertex other)
same_parts fault other (inl l) b = absurd (elim b [ inl m ↦ omega arith | inr m ↦ omega arith ])
same_parts fault other (inr a) (inl m) = absurd (omega arith)
same_parts fault other (inr a) (inr b) =
    elim a.1 [
      | inl l ↦ absurd (elim b.1 [ inl m ↦ omega arith | inr m ↦ omega arith ])
      | inr p ↦ elim b.1 [ inl m ↦ absurd (omega arith) | inr q ↦ (a.0, p.0, omega arith) ]
    ]

-- the fault of a kind and vertices
fault_of : ℕ → ℕ → ℕ → Fault
fault_of k v u = if k == 1 then out_of_range v u else if k == 2 then loop_at v else if k == 3 then repeated v u else one_sided v u

fault_of-parts : (fault : Fault) → fault ≡ fault_of (kind fault) (first_vertex fault) (second_vertex fault)
unfolding fault_of
fault_of-parts (out_of_range v u) = refl
fault_of-parts (loop_at v) = refl
fault_of-parts (repeated v u) = refl
fault_of-parts (one_sided v u) = refl

-- so they are one
one_fault : (fault other : Fault) → IsNoLater fault other → IsNoLater other fault → fault ≡ other
one_fault fault other a b =
    let e = same_parts fault other a b in
    fault_of-parts fault ∙ ap (λ k. fault_of k (first_vertex fault) (second_vertex fault)) e.0 ∙ ap₂ (fault_of (kind other)) e.1 e.2 ∙ sym (fault_of-parts other)

-- an answer names the first fault alone
answer_is : (lists : Lists) (fault : Fault) (o : Option Fault) → Answers lists o → IsFirstFault lists fault → o ≡ Some fault
answer_is lists fault None h first = absurd (h fault first.has)
answer_is lists fault (Some other) h first = ap (λ f. Some f) (one_fault other fault (h.first fault first.has) (first.first other h.has))

-- THE LAW of the first fault
pub first_fault_is_first : FirstFaultIsFirst
first_fault_is_first lists =
    record {
      found = λ fault. ((λ e. subst (Answers lists) e (answers lists)), answer_is lists fault (first_fault lists) (answers lists));
      none = ((λ e. subst (Answers lists) e (answers lists)), no_answer (first_fault lists) (answers lists));
    }
  where
    no_answer : (o : Option Fault) → Answers lists o → ((fault : Fault) → ¬ HasFault lists fault) → o ≡ None
    no_answer None h none = refl
    no_answer (Some fault) h none = absurd (none fault h.has)

-- THE LAW of simple maps
pub no_fault_is_simple : NoFaultIsSimple
no_fault_is_simple lists some = (IsSimpleMap-from_first_fault lists some, first_fault-IsSimpleMap lists)
