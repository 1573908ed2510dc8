-- Lists that gain entries and keep the order of the old ones.
use Rattle.std.proofs.Common.{◌≡◌, ◌≢◌, ℕ, ◌+◌, ◌<◌, ◌≤◌, Bool, true, false, cond, List, [], ◌∷◌, ◌++◌, length, take, drop, Contains, refl, sym, ap, ap₂, ◌∙◌, subst, inl, inr, ◌==◌}
use Rattle.std.specs.List.{filter, insert, list_any}
use Rattle.std.proofs.lemmas.Bool.{cases_Bool, cases_eq, cond-true, cond-false, true≢false, false_from_ne_true}
use Rattle.std.proofs.lemmas.List.{take-append-drop}
use Rattle.std.proofs.lemmas.List.Elements.{All-filter, Contains-get_or, Contains-append_left, Contains-append_right, filter-append}
use Rattle.map_lists.specs.Lists.{Lists}
use Rattle.map_theory.specs.Maps.{list_of, HasDart, IsSimpleMap, edge_count}
use Rattle.map_theory.proofs.EntryLemmas.{Contains-from_list_any, list_any-from_Contains}
use Rattle.map_theory.proofs.WithoutEdge.{edge_count-without}
use Rattle.plane_laws.specs.MapEditsCompleted.{IsExtended}
use Rattle.plane_laws.specs.WithEdge.{with_edge_at}
use Rattle.plane_laws.proofs.KeptEdges.{filter-all}
use Rattle.plane_laws.proofs.WithEdge.{with_edge, length-new, new_first, new_second, new_elsewhere}

-- u stands in the list
abbrev is_in : List ℕ → ℕ → Bool
is_in us u = list_any (λ w. w == u) us

-- what is put in is left out again
filter-insert : (us : List ℕ) (i x : ℕ) → ¬ Contains us x → filter (is_in us) (insert us i x) ≡ us
filter-insert us i x absent =
    let p = is_in us in
    let whole = take-append-drop i us in
    let front = filter-all p (take i us) (λ z c. list_any-from_Contains z us (subst (λ l. Contains l z) whole (Contains-append_left (take i us) (drop i us) z c))) in
    let rest = filter-all p (drop i us) (λ z c. list_any-from_Contains z us (subst (λ l. Contains l z) whole (Contains-append_right (take i us) (drop i us) z c))) in
    let out : p x ≡ false = false_from_ne_true (p x) (λ t. absent (Contains-from_list_any x us t)) in
    filter-append p (take i us) (x ∷ drop i us)
    ∙ (ap₂ (λ l r. l ++ r) front (cond-false (p x) (x ∷ filter p (drop i us)) (filter p (drop i us)) out ∙ rest) ∙ whole)

-- a test after a weaker one
pub filter-filter : (p q : ℕ → Bool) (us : List ℕ) → ((x : ℕ) → p x ≡ true → q x ≡ true) → filter p (filter q us) ≡ filter p us
filter-filter p q [] h = refl
filter-filter p q (x ∷ us) h =
    let rest = filter-filter p q us h in
    elim (cases_Bool (q x)) [
      | inl t ↦ ap (filter p) (cond-true (q x) (x ∷ filter q us) (filter q us) t) ∙ ap (λ l. cond (p x) (x ∷ l) l) rest
      | inr t ↦
          let out : p x ≡ false = false_from_ne_true (p x) (λ s. true≢false (sym (h x s) ∙ t)) in
          ap (filter p) (cond-false (q x) (x ∷ filter q us) (filter q us) t) ∙ (rest ∙ sym (cond-false (p x) (x ∷ filter p us) (filter p us) out))
    ]

Contains-filter : (p : ℕ → Bool) (us : List ℕ) (x : ℕ) → Contains (filter p us) x → Contains us x
Contains-filter p us x h = subst (Contains us) h.2 (All-filter p (Contains us) us (λ i d l. Contains-get_or us i d l) h.0 x h.1)

-- lists extend themselves
pub IsExtended-itself : (lists : Lists) → IsExtended lists lists
IsExtended-itself lists = record { vertices = refl; lists = λ v. filter-all (is_in (list_of lists v)) (list_of lists v) (λ x c. list_any-from_Contains x (list_of lists v) c) }

-- and one extension may follow another
pub IsExtended-chained : (one two three : Lists) → IsExtended one two → IsExtended two three → IsExtended one three
IsExtended-chained one two three h h' =
    record {
      vertices = h'.vertices ∙ h.vertices;
      lists = λ v.
          let us = list_of one v in
          let vs = list_of two v in
          let inside : (x : ℕ) → is_in us x ≡ true → is_in vs x ≡ true = λ x t.
          list_any-from_Contains x vs (Contains-filter (is_in us) vs x (subst (λ l. Contains l x) (sym (h.lists v)) (Contains-from_list_any x us t))) in
          sym (filter-filter (is_in us) (is_in vs) (list_of three v) inside) ∙ (ap (filter (is_in us)) (h'.lists v) ∙ h.lists v);
    }

-- An edge put in extends the lists, by one edge.
module _ (lists : Lists) (u i v j : ℕ) (simple : IsSimpleMap lists) (in_u : u < length lists) (in_v : v < length lists) (u_v : u ≢ v) (far : ¬ HasDart lists u v) (at_u : i ≤ length (list_of lists u)) (at_v : j ≤ length (list_of lists v)) where
  pub IsExtended-edge : IsExtended lists (with_edge_at lists u i v j)
  IsExtended-edge =
      record {
        vertices = length-new lists u i v j simple in_u in_v u_v far at_u at_v;
        lists = λ w.
            elim (cases_eq w u) [
              | inl e ↦ rw e (ap (filter (is_in (list_of lists u))) (new_first lists u i v j simple in_u in_v u_v far at_u at_v) ∙ filter-insert (list_of lists u) i v (λ c. far (in_u, c)))
              | inr nu ↦
                  elim (cases_eq w v) [
                    | inl e ↦ rw e (ap (filter (is_in (list_of lists v))) (new_second lists u i v j simple in_u in_v u_v far at_u at_v) ∙ filter-insert (list_of lists v) j u (λ c. far (simple.both_ways v u (in_v, c))))
                    | inr nv ↦ ap (filter (is_in (list_of lists w))) (new_elsewhere lists u i v j simple in_u in_v u_v far at_u at_v w nu nv) ∙ (IsExtended-itself lists).lists w
                  ]
            ];
      }

  pub edge_count-edge : edge_count (with_edge_at lists u i v j) ≡ edge_count lists + 1
  edge_count-edge =
      let more = with_edge lists u i v j simple in_u in_v u_v far at_u at_v in
      edge_count-without (with_edge_at lists u i v j) more.simple u v more.edge ∙ ap (λ l. edge_count l + 1) more.without
