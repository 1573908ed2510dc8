-- The least places of the ranges, and the vertices at them, are an st-order.
use Rattle.std.proofs.Common.{◌≡◌, ◌≢◌, ℕ, ◌-◌, ◌<◌, Bool, List, length, get_or, sym, ap, ◌∙◌, subst, inl, inr, arith}
use Rattle.std.proofs.lemmas.Bool.{cases_eq, cases_lt, cases_Bool}
use Rattle.std.proofs.lemmas.List.{get_or_default}
use Rattle.classes.proofs.Orbits.{IsPermuting}
use Rattle.map_lists.specs.Lists.{Lists}
use Rattle.map_theory.specs.Maps.{HasDart}
use Rattle.plane_laws.proofs.PlaneCuts.{image_of_some}
use Rattle.graph_search.specs.Forests.{IsAdjacency}
use Rattle.graph_search.proofs.ForestLemmas.{same_vertex}
use Rattle.st_orders.specs.StOrders.{IsStOrder, HasEarlier, HasLater}
use Rattle.st_orders.specs.Placing.{IsWholeForest, IsPlacing, IsWholeSearch, IsPlacingIn, ArePlaces}
use Rattle.st_orders.proofs.OrderLemmas.{across, by_parent, s_before, t_after}

-- the places are those of a bijection
pub IsPermuting-places : (lists : Lists) (order number last parent low : ℕ → ℕ) (s t : ℕ) → IsWholeForest lists order number last parent low s t → (from to : ℕ → ℕ) (side recent : ℕ → Bool) → IsPlacing lists order number last parent low t from to side recent (length lists) → IsPermuting from (length lists)
IsPermuting-places lists order number last parent low s t w from to side recent h =
    let f = w.forest in
    record {
      within = λ v l. let a = h.some v l (f.numbered v l) in let b = h.inside v l (f.numbered v l) in omega arith;
      apart = λ u v l m e. elim (cases_eq u v) [
        | inl same ↦ same
        | inr ne ↦
            elim (h.apart u v l m (f.numbered u l) (f.numbered v m) ne) [ inl one ↦ absurd (omega arith) | inr other ↦ absurd (omega arith) ]
      ];
    }

module _ (lists : Lists) (adjacency : IsAdjacency lists) (order number last parent low from to : List ℕ) (recent : List Bool) (w : IsWholeSearch lists order number last parent low) (p : IsPlacingIn lists order number last parent low from to recent (length lists)) where
  abbrev s : ℕ
  s = get_or order 0 0

  abbrev t : ℕ
  t = get_or order 1 0

  permuting : IsPermuting (λ v. get_or from v 0) (length lists)
  permuting = IsPermuting-places lists _ _ _ _ _ _ _ w.whole _ _ _ _ p.placing

  -- each vertex but the first two stands between two neighbours
  between : (v : ℕ) → v < length lists → 1 < get_or number v 0 → HasEarlier lists from v × HasLater lists from v
  between v l two =
      let a = across lists adjacency _ _ _ _ _ _ _ w.whole _ _ _ _ p.placing v l (omega arith) in
      let up = w.whole.has_parent v l (omega arith) in
      let b = by_parent lists adjacency _ _ _ _ _ _ _ w.whole _ _ _ _ p.placing v l up in
      let back = adjacency.both_ways (get_or parent v 0) v (w.whole.forest.adjacent v l up) in
      elim (cases_Bool (p.side v)) [
        | inl is_set ↦ ((a.0, a.1, a.2 is_set), (get_or parent v 0, back, b.0 is_set))
        | inr is_clear ↦ ((get_or parent v 0, back, b.1 is_clear), (a.0, a.1, a.3 is_clear))
      ]

  earlier : HasDart lists s t → (v : ℕ) → v < length lists → v ≢ s → HasEarlier lists from v
  earlier dart v l ne =
      elim (cases_lt 1 (get_or number v 0)) [
        | inl two ↦ (between v l two).0
        | inr few ↦
            let is_t : v ≡ t = elim (cases_eq (get_or number v 0) 0) [
              | inl e ↦ absurd (ne (same_vertex lists _ _ _ _ w.whole.forest v s l w.whole.s_in (e ∙ sym w.whole.s_first)))
              | inr some ↦ same_vertex lists _ _ _ _ w.whole.forest v t l w.whole.t_in (omega arith)
            ] in
            (s, subst (λ x. HasDart lists x s) (sym is_t) (adjacency.both_ways s t dart), s_before lists adjacency _ _ _ _ _ _ _ w.whole _ _ _ _ p.placing v l ne)
      ]

  later : HasDart lists s t → (v : ℕ) → v < length lists → v ≢ t → HasLater lists from v
  later dart v l ne =
      elim (cases_lt 1 (get_or number v 0)) [
        | inl two ↦ (between v l two).1
        | inr few ↦ grind (arith, cases_eq, get_or, same_vertex, HasDart, t_after)
      ]

  -- the vertices at the places
  pub IsStOrder-placed : HasDart lists s t → (at : List ℕ) → length at ≡ length lists → ((v : ℕ) → v < length lists → get_or at (get_or from v 0) 0 ≡ v) → IsStOrder lists s t at from
  IsStOrder-placed dart at long own =
      let n = length lists in
      let some : (i : ℕ) → i < n → (v : ℕ) × (v < n) × (get_or from v 0 ≡ i) = image_of_some (λ v. get_or from v 0) n permuting in
      let is_at : (i : ℕ) → (l : i < n) → get_or at i 0 ≡ (some i l).0 = λ i l. ap (λ x. get_or at x 0) (sym (some i l).2) ∙ own (some i l).0 (some i l).1 in
      let at_in : (i : ℕ) → i < n → get_or at i 0 < n = λ i l. (let v = (some i l).1 in omega (arith, is_at i l)) in
      let t_in = w.whole.t_in in
      record {
        count = long;
        ranks = p.tables.froms;
        vertices = λ i d l. let q = get_or_default at i d 0 l in let v = at_in i (omega arith) in omega arith;
        places = λ v d l. let q = get_or_default from v d 0 l in let i = permuting.within v (omega arith) in omega arith;
        of_place = λ i l. ap (λ x. get_or from x 0) (is_at i l) ∙ (some i l).2;
        of_vertex = own;
        first =
            let zero_in : 0 < n = omega arith in
            let one = some 0 zero_in in
            elim (cases_eq one.0 s) [
              | inl e ↦ is_at 0 zero_in ∙ e
              | inr ne ↦ absurd (let less = s_before lists adjacency _ _ _ _ _ _ _ w.whole _ _ _ _ p.placing one.0 one.1 ne in let q = one.2 in omega arith)
            ];
        last =
            let last_in : n - 1 < n = omega arith in
            let one = some (n - 1) last_in in
            elim (cases_eq one.0 t) [
              | inl e ↦ is_at (n - 1) last_in ∙ e
              | inr ne ↦ absurd (let less = t_after lists adjacency _ _ _ _ _ _ _ w.whole _ _ _ _ p.placing one.0 one.1 ne in let q = one.2 in let b = permuting.within t t_in in omega arith)
            ];
        earlier = earlier dart;
        later = later dart;
      }

  -- the places by themselves
  pub ArePlaces-placed : (x y : ℕ) → get_or order 0 0 ≡ x → get_or order 1 0 ≡ y → HasDart lists x y → ArePlaces lists x y from
  ArePlaces-placed x y is_x is_y dart =
      let here : HasDart lists (get_or order 0 0) (get_or order 1 0) = rw (is_x, is_y) dart in
      record {
        count = p.tables.froms;
        within = permuting.within;
        apart = permuting.apart;
        order_of = λ at long own. subst (λ z. IsStOrder lists z y at from) is_x (subst (λ z. IsStOrder lists s z at from) is_y (IsStOrder-placed here at long own));
      }
