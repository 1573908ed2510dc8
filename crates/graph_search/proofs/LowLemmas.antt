-- The low points of vertices, by falling numbers.
use Rattle.std.proofs.Common.{◌≡◌, ◌≢◌, ℕ, ◌+◌, ◌-◌, ◌<◌, ◌≤◌, min, List, [], ◌∷◌, length, take, set, length-set, get_or, get_or-set_same, get_or-set_other, Contains, All, sym, ap, ◌∙◌, subst, inl, inr, arith}
use Rattle.std.proofs.lemmas.Bool.{cases_eq, cases_lt}
use Rattle.std.proofs.lemmas.List.{take_more}
use Rattle.std.proofs.lemmas.List.Elements.{Contains-append_cases, Contains-append_left, Contains-append_right, Contains-get_or}
use Rattle.map_theory.proofs.EntryLemmas.{Contains-here, Contains-cons_cases}
use Rattle.map_lists.specs.Lists.{Lists}
use Rattle.map_theory.specs.Maps.{HasDart, list_of}
use Rattle.graph_search.specs.Forests.{IsAdjacency, IsForestOf}
use Rattle.graph_search.specs.Lows.{IsLow, Meets, IsLowered}
use Rattle.graph_search.proofs.ForestLemmas.{IsWithin-cases, IsWithin-itself, IsWithin-held, IsWithin-chained, child_towards}
use Rattle.std.specs.Prelude.{◌⊎◌, slice_index}

-- the least of a number and of those of the vertices of a list
pub record IsLeastNumber (entries number : List ℕ) (start least : ℕ) : Type 0 where
  pub most : least ≤ start
  pub below : (u : ℕ) → Contains entries u → least ≤ slice_index number u
  pub met : (least ≡ start) ⊎ ((u : ℕ) × Contains entries u × (slice_index number u ≡ least))

-- The low points of the vertices of the i greatest numbers are found. No vertex has a greater one so far than a child of these, and what it has is met.
pub record AreLowsFrom (lists : Lists) (number last parent low : List ℕ) (i : ℕ) : Type 0 where
  pub lows : length low ≡ length lists
  pub done : (v : ℕ) → v < length lists → length lists ≤ get_or number v 0 + i → IsLow lists (λ u. get_or number u 0) (λ u. get_or last u 0) v (get_or low v 0)
  pub children : (c : ℕ) → c < length lists → length lists ≤ get_or number c 0 + i → get_or parent c 0 < length lists → get_or low (get_or parent c 0) 0 ≤ get_or low c 0
  pub met : (v : ℕ) → v < length lists → get_or low v 0 < length lists → (u : ℕ) × Meets lists (λ x. get_or number x 0) (λ x. get_or last x 0) v u × (get_or number u 0 ≡ get_or low v 0)

-- the entries of a vertex's list are vertices
pub entries_within : (lists : Lists) → IsAdjacency lists → (v : ℕ) → v < length lists → All (λ u. u < length lists) (list_of lists v)
entries_within lists adjacency v l = λ k d m. adjacency.in_range v (get_or (list_of lists v) k d) (l, Contains-get_or (list_of lists v) k d m)

-- the least with one entry more
pub IsLeastNumber-more : (entries number : List ℕ) (start i least next : ℕ) → i < length entries → next ≡ min least (get_or number (get_or entries i 0) 0) → IsLeastNumber (take i entries) number start least → IsLeastNumber (take (i + 1) entries) number start next
IsLeastNumber-more entries number start i least next l e h =
    let x = get_or entries i 0 in
    let split = take_more entries i 0 l in
    let back : (u : ℕ) → Contains (take i entries) u → Contains (take (i + 1) entries) u = λ u has. subst (λ (xs : List ℕ). Contains xs u) (sym split) (Contains-append_left (take i entries) (x ∷ []) u has) in
    record {
      most = omega (arith, h.most);
      below = λ u has.
          elim (Contains-append_cases (take i entries) (x ∷ []) u (subst (λ (xs : List ℕ). Contains xs u) split has)) [
            | inl old ↦ omega (arith, h.below u old)
            | inr new ↦ elim (Contains-cons_cases x [] u new) [
              | inl same ↦ omega (arith, ap (λ z. get_or number z 0) same)
              | inr none ↦ absurd (let some = none.1 in omega arith)
            ]
          ];
      met = elim (cases_lt least (get_or number x 0)) [
        | inl less ↦
            let same : least ≡ next = omega arith in
            elim h.met [ inl old ↦ inl (sym same ∙ old) | inr old ↦ inr (old.0, back old.0 old.1, old.2 ∙ same) ]
        | inr more ↦ inr (x, subst (λ (xs : List ℕ). Contains xs x) (sym split) (Contains-append_right (take i entries) (x ∷ []) x (Contains-here x [])), omega arith)
      ];
    }

module _ (lists : Lists) (adjacency : IsAdjacency lists) (order number last parent : List ℕ) (all : IsForestOf lists order number last parent) where
  abbrev num : ℕ → ℕ
  num v = get_or number v 0

  abbrev end : ℕ → ℕ
  end v = get_or last v 0

  module _ (low : List ℕ) (i v least : ℕ) (l : i < length lists) (is : v ≡ get_or order (length lists - 1 - i) 0) (h : AreLowsFrom lists number last parent low i) (along : IsLeastNumber (list_of lists v) number (get_or low v 0) least) where
    v_in : v < length lists
    v_in =
        rw is (all.forest.vertex (length lists - 1 - i) (omega arith))

    at_v : num v ≡ length lists - 1 - i
    at_v =
        rw is (all.forest.place (length lists - 1 - i) (omega arith))

    -- what it has is met
    least_met : least < length lists → (u : ℕ) × Meets lists num end v u × (num u ≡ least)
    least_met few = grind (arith, v_in, IsWithin-itself)

    -- and it is the low point
    least_low : IsLow lists num end v least
    least_low =
        record {
          least = λ u meets.
              elim (IsWithin-cases lists _ _ _ _ all.forest v meets.w v_in meets.dart.0 meets.within) [
                | inl e ↦
                    along.below u (subst (λ x. HasDart lists x u) (sym e) meets.dart).1
                | inr held ↦
                    let c = child_towards lists _ _ _ _ all.forest v meets.w v_in meets.dart.0 held in
                    let p_in : get_or parent c.c 0 < length lists = omega (arith, c.child, v_in) in
                    let after : num (get_or parent c.c 0) < num c.c = (all.forest.held c.c c.vertex p_in).after in
                    let few : length lists ≤ num c.c + i = omega (arith, ap num c.child, at_v) in
                    let low_c = (h.done c.c c.vertex few).least u (record { w = meets.w; within = c.within; dart = meets.dart }) in
                    omega (arith, ap (λ x. get_or low x 0) c.child, h.children c.c c.vertex few p_in, along.most)
              ];
          met = least_met;
        }

    -- the low points with one more
    pub AreLowsFrom-more : (now : List ℕ) → IsLowered (set low v least) now (get_or parent v 0) least → AreLowsFrom lists number last parent now (i + 1)
    AreLowsFrom-more now w =
        let p = get_or parent v 0 in
        let first : p < length lists → num p < num v = λ m. (all.forest.held v v_in m).after in
        let apart : v ≢ p = λ e. elim (cases_lt p (length lists)) [ inl m ↦ (let a = first m in let q = ap num e in omega arith) | inr m ↦ (let a = v_in in omega arith) ] in
        let here : get_or now v 0 ≡ least = w.elsewhere v apart ∙ get_or-set_same low v least 0 (omega (arith, v_in)) in
        let above : p < length lists → get_or now p 0 ≡ min (get_or low p 0) least = λ m. w.here (omega (arith, length-set low v least)) ∙ ap (λ x. min x least) (get_or-set_other low v p least 0 (λ e. apart (sym e))) in
        let other : (u : ℕ) → u ≢ v → u ≢ p → get_or now u 0 ≡ get_or low u 0 = λ u ne ne'. w.elsewhere u ne' ∙ get_or-set_other low v u least 0 ne in
        let not_above : (u : ℕ) → u < length lists → length lists ≤ num u + (i + 1) → u ≢ p = λ u m few e. (let a = first (omega (arith, m, e)) in let q = ap num e in omega (arith, at_v)) in
        let earlier : (u : ℕ) → u < length lists → length lists ≤ num u + (i + 1) → u ≢ v → length lists ≤ num u + i = λ u m few ne.
        let differ : num u ≢ num v = λ e. ne (sym (all.forest.own u m) ∙ (ap (λ x. get_or order x 0) e ∙ all.forest.own v v_in)) in
        omega (arith, at_v) in
        record {
          lows = w.count ∙ (length-set low v least ∙ h.lows);
          done = λ u m few. elim (cases_eq u v) [
            | inl e ↦ subst (λ x. IsLow lists num end x (get_or now x 0)) (sym e) (subst (IsLow lists num end v) (sym here) least_low)
            | inr ne ↦ subst (IsLow lists num end u) (sym (other u ne (not_above u m few))) (h.done u m (earlier u m few ne))
          ];
          children = λ c m few q. elim (cases_eq c v) [
            | inl e ↦
                let e' = ap (λ x. get_or parent x 0) e in
                let b = ap (λ x. get_or now x 0) e in
                let d = ap (λ x. get_or now x 0) e' in
                omega (arith, above (omega (arith, e')), here)
            | inr ne ↦ grind (arith, get_or, cases_eq)
          ];
          met = λ u m few. elim (cases_eq u v) [
            | inl e ↦
                let at = least_met (omega (arith, ap (λ x. get_or now x 0) e, here)) in
                (at.0, subst (λ x. Meets lists num end x at.0) (sym e) at.1, at.2 ∙ (sym here ∙ ap (λ x. get_or now x 0) (sym e)))
            | inr ne ↦ elim (cases_eq u p) [
              | inr ne' ↦
                  let same = other u ne ne' in
                  let at = h.met u m (omega arith) in
                  (at.0, at.1, at.2 ∙ sym same)
              | inl e ↦
                  let p_in : p < length lists = omega (arith, m, e) in
                  let a = above p_in in
                  let b = ap (λ x. get_or now x 0) e in
                  let d = ap (λ x. get_or low x 0) e in
                  elim (cases_lt (get_or low p 0) least) [
                    | inl less ↦
                        let at = h.met u m (omega arith) in
                        (at.0, at.1, at.2 ∙ omega arith)
                    | inr most ↦
                        let at = least_met (omega arith) in
                        let held = IsWithin-held lists _ _ _ _ all.forest p v (all.forest.held v v_in p_in) in
                        let inside = IsWithin-chained lists _ _ _ _ all.forest p v at.1.w p_in v_in held at.1.within in
                        (at.0, subst (λ x. Meets lists num end x at.0) (sym e) (record { w = at.1.w; within = inside; dart = at.1.dart }), at.2 ∙ omega arith)
                  ]
            ]
          ];
        }
