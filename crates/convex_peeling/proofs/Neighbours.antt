-- A vertex of a three-connected map has three neighbours: fewer would part it from the others.
use Rattle.std.proofs.Common.{◌≡◌, ◌≢◌, ◌⊎◌, ℕ, zero, suc, ◌<◌, List, [], ◌∷◌, length, get_or, Contains, sym, ap, ◌∙◌, subst, inl, inr, arith}
use Rattle.std.proofs.lemmas.Bool.{cases_eq, cases_lt}
use Rattle.std.proofs.lemmas.List.{get_or_default}
use Rattle.std.proofs.lemmas.List.Elements.{Contains-get_or}
use Rattle.classes.proofs.Classes.{length-classes, same_class-from}
use Rattle.map_lists.specs.Lists.{Lists}
use Rattle.map_theory.specs.Maps.{HasDart, IsSimpleMap, component_count, component_classes, darts, list_of, place_of}
use Rattle.map_theory.proofs.DartLemmas.{place_of-get_or}
use Rattle.map_theory.proofs.DartPermutations.{IsLabels-components}
use Rattle.plane_laws.specs.Laws.{AreJoined}
use Rattle.plane_laws.proofs.EdgeBound.{one_class}
use Rattle.plane_laws.proofs.ComponentPaths.{components_are_paths}
use Rattle.graph_search.proofs.ForestLemmas.{IsAdjacency-simple}
use Rattle.graph_search.specs.Cuts.{AreSeparated}
use Rattle.graph_search.proofs.WalkLemmas.{Off, linked_path, walks_start, Walks}
use Rattle.graph_search.proofs.CutLemmas.{off_one}
use Rattle.graph_search.proofs.PairLemmas.{AreBoth-pair, off_both}
use Rattle.map_theory.proofs.EntryLemmas.{Contains-here}
use Rattle.convex_peeling.proofs.PolyhedralLemmas.{pair_of_separated}
use Rattle.std.specs.Prelude.{◌≤◌}
use Rattle.convex_peeling.specs.Polyhedral.{IsThreeConnected}

-- a number is none of three, or one of them
abbrev IsOneOf : ℕ → ℕ → ℕ → ℕ → Type 0
IsOneOf x y z w = (w ≡ x) ⊎ ((w ≡ y) ⊎ (w ≡ z))

cases_one_of : (x y z w : ℕ) → ((w ≢ x) × (w ≢ y) × (w ≢ z)) ⊎ IsOneOf x y z w
cases_one_of x y z w = grind (arith, cases_eq)

four_of_three : (x y z : ℕ) → IsOneOf x y z 0 → IsOneOf x y z 1 → IsOneOf x y z 2 → IsOneOf x y z 3 → ⊥
four_of_three x y z a b c d = grind arith

-- one of four numbers is none of three
another : (x y z : ℕ) → (w : ℕ) × (w < 4) × (w ≢ x) × (w ≢ y) × (w ≢ z)
another x y z =
    elim (cases_one_of x y z 0) [
      | inl h ↦ (0, omega arith, h.0, h.1, h.2)
      | inr at_0 ↦ elim (cases_one_of x y z 1) [
        | inl h ↦ (1, omega arith, h.0, h.1, h.2)
        | inr at_1 ↦ elim (cases_one_of x y z 2) [
          | inl h ↦ (2, omega arith, h.0, h.1, h.2)
          | inr at_2 ↦ elim (cases_one_of x y z 3) [
            | inl h ↦ (3, omega arith, h.0, h.1, h.2)
            | inr at_3 ↦ absurd (four_of_three x y z at_0 at_1 at_2 at_3)
          ]
        ]
      ]
    ]

module _ (lists : Lists) (simple : IsSimpleMap lists) (one : component_count lists ≡ 1) where
  -- any two vertices are joined
  all_joined : (u v : ℕ) → u < length lists → v < length lists → AreJoined lists u v
  unfolding component_count
  all_joined u v u_in v_in =
      let C = component_classes lists in
      let size = length-classes (length lists) (darts lists) in
      let together = one_class C (IsLabels-components lists simple) (omega (arith, one)) u v (omega arith) (omega arith) in
      (components_are_paths lists u v simple u_in v_in).0 (same_class-from C u v together)

  -- where all neighbours of v are avoided, it is separated from any vertex that is not
  separated_alone : (avoided : List ℕ) (v w : ℕ) → v < length lists → w < length lists → v ≢ w → Off avoided v → Off avoided w → ((z : ℕ) → HasDart lists v z → Contains avoided z) → AreSeparated lists avoided v w
  separated_alone avoided v w v_in w_in ne off_v off_w all =
      let joined = all_joined v w v_in w_in in
      record {
        s_off = off_v;
        t_off = off_w;
        path = joined.0;
        joined = joined.1;
        apart = λ other j. let walk = linked_path lists (IsAdjacency-simple lists simple) avoided v w other j in stays walk.0 walk.1;
      }
    where
      stays : (k : ℕ) → Walks lists (Off avoided) k v w → ⊥
      stays k = elim k as (λ n. Walks lists (Off avoided) n v w → ⊥) [
        | zero ↦ λ h. ne h.2
        | suc n ↦ λ h. (walks_start lists (Off avoided) n h.0 w h.3).1 (all h.0 h.1)
      ]

-- Each vertex of a three-connected map has three neighbours at least.
pub three_neighbours : (lists : Lists) (v : ℕ) → IsThreeConnected lists → v < length lists → 3 ≤ length (list_of lists v)
three_neighbours lists v three v_in =
    let simple = three.simple in
    let us = list_of lists v in
    let a = get_or us 0 0 in
    let b = get_or us 1 0 in
    let alone = separated_alone lists simple three.connected in
    elim (cases_lt (length us) 3) [
      | inr many ↦ many
      | inl few ↦
          elim (cases_lt (length us) 2) [
            | inl fewer ↦
                -- a neighbour, or where there is none any other vertex
                let x = elim (cases_lt 0 (length us)) as (λ h. (c : ℕ) × (c < length lists) × (c ≢ v) × ((z : ℕ) → HasDart lists v z → z ≡ c)) [
                  | inl l ↦
                      let has : HasDart lists v a = (v_in, Contains-get_or us 0 0 l) in
                      (a, simple.in_range v a has, simple.no_loop v a has, λ z d. at_first us z d.1 fewer)
                  | inr none ↦ let c = another v v v in let l = c.1 in (c.0, omega arith, c.2, λ z d. absurd (let i = d.1.1 in omega arith))
                ] in
                let w = another v x.0 x.0 in
                absurd (three.uncut x.0 (v, w.0, alone (x.0 ∷ []) v w.0 v_in (omega arith) (λ e. w.2 (sym e)) (off_one x.0 v (λ e. x.2 (sym e))) (off_one x.0 w.0 w.3) (λ z d. subst (Contains (x.0 ∷ [])) (sym (x.3 z d)) (Contains-here x.0 []))))
            | inr two ↦
                let has_a : HasDart lists v a = (v_in, Contains-get_or us 0 0 (omega arith)) in
                let has_b : HasDart lists v b = (v_in, Contains-get_or us 1 0 (omega arith)) in
                let w = another v a b in
                let both = AreBoth-pair a b in
                let distinct = simple.no_repeat v v_in in
                let a_b : a ≢ b = λ e. absurd (omega (arith, sym (place_of-get_or us 0 0 distinct (omega arith)) ∙ (ap (λ z. place_of z us) e ∙ place_of-get_or us 1 0 distinct (omega arith)))) in
                let separated = alone (a ∷ b ∷ []) v w.0 v_in (omega arith) (λ e. w.2 (sym e))
                (off_both a b (a ∷ b ∷ []) both v (λ e. simple.no_loop v a has_a (sym e)) (λ e. simple.no_loop v b has_b (sym e)))
                (off_both a b (a ∷ b ∷ []) both w.0 w.3 w.4)
                (λ z d. at_either us z d.1 few (a ∷ b ∷ []) both.one both.other) in
                elim (pair_of_separated lists a b (simple.in_range v a has_a) (simple.in_range v b has_b) a_b (v, w.0, separated)) [
                  | inl pair ↦ absurd (three.unpaired a b pair)
                  | inr pair ↦ absurd (three.unpaired b a pair)
                ]
          ]
    ]
  where
    at_first : (us : List ℕ) (z : ℕ) → Contains us z → length us < 2 → z ≡ get_or us 0 0
    at_first us z c l =
        let e : c.0 ≡ 0 = omega arith in
        sym c.2 ∙ (get_or_default us c.0 z 0 c.1 ∙ ap (λ n. get_or us n 0) e)

    at_either : (us : List ℕ) (z : ℕ) → Contains us z → length us < 3 → (both : List ℕ) → Contains both (get_or us 0 0) → Contains both (get_or us 1 0) → Contains both z
    at_either us z c l both first second = grind (arith, get_or, get_or_default, cases_eq, Contains)
