-- Statements that are wrong, though near those of the laws.
use Rattle.std.proofs.Common.{◌≡◌, ◌≢◌, ℕ, ◌+◌, ◌-◌, ◌<◌, ◌≤◌, Bool, true, false, not, eqb, ltb, List, [], ◌∷◌, get_or, AllPairs, Contains, refl, sym, ap, ◌∙◌, inl, inr, arith, eq-eqb, ne_eqb}
use Rattle.std.specs.Prelude.{◌&&◌, ◌↔◌}
use Rattle.std.proofs.lemmas.Bool.{cases_lt, and_parts, and_from, ltb-true, true≢false, false_from_ne_true}
use Rattle.std.proofs.lemmas.List.{get_or_default}
use Rattle.map_lists.specs.Lists.{Lists}
use Rattle.classes.specs.Classes.{merge}
use Rattle.map_theory.specs.Maps.{Dart, HasDart, IsSimpleMap, IsPlane, list_of, dart_count, entry_after, face_count, component_count}
use Rattle.simple_maps.specs.Faults.{first_fault}
use Rattle.simple_maps.proofs.FaultLemmas.{IsSimpleMap-from_first_fault}
use Rattle.left_right_laws.specs.Forests.{IsForest, IsReturn, IsLeftRight}
use Rattle.left_right_laws.proofs.Forks.{plane_is_left_right}
use Rattle.left_right_maps.specs.Orders.{IsEdge, MayAllPrecede}
use Rattle.left_right_maps.specs.RootedMaps.{is_child, joined, tour_at, IsRootedMap}
use Rattle.left_right_maps.specs.Graphs.{IsMapOfEdges}
use Rattle.left_right_maps.proofs.Inserts.{none_in_none, here, there, here_or_there, pairs_none, pairs_more}
use Rattle.left_right_maps.proofs.Lines.{above_same}

-- no bit is the other one
no_fixed_bit : (b : Bool) → b ≡ not b → ⊥
no_fixed_bit true e = cc
no_fixed_bit false e = cc

-- ---- a fork whose edges that return are all on one side: 3 and 4 are under 2, and each is joined to 0 and 1 above
abbrev unlike : ℕ → ℕ → Bool
unlike u v = not (eqb u v)

abbrev forked_parent : ℕ → ℕ
forked_parent v = get_or (0 ∷ 0 ∷ 1 ∷ 2 ∷ 2 ∷ []) v 0

abbrev forked_depth : ℕ → ℕ
forked_depth v = get_or (0 ∷ 1 ∷ 2 ∷ 3 ∷ 3 ∷ []) v 0

abbrev two_up : ℕ → List Dart
two_up u = (u, 0) ∷ (u, 1) ∷ []

abbrev ReturnsAt : ℕ → Dart → Type 0
ReturnsAt u d = IsReturn (IsEdge unlike) forked_parent forked_depth 2 u d.0 d.1

three_to_none : ReturnsAt 3 (3, 0)
three_to_none = record { edge = refl; higher = omega arith; above = record { depths = omega arith; line = refl }; under = record { depths = omega arith; line = refl }; branch = inr (λ e. omega arith, refl); away = λ e. omega arith }

three_to_one : ReturnsAt 3 (3, 1)
three_to_one = record { edge = refl; higher = omega arith; above = record { depths = omega arith; line = refl }; under = record { depths = omega arith; line = refl }; branch = inr (λ e. omega arith, refl); away = λ e. omega arith }

four_to_none : ReturnsAt 4 (4, 0)
four_to_none = record { edge = refl; higher = omega arith; above = record { depths = omega arith; line = refl }; under = record { depths = omega arith; line = refl }; branch = inr (λ e. omega arith, refl); away = λ e. omega arith }

four_to_one : ReturnsAt 4 (4, 1)
four_to_one = record { edge = refl; higher = omega arith; above = record { depths = omega arith; line = refl }; under = record { depths = omega arith; line = refl }; branch = inr (λ e. omega arith, refl); away = λ e. omega arith }

one_of_two : {X : Type 0} (P : X → Type 0) (a b x : X) → Contains (a ∷ b ∷ []) x → P a → P b → P x
one_of_two P a b x c p q = grind (arith, here_or_there, none_in_none)

never_before : (e f : ℕ) → ¬ MayAllPrecede forked_depth (λ t w. true) (two_up e) (two_up f)
never_before e f may =
    omega (arith, (may (e, 0) (f, 1) (here (e, 0) ((e, 1) ∷ [])) (there (f, 0) (f, 1) ((f, 1) ∷ []) (here (f, 1) []))).0 refl)

three_not : (y : ℕ) → Contains (4 ∷ []) y → 3 ≢ y
three_not y c e = elim (here_or_there 4 y [] c) [ inl e' ↦ omega (arith, e, e') | inr bad ↦ none_in_none y bad ]

-- the law of forks for sides that are no partition into left and right
any_sides : ((joined : ℕ → ℕ → Bool) (parent depth : ℕ → ℕ) (left : ℕ → ℕ → Bool) (v : ℕ) (us : List ℕ) (returns : ℕ → List Dart) → AllPairs ◌≢◌ us → ((u : ℕ) (d : Dart) → Contains us u → Contains (returns u) d → IsReturn (IsEdge joined) parent depth v u d.0 d.1) → (ordered : List ℕ) × (((u : ℕ) → Contains ordered u ↔ Contains us u) × AllPairs (λ e f. (e ≢ f) × MayAllPrecede depth left (returns e) (returns f)) ordered)) → ⊥
any_sides wrong =
    let us : List ℕ = 3 ∷ 4 ∷ [] in
    let distinct : AllPairs ◌≢◌ us = pairs_more ◌≢◌ 3 (4 ∷ []) three_not (pairs_more ◌≢◌ 4 [] (λ y c e. none_in_none y c) (pairs_none ◌≢◌)) in
    let found = wrong unlike forked_parent forked_depth (λ t w. true) 2 us two_up distinct (λ u d c. one_of_two (λ u. Contains (two_up u) d → ReturnsAt u d) 3 4 u c (λ c'. one_of_two (ReturnsAt 3) (3, 0) (3, 1) d c' three_to_none three_to_one) (λ c'. one_of_two (ReturnsAt 4) (4, 0) (4, 1) d c' four_to_none four_to_one)) in
    let i = (found.1.0 3).1 (here 3 (4 ∷ [])) in
    let j = (found.1.0 4).1 (there 3 4 (4 ∷ []) (here 4 [])) in
    let same_place : i.0 ≢ j.0 = λ e. (let a : get_or found.0 i.0 3 ≡ 3 = i.2 in let apart : get_or found.0 j.0 3 ≡ 4 = get_or_default found.0 j.0 3 4 j.1 ∙ j.2 in let b = ap (λ k. get_or found.0 k 3) e in omega arith) in
    grind (arith, cases_lt, never_before)

-- ---- K5, with a forest that is not depth-first: all others are under 0, and no edge returns
abbrev joined_five : ℕ → ℕ → Bool
joined_five u v = ltb u 5 && (ltb v 5 && not (eqb u v))

abbrev star_parent : ℕ → ℕ
star_parent v = 0

abbrev star_depth : ℕ → ℕ
star_depth v = get_or (0 ∷ 1 ∷ 1 ∷ 1 ∷ 1 ∷ []) v 0

star_low : (v : ℕ) → star_depth v ≤ 1
star_low x0 = grind arith

star_root : (v : ℕ) → v < 5 → star_depth v ≡ 0 → v ≡ 0
star_root x0 l e = grind arith

five_so : (u v : ℕ) → joined_five u v ≡ true → (u < 5) × ((v < 5) × (u ≢ v))
five_so u v t = grind (arith, and_parts, ltb, not, eqb, ltb-true, true≢false, eq-eqb)

five_back : (u v : ℕ) → joined_five u v ≡ true → joined_five v u ≡ true
five_back u v t = grind (arith, and_parts, ltb, not, eqb, five_so, and_from, ne_eqb)

five_edges : (v : ℕ) → 0 < star_depth v → joined_five v 0 ≡ true
five_edges x0 d = grind arith

star_forest : IsForest (IsEdge joined_five) star_parent star_depth
star_forest = record { edges = five_edges; deeper = λ v d. let a = star_low v in omega arith }

star_returns : (v e t w : ℕ) → ¬ IsReturn (IsEdge joined_five) star_parent star_depth v e t w
star_returns v e t w a =
    let same = above_same star_parent star_depth v t a.under (omega (arith, star_low t)) in
    elim a.branch [ inl h ↦ a.away (h.1 ∙ star_root w (five_so t w a.edge).1.0 (omega (arith, star_low t))) | inr h ↦ h.0 (sym same) ]

-- K5 on a line from 0 up to 4
abbrev before : ℕ → ℕ
before v = v - 1

abbrev own : ℕ → ℕ
own v = get_or (0 ∷ 1 ∷ 2 ∷ 3 ∷ 4 ∷ []) v 0

line_edges : (v : ℕ) → 0 < own v → (joined_five v (before v) ≡ true) × (own v ≡ own (before v) + 1)
line_edges x0 d = grind arith

no_map_of_five : (lists : Lists) → ¬ IsMapOfEdges 5 joined_five lists
no_map_of_five lists m =
    let has : (v u : ℕ) → joined_five v u ≡ true → HasDart lists v u = λ v u t. (m.edges v u).1 t in
    let forest : IsForest (HasDart lists) before own = record { edges = λ v d. has v (before v) (line_edges v d).0; deeper = λ v d. (line_edges v d).1 } in
    let found = plane_is_left_right lists before own m.simple m.plane forest in
    let from_two : IsReturn (HasDart lists) before own 2 0 2 0 = record { edge = has 2 0 refl; higher = omega arith; above = record { depths = omega arith; line = refl }; under = record { depths = omega arith; line = refl }; branch = inl (refl, refl); away = λ e. omega arith } in
    let from_three_by_two : IsReturn (HasDart lists) before own 2 3 3 1 = record { edge = has 3 1 refl; higher = omega arith; above = record { depths = omega arith; line = refl }; under = record { depths = omega arith; line = refl }; branch = inr (λ e. omega arith, refl); away = λ e. omega arith } in
    let from_four_by_two : IsReturn (HasDart lists) before own 2 3 4 1 = record { edge = has 4 1 refl; higher = omega arith; above = record { depths = omega arith; line = refl }; under = record { depths = omega arith; line = refl }; branch = inr (λ e. omega arith, refl); away = λ e. omega arith } in
    let to_none : IsReturn (HasDart lists) before own 3 0 3 0 = record { edge = has 3 0 refl; higher = omega arith; above = record { depths = omega arith; line = refl }; under = record { depths = omega arith; line = refl }; branch = inl (refl, refl); away = λ e. omega arith } in
    let to_one : IsReturn (HasDart lists) before own 3 1 3 1 = record { edge = has 3 1 refl; higher = omega arith; above = record { depths = omega arith; line = refl }; under = record { depths = omega arith; line = refl }; branch = inl (refl, refl); away = λ e. omega arith } in
    let last_to_none : IsReturn (HasDart lists) before own 3 4 4 0 = record { edge = has 4 0 refl; higher = omega arith; above = record { depths = omega arith; line = refl }; under = record { depths = omega arith; line = refl }; branch = inr (λ e. omega arith, refl); away = λ e. omega arith } in
    let last_to_one : IsReturn (HasDart lists) before own 3 4 4 1 = record { edge = has 4 1 refl; higher = omega arith; above = record { depths = omega arith; line = refl }; under = record { depths = omega arith; line = refl }; branch = inr (λ e. omega arith, refl); away = λ e. omega arith } in
    let last_to_two : IsReturn (HasDart lists) before own 3 4 4 2 = record { edge = has 4 2 refl; higher = omega arith; above = record { depths = omega arith; line = refl }; under = record { depths = omega arith; line = refl }; branch = inr (λ e. omega arith, refl); away = λ e. omega arith } in
    let one = found.1 3 1 4 (λ e. omega arith) in
    let two = found.1 3 0 4 (λ e. omega arith) in
    let low = found.1 2 0 3 (λ e. omega arith) in
    let b = (one.1 3 1 4 2 to_one last_to_two).1 (omega arith) in
    let c = (two.1 3 0 4 1 to_none last_to_one).1 (omega arith) in
    let d = (two.1 3 0 4 2 to_none last_to_two).1 (omega arith) in
    let e = (low.1 2 0 3 1 from_two from_three_by_two).1 (omega arith) in
    let f = (low.1 2 0 4 1 from_two from_four_by_two).1 (omega arith) in
    no_fixed_bit one.0 (sym ((one.1 3 1 4 0 to_one last_to_none).0 (omega arith)) ∙ (e ∙ (sym f ∙ (c ∙ (sym d ∙ b)))))

-- the law of partitions for a forest that is not depth-first
any_forest : ((n : ℕ) (joined : ℕ → ℕ → Bool) (parent depth : ℕ → ℕ) (left : ℕ → ℕ → Bool) → 0 < n → ((u v : ℕ) → joined u v ≡ true → u < n) → ((u v : ℕ) → joined u v ≡ true → joined v u ≡ true) → ((v : ℕ) → joined v v ≡ false) → IsForest (IsEdge joined) parent depth → IsLeftRight (IsEdge joined) parent depth left → (lists : Lists) × IsMapOfEdges n joined lists) → ⊥
any_forest wrong =
    let found = wrong 5 joined_five star_parent star_depth (λ t w. true) (omega arith) (λ u v t. (five_so u v t).0) five_back (λ v. false_from_ne_true (joined_five v v) (λ t. (five_so v v t).1.1 refl)) star_forest (λ v e f apart. (true, λ t w s z one two. absurd (star_returns v e t w one))) in
    no_map_of_five found.0 found.1

-- ---- K4 in a map of genus one, on a line from 0 to 3: the edge between 3 and 1 crosses that between 2 and 0
abbrev crossed : Lists
crossed = (1 ∷ 2 ∷ 3 ∷ []) ∷ (2 ∷ 3 ∷ 0 ∷ []) ∷ (3 ∷ 0 ∷ 1 ∷ []) ∷ (0 ∷ 1 ∷ 2 ∷ []) ∷ []

abbrev high : ℕ → ℕ
high v = get_or (0 ∷ 1 ∷ 2 ∷ 3 ∷ []) v 0

abbrev around : ℕ → List ℕ
around v = get_or ((1 ∷ 2 ∷ 3 ∷ []) ∷ (2 ∷ 3 ∷ []) ∷ (3 ∷ 0 ∷ []) ∷ (0 ∷ 1 ∷ []) ∷ []) v []

abbrev three_word : List Dart
three_word = (3, 0) ∷ (3, 1) ∷ []

abbrev two_word : List Dart
two_word = (2, 3) ∷ (3, 0) ∷ (3, 1) ∷ (3, 2) ∷ (2, 0) ∷ []

abbrev one_word : List Dart
one_word = (1, 2) ∷ (2, 3) ∷ (3, 0) ∷ (3, 1) ∷ (3, 2) ∷ (2, 0) ∷ (2, 1) ∷ (1, 3) ∷ []

abbrev none_word : List Dart
none_word = (0, 1) ∷ (1, 2) ∷ (2, 3) ∷ (3, 0) ∷ (3, 1) ∷ (3, 2) ∷ (2, 0) ∷ (2, 1) ∷ (1, 3) ∷ (1, 0) ∷ (0, 2) ∷ (0, 3) ∷ []

abbrev through : ℕ → List Dart
through v = get_or (none_word ∷ one_word ∷ two_word ∷ three_word ∷ []) v []

each_of_four : (P : ℕ → Type 0) → P 0 → P 1 → P 2 → P 3 → (v : ℕ) → v < 4 → P v
each_of_four P a b c d x5 l = grind arith

crossed_simple : IsSimpleMap crossed
unfolding first_fault
crossed_simple = IsSimpleMap-from_first_fault crossed (omega arith) refl

crossed_rooted : IsRootedMap crossed before high 0 around through
crossed_rooted = grind (arith, crossed_simple, each_of_four, high, before, list_of, crossed, around, through, joined, tour_at, is_child)

not_plane : ¬ IsPlane crossed
unfolding entry_after merge face_count component_count
not_plane e = omega (arith, e)

-- the law of brackets for words of any kind
any_word : ((lists : Lists) (parent depth : ℕ → ℕ) (root : ℕ) (entries : ℕ → List ℕ) (words : ℕ → List Dart) → IsRootedMap lists parent depth root entries words → 0 < dart_count lists → IsPlane lists) → ⊥
any_word wrong = not_plane (wrong crossed before high 0 around through crossed_rooted (omega arith))
