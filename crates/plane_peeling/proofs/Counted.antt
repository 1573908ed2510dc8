-- The kept vertices, counted; and marks in connected maps.
use Rattle.std.proofs.Common.{◌≡◌, ◌≢◌, ℕ, ◌<◌, ◌≤◌, Bool, true, List, length, get_or, AllPairs, Contains, refl, sym, ap, ◌∙◌, inl, inr, arith, ◌==◌}
use Rattle.std.specs.List.{list_any}
use Rattle.std.proofs.lemmas.Bool.{cases_Bool, true≢false, false_from_ne_true}
use Rattle.std.proofs.lemmas.List.Elements.{Contains-get_or}
use Rattle.classes.specs.Classes.{count_below}
use Rattle.classes.proofs.Counting.{count_below_into, count_below_all, count_below_weaker}
use Rattle.classes.proofs.Classes.{length-classes}
use Rattle.map_lists.specs.Lists.{Lists}
use Rattle.map_theory.specs.Maps.{HasDart, IsSimpleMap, component_count, component_classes, darts, place_of}
use Rattle.map_theory.proofs.EntryLemmas.{Contains-from_list_any, list_any-from_Contains}
use Rattle.map_theory.proofs.DartLemmas.{place_of-lt-length, get_or-place_of, place_of-get_or}
use Rattle.map_theory.proofs.DartPermutations.{dart_of, dart_of-number, dart_of-twin, components-marked, IsLabels-components}
use Rattle.plane_laws.proofs.EdgeBound.{one_class}

-- a list has at least as many entries as numbers
pub count_below-list : (ws : List ℕ) (n : ℕ) → count_below (λ u. list_any (λ w. w == u) ws) n ≤ length ws
count_below-list ws n =
    let on : ℕ → Bool = λ u. list_any (λ w. w == u) ws in
    let has : (u : ℕ) → on u ≡ true → place_of u ws < length ws = λ u t. place_of-lt-length u ws (Contains-from_list_any u ws t) in
    let into = count_below_into (λ u. place_of u ws) on (λ i. true) n (length ws) (λ i l t. (has i t, refl))
    (λ i j l m t t' e. sym (get_or-place_of i ws 0 (has i t)) ∙ (ap (λ k. get_or ws k 0) e ∙ get_or-place_of j ws 0 (has j t'))) in
    omega (arith, count_below_all (length ws))

-- so numbers that stand in it are no more
pub count_below-within : (p : ℕ → Bool) (ws : List ℕ) (n : ℕ) → ((u : ℕ) → u < n → p u ≡ true → Contains ws u) → count_below p n ≤ length ws
count_below-within p ws n within =
    let list = count_below-list ws n in
    omega (arith, count_below_weaker p (λ u. list_any (λ w. w == u) ws) n (λ u l t. list_any-from_Contains u ws (within u l t)))

-- and numbers without repeats are as many as their list has entries
pub list-count_below : (ws : List ℕ) (n : ℕ) → AllPairs ◌≢◌ ws → ((u : ℕ) → Contains ws u → u < n) → length ws ≤ count_below (λ u. list_any (λ w. w == u) ws) n
list-count_below ws n distinct within =
    let at : (i : ℕ) → i < length ws → Contains ws (get_or ws i 0) = λ i l. Contains-get_or ws i 0 l in
    let into = count_below_into (λ i. get_or ws i 0) (λ i. true) (λ u. list_any (λ w. w == u) ws) (length ws) n
    (λ i l t. (within (get_or ws i 0) (at i l), list_any-from_Contains (get_or ws i 0) ws (at i l)))
    (λ i j l m t t' e. sym (place_of-get_or ws i 0 distinct l) ∙ (ap (λ z. place_of z ws) e ∙ place_of-get_or ws j 0 distinct m)) in
    omega (arith, count_below_all (length ws))

-- in a connected map marks that go over to neighbours are everywhere
pub marks_everywhere : (lists : Lists) → IsSimpleMap lists → component_count lists ≡ 1 → (mark : ℕ → Bool) → ((x u : ℕ) → HasDart lists x u → mark x ≡ true → mark u ≡ true) → (v u : ℕ) → v < length lists → u < length lists → mark v ≡ true → mark u ≡ true
unfolding component_count
marks_everywhere lists simple one mark over v u in_v in_u marked =
    let size = length-classes (length lists) (darts lists) in
    let together = one_class (component_classes lists) (IsLabels-components lists simple) (omega (arith, one)) v u (omega arith) (omega arith) in
    let same : (x y : ℕ) → HasDart lists x y → mark x ≡ mark y = λ x y d.
    elim (cases_Bool (mark x)) [
      | inl t ↦ t ∙ sym (over x y d t)
      | inr f ↦ f ∙ sym (false_from_ne_true (mark y) (λ t. true≢false (sym (over y x (simple.both_ways x y d) t) ∙ f)))
    ] in
    sym (components-marked lists simple mark (λ i l.
    let d = dart_of lists i in
    same d.0 d.1 (dart_of-number lists simple i l).is_dart ∙ ap (λ c. mark c.0) (sym (dart_of-twin lists simple i l))) v u in_v in_u together) ∙ marked
