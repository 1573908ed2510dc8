-- Isolated vertices, one list at a time.
use Rattle.std.proofs.Common.{◌≡◌, ℕ, ◌+◌, ◌<◌, ◌≤◌, true, cond, eqb, eq-eqb, List, [], ◌∷◌, length, take, ap, ◌∙◌, arith}
use Rattle.std.proofs.lemmas.List.{take_more}
use Rattle.std.proofs.lemmas.List.Sums.{sum_by-append}
use Rattle.map_lists.specs.Lists.{Lists}
use Rattle.classes.specs.Classes.{label, class_count}
use Rattle.classes.proofs.Classes.{IsLabels}
use Rattle.classes.proofs.Counting.{count_below_into}
use Rattle.classes.proofs.Bound.{length-joint}
use Rattle.map_theory.specs.Maps.{IsSimpleMap, dart_count, list_of, is_empty_list, isolated_count, component_count}
use Rattle.map_theory.proofs.DartPermutations.{rotation, twin, IsPermuting-rotation, IsPairing-twin, dart_classes, IsLabels-dart_classes, component_count-classes}

-- one vertex more
pub isolated_count_more : (lists : Lists) (v : ℕ) → v < length lists → isolated_count (take (v + 1) lists) ≡ isolated_count (take v lists) + cond (is_empty_list (list_of lists v)) 1 0
isolated_count_more lists v l =
    ap isolated_count (take_more lists v [] l) ∙ sum_by-append (λ (us : List ℕ). cond (is_empty_list us) 1 0) (take v lists) (list_of lists v ∷ []) ∙ (omega arith)

-- a vertex without neighbours
pub isolated_count_empty : (lists : Lists) (v : ℕ) → v < length lists → list_of lists v ≡ [] → isolated_count (take (v + 1) lists) ≡ isolated_count (take v lists) + 1
isolated_count_empty lists v l e = isolated_count_more lists v l ∙ ap (λ (us : List ℕ). isolated_count (take v lists) + cond (is_empty_list us) 1 0) e

-- a vertex with neighbours
pub isolated_count_some : (lists : Lists) (v : ℕ) → v < length lists → 0 < length (list_of lists v) → isolated_count (take (v + 1) lists) ≡ isolated_count (take v lists)
isolated_count_some lists v l some = isolated_count_more lists v l ∙ by_list (list_of lists v) some
  where
    by_list : (us : List ℕ) → 0 < length us → isolated_count (take v lists) + cond (is_empty_list us) 1 0 ≡ isolated_count (take v lists)
    by_list [] some = absurd (omega arith)
    by_list (u ∷ us) some = omega arith

-- labels of at least one number have a class
some_class : (labels : List ℕ) → IsLabels labels → 0 < length labels → 1 ≤ class_count labels
some_class labels w some =
    count_below_into (λ i. 0) (λ i. true) (λ i. eqb (label labels i) i) 1 (length labels) (λ i l t. (omega arith, eq-eqb (label labels 0) 0 (omega arith))) (λ i j l m t u e. omega arith)

-- where a map with an edge has one component, no vertex is isolated
pub none_isolated : (lists : Lists) → IsSimpleMap lists → component_count lists ≡ 1 → 0 < dart_count lists → isolated_count lists ≡ 0
none_isolated lists simple one some =
    let long = length-joint (rotation lists) (twin lists) (dart_count lists) (IsPermuting-rotation lists simple).within (IsPairing-twin lists simple).within in
    omega (arith, some_class (dart_classes lists simple) (IsLabels-dart_classes lists simple) (omega arith), component_count-classes lists simple)
