-- Counts of faces and of components by marks on darts.
use Rattle.std.proofs.Common.{◌≡◌, ℕ, ◌<◌, ◌≤◌, Bool, true, eqb, List, length, sym, ap, ◌∙◌, arith}
use Rattle.std.proofs.lemmas.Bool.{eqb-true, eq-eqb}
use Rattle.classes.specs.Classes.{count_below, label, class_count}
use Rattle.classes.proofs.Counting.{count_below_into}
use Rattle.classes.proofs.Classes.{Together, IsLabels, label-lt, Together-from}
use Rattle.classes.proofs.Orbits.{orbits_of, length-orbits_of, IsLabels-orbits_of, orbits_of-marked}
use Rattle.classes.proofs.Bound.{after, length-joint, IsPermuting-pairing, IsPermuting-after}
use Rattle.map_lists.specs.Lists.{Lists}
use Rattle.map_theory.specs.Maps.{Dart, HasDart, IsSimpleMap, dart_number, dart_count, face_step, component_classes, face_count, isolated_count, component_count, IsPlane, vertex_count, edge_count, SameComponent}
use Rattle.map_theory.proofs.DartLemmas.{dart_number-lt, get_or-dart_number}
use Rattle.map_theory.proofs.DartPermutations.{dart_of, tail_of, dart_of-number, rotation, twin, IsPermuting-rotation, IsPairing-twin, face_count-orbits, dart_classes, class_of_component, component_count-classes, euler_bound_map}
use Rattle.plane_laws.proofs.DartPaths.{dart_of-face_step}
use Rattle.std.specs.Prelude.{◌+◌, ◌*◌}

-- the mark is one along each face step
abbrev pub KeepsFaces : Lists → (Dart → ℕ) → Type 0
KeepsFaces lists mark = (u v : ℕ) → HasDart lists u v → mark (face_step lists (u, v)) ≡ mark (u, v)

-- each number below the bound that passes the test is the mark of a dart
pub record HasMarks (lists : Lists) (mark : Dart → ℕ) (bound : ℕ) (test : ℕ → Bool) : Type 0 where
  pub pick : ℕ → Dart
  pub darts : (j : ℕ) → j < bound → test j ≡ true → HasDart lists (pick j).0 (pick j).1
  pub marked : (j : ℕ) → j < bound → test j ≡ true → mark (pick j) ≡ j

-- each dart's mark is below the bound and passes the test, and two darts with one mark leave vertices of one component
pub record JoinsMarked (lists : Lists) (mark : Dart → ℕ) (bound : ℕ) (test : ℕ → Bool) : Type 0 where
  pub within : (u v : ℕ) → HasDart lists u v → mark (u, v) < bound
  pub passes : (u v : ℕ) → HasDart lists u v → test (mark (u, v)) ≡ true
  pub joined : (u v x y : ℕ) → HasDart lists u v → HasDart lists x y → mark (u, v) ≡ mark (x, y) → SameComponent lists u x

-- numbers that pass go to different classes: there are as many classes at least
pub classes_many : (labels : List ℕ) → IsLabels labels → (bound : ℕ) (test : ℕ → Bool) (to : ℕ → ℕ) → ((j : ℕ) → j < bound → test j ≡ true → to j < length labels) → ((i j : ℕ) → i < bound → j < bound → test i ≡ true → test j ≡ true → Together labels (to i) (to j) → i ≡ j) → count_below test bound ≤ class_count labels
classes_many labels w bound test to within apart =
    count_below_into (λ j. label labels (to j)) test (λ i. eqb (label labels i) i) bound (length labels)
    (λ j l t. (label-lt labels w (to j) (within j l t), eq-eqb (label labels (label labels (to j))) (label labels (to j)) (w.own (to j))))
    apart

-- classes go to different numbers that pass: there are as many numbers at least
pub classes_few : (labels : List ℕ) (bound : ℕ) (test : ℕ → Bool) (mark : ℕ → ℕ) → ((i : ℕ) → i < length labels → (mark i < bound) × (test (mark i) ≡ true)) → ((i j : ℕ) → i < length labels → j < length labels → mark i ≡ mark j → Together labels i j) → class_count labels ≤ count_below test bound
classes_few labels bound test mark into joined =
    count_below_into mark (λ i. eqb (label labels i) i) test (length labels) bound (λ i l t. into i l)
    (λ i j l m t s e. sym (eqb-true (label labels i) i t) ∙ (joined i j l m e ∙ eqb-true (label labels j) j s))

module _ (lists : Lists) (simple : IsSimpleMap lists) where
  abbrev pub face_orbits : List ℕ
  face_orbits = orbits_of (after (rotation lists) (twin lists)) (dart_count lists)

  pub IsLabels-face_orbits : IsLabels face_orbits
  IsLabels-face_orbits =
      IsLabels-orbits_of (after (rotation lists) (twin lists)) (dart_count lists) (IsPermuting-after (rotation lists) (twin lists) (dart_count lists) (IsPermuting-rotation lists simple) (IsPermuting-pairing (twin lists) (dart_count lists) (IsPairing-twin lists simple))).within

  -- marks that are one along each face step are one on each face
  pub face_marked : {X : Type 0} (mark : Dart → X) → ((u v : ℕ) → HasDart lists u v → mark (face_step lists (u, v)) ≡ mark (u, v)) → (i j : ℕ) → i < dart_count lists → j < dart_count lists → Together face_orbits i j → mark (dart_of lists i) ≡ mark (dart_of lists j)
  face_marked mark keeps =
      orbits_of-marked (λ i. mark (dart_of lists i)) (after (rotation lists) (twin lists)) (dart_count lists) (IsPermuting-after (rotation lists) (twin lists) (dart_count lists) (IsPermuting-rotation lists simple) (IsPermuting-pairing (twin lists) (dart_count lists) (IsPairing-twin lists simple))).within
      (λ i l. sym (ap mark (dart_of-face_step lists simple i l) ∙ keeps (dart_of lists i).0 (dart_of lists i).1 (dart_of-number lists simple i l).is_dart))

  faces_many : (mark : Dart → ℕ) (bound : ℕ) (test : ℕ → Bool) → KeepsFaces lists mark → HasMarks lists mark bound test → count_below test bound ≤ class_count face_orbits
  faces_many mark bound test keeps has =
      let n = length-orbits_of (after (rotation lists) (twin lists)) (dart_count lists) in
      let to : ℕ → ℕ = λ j. dart_number lists (has.pick j) in
      let in_k : (j : ℕ) → j < bound → test j ≡ true → to j < dart_count lists = λ j l t. dart_number-lt lists (has.pick j).0 (has.pick j).1 (has.darts j l t) in
      let mark_is : (j : ℕ) → j < bound → test j ≡ true → mark (dart_of lists (to j)) ≡ j = λ j l t. ap mark (get_or-dart_number lists (has.pick j).0 (has.pick j).1 (0, 0) (has.darts j l t)) ∙ has.marked j l t in
      classes_many face_orbits IsLabels-face_orbits bound test to (λ j l t. let m = in_k j l t in omega arith)
      (λ i j l m t s e. sym (mark_is i l t) ∙ (face_marked mark keeps (to i) (to j) (in_k i l t) (in_k j m s) e ∙ mark_is j m s))

  components_few : (mark : Dart → ℕ) (bound : ℕ) (test : ℕ → Bool) → JoinsMarked lists mark bound test → class_count (dart_classes lists simple) ≤ count_below test bound
  components_few mark bound test joins =
      let n : length (dart_classes lists simple) ≡ dart_count lists = length-joint (rotation lists) (twin lists) (dart_count lists) (IsPermuting-rotation lists simple).within (IsPairing-twin lists simple).within in
      let is_dart : (i : ℕ) → i < length (dart_classes lists simple) → HasDart lists (dart_of lists i).0 (dart_of lists i).1 = λ i l. (dart_of-number lists simple i (omega arith)).is_dart in
      classes_few (dart_classes lists simple) bound test (λ i. mark (dart_of lists i))
      (λ i l. (joins.within (dart_of lists i).0 (dart_of lists i).1 (is_dart i l), joins.passes (dart_of lists i).0 (dart_of lists i).1 (is_dart i l)))
      (λ i j l m e.
      class_of_component lists simple i j (omega arith) (omega arith)
      (Together-from (component_classes lists) (tail_of lists i) (tail_of lists j) (joins.joined (dart_of lists i).0 (dart_of lists i).1 (dart_of lists j).0 (dart_of lists j).1 (is_dart i l) (is_dart j m) e)))

-- Where marks are one along each face, there are at least as many faces as marks, and one for each isolated vertex.
pub faces_by_marks : (lists : Lists) (mark : Dart → ℕ) (bound : ℕ) (test : ℕ → Bool) → IsSimpleMap lists → KeepsFaces lists mark → HasMarks lists mark bound test → count_below test bound + isolated_count lists ≤ face_count lists
faces_by_marks lists mark bound test simple keeps has =
    omega (arith, faces_many lists simple mark bound test keeps has, face_count-orbits lists simple)

-- Where darts with one mark are joined, there are at most as many components as marks, and one for each isolated vertex.
pub components_by_marks : (lists : Lists) (mark : Dart → ℕ) (bound : ℕ) (test : ℕ → Bool) → IsSimpleMap lists → JoinsMarked lists mark bound test → component_count lists ≤ count_below test bound + isolated_count lists
components_by_marks lists mark bound test simple joins =
    omega (arith, components_few lists simple mark bound test joins, component_count-classes lists simple)

-- A map has genus zero where its marks give faces enough.
pub genus_by_marks : (lists : Lists) (mark : Dart → ℕ) (bound : ℕ) (test : ℕ → Bool) → IsSimpleMap lists → KeepsFaces lists mark → HasMarks lists mark bound test → 2 * component_count lists + edge_count lists ≤ vertex_count lists + (count_below test bound + isolated_count lists) → IsPlane lists
genus_by_marks lists mark bound test simple keeps has enough =
    omega (arith, faces_by_marks lists mark bound test simple keeps has, (euler_bound_map lists simple).1)
