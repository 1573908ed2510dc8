-- The darts of a simple map, by their numbers: the rotation and the twin as two permutations, whose orbits are the vertices that have an edge and the edges; the rotation after the twin is the face step; and their classes together are the components that have an edge.
use Rattle.std.proofs.Common.{◌≡◌, ℕ, zero, suc, ◌+◌, ◌*◌, ◌<◌, Bool, true, false, not, ◌&&◌, eqb, List, [], ◌∷◌, length, get_or, count_by, refl, sym, ap, ap₂, ◌∙◌, subst, inl, inr, arith, lt-ltb, eq-eqb, ne_eqb, eqb-true, ltb, cond}
use Rattle.std.proofs.lemmas.Bool.{cases_Bool, cond-true, false≢true}
use Rattle.std.proofs.lemmas.List.{get_or_default}
use Rattle.std.proofs.lemmas.List.Sums.{sum_by-cons}
use Rattle.classes.specs.Classes.{count_below, label, image, class_count, alone}
use Rattle.map_lists.specs.Lists.{Lists}
use Rattle.map_theory.specs.Maps.{Dart, twin_dart, list_of, HasDart, IsSimpleMap, darts, place_of, follows, darts_before, dart_number, face_images, vertex_count, dart_count, edge_count, is_empty_list, isolated_count, face_count, component_count, face_classes, component_classes}
use Rattle.classes.proofs.Counting.{count_below_all, count_below_same}
use Rattle.classes.proofs.Classes.{Together, IsLabels, PairsBelow, IsLabels-alone, length-alone, label-alone, Together-label, length-classes, IsLabels-classes, classes-holds, classes-marked}
use Rattle.classes.proofs.Orbits.{orbits_of, length-orbits_of, IsLabels-orbits_of, orbits_of-step, orbits_of-marked, orbits-image, IsPermuting}
use Rattle.classes.proofs.Swap.{orbits_of-same}
use Rattle.classes.proofs.Bound.{joint, length-joint, IsLabels-joint, joint-orbit, joint-second, joint-marked, IsPairing, after, Balances, euler_bound}
use Rattle.map_theory.proofs.Transfer.{IsTransfer, class_count-transfer}
use Rattle.map_theory.proofs.DartLemmas.{length-darts, darts_before_end, dart_at_place, place_of-get_or, place_of-lt-length, place_after, place_of-entry_after, entry_after-injective, dart_number-lt, get_or-dart_number, dart_number-injective, HasDart-at, IsDartNumber, IsDartNumber-darts, HasDart-follows, length-face_images, get_or-face_images, IsPermutationOfBelow-face_images}
use Rattle.map_theory.proofs.DartCounts.{dart_count-edge_count}

-- the dart of a number
abbrev pub dart_of : Lists → ℕ → Dart
dart_of lists i = get_or (darts lists) i (0, 0)

-- the vertex that the dart of a number leaves
abbrev pub tail_of : Lists → ℕ → ℕ
tail_of lists i = (dart_of lists i).0

-- the next dart from the same vertex
abbrev pub turned_dart : Lists → Dart → Dart
turned_dart lists d = (d.0, follows lists d.0 d.1)

-- the rotation and the twin, by numbers
abbrev pub rotation : Lists → ℕ → ℕ
rotation lists i = dart_number lists (turned_dart lists (dart_of lists i))

abbrev pub twin : Lists → ℕ → ℕ
twin lists i = dart_number lists (twin_dart (dart_of lists i))

-- whether a vertex has an edge
abbrev pub has_edge : Lists → ℕ → Bool
has_edge lists v = not (is_empty_list (list_of lists v))

has_entry : (us : List ℕ) → 0 < length us → not (is_empty_list us) ≡ true
has_entry [] h = absurd (omega arith)
has_entry (u ∷ us) h = refl

some_entry : (us : List ℕ) → not (is_empty_list us) ≡ true → 0 < length us
some_entry [] h = absurd (false≢true h)
some_entry (u ∷ us) h = omega arith

count_below-front : (p : ℕ → Bool) (n : ℕ) → count_below p (suc n) ≡ cond (p 0) 1 0 + count_below (λ i. p (suc i)) n
count_below-front p zero = omega arith
count_below-front p (suc n) = omega (arith, count_below-front p n)

-- a count over a list is a count of its places
pub count_by-count_below : {X : Type 0} (p : X → Bool) (xs : List X) (d : X) → count_by p xs ≡ count_below (λ i. p (get_or xs i d)) (length xs)
count_by-count_below p [] d = refl
count_by-count_below p (x ∷ xs) d =
    sum_by-cons (λ y. cond (p y) 1 0) x xs ∙ omega (arith, count_by-count_below p xs d, count_below-front (λ i. p (get_or (x ∷ xs) i d)) (length xs))

not_edge : (x y : Bool) → y ≡ true → (not (not x) && y) ≡ x
not_edge true y e = e
not_edge false y e = refl

module _ (lists : Lists) (simple : IsSimpleMap lists) where
  -- each number below the count is that of its dart
  pub dart_of-number : (i : ℕ) → i < dart_count lists → IsDartNumber lists i (dart_of lists i)
  dart_of-number i l = IsDartNumber-darts lists i (0, 0) simple.no_repeat l

  pub twin_is_dart : (d : Dart) → HasDart lists d.0 d.1 → HasDart lists d.1 d.0
  twin_is_dart d h = simple.both_ways d.0 d.1 h

  pub dart_of-twin : (i : ℕ) → i < dart_count lists → dart_of lists (twin lists i) ≡ twin_dart (dart_of lists i)
  dart_of-twin i l =
      let d = dart_of lists i in
      get_or-dart_number lists d.1 d.0 (0, 0) (twin_is_dart d (dart_of-number i l).is_dart)

  pub dart_of-rotation : (i : ℕ) → i < dart_count lists → dart_of lists (rotation lists i) ≡ turned_dart lists (dart_of lists i)
  dart_of-rotation i l =
      let d = dart_of lists i in
      get_or-dart_number lists d.0 (follows lists d.0 d.1) (0, 0) (HasDart-follows lists d.0 d.1 (dart_of-number i l).is_dart)

  -- the rotation is a bijection of the numbers of the darts
  pub IsPermuting-rotation : IsPermuting (rotation lists) (dart_count lists)
  IsPermuting-rotation =
      record {
        within = λ i l. let d = dart_of lists i in dart_number-lt lists d.0 (follows lists d.0 d.1) (HasDart-follows lists d.0 d.1 (dart_of-number i l).is_dart);
        apart = λ i j l m e.
            let d = dart_of lists i in
            let c = dart_of lists j in
            let p = dart_of-number i l in
            let q = dart_of-number j m in
            let same = dart_number-injective lists (turned_dart lists d) (turned_dart lists c) (HasDart-follows lists d.0 d.1 p.is_dart) (HasDart-follows lists c.0 c.1 q.is_dart) e in
            let tails : d.0 ≡ c.0 = ap (λ x. x.0) same in
            let nexts : follows lists d.0 d.1 ≡ follows lists d.0 c.1 = ap (λ x. x.1) same ∙ ap (λ x. follows lists x c.1) (sym tails) in
            let other : HasDart lists d.0 c.1 = rw tails q.is_dart in
            let heads = entry_after-injective (list_of lists d.0) d.1 c.1 (simple.no_repeat d.0 p.is_dart.0) p.is_dart.1 other.1 nexts in
            sym p.number ∙ (ap₂ (λ x y. dart_number lists (x, y)) tails heads ∙ q.number);
      }

  -- the twin pairs them
  pub IsPairing-twin : IsPairing (twin lists) (dart_count lists)
  IsPairing-twin =
      record {
        within = λ i l. let d = dart_of lists i in dart_number-lt lists d.1 d.0 (twin_is_dart d (dart_of-number i l).is_dart);
        back = λ i l. ap (λ d. dart_number lists (twin_dart d)) (dart_of-twin i l) ∙ (dart_of-number i l).number;
        other = λ i l e.
            let d = dart_of lists i in
            let p = dart_of-number i l in
            let same = dart_number-injective lists (twin_dart d) d (twin_is_dart d p.is_dart) p.is_dart (e ∙ sym p.number) in
            simple.no_loop d.0 d.1 p.is_dart (ap (λ x. x.0) same);
      }

  -- the rotation after the twin is the face step
  pub face_images-after : (i : ℕ) → i < dart_count lists → image (face_images lists) i ≡ after (rotation lists) (twin lists) i
  face_images-after i l =
      get_or-face_images lists i i (0, 0) l ∙ ap (λ d. dart_number lists (turned_dart lists d)) (sym (dart_of-twin i l))

  pub orbits-face_images : face_classes lists ≡ orbits_of (after (rotation lists) (twin lists)) (dart_count lists)
  orbits-face_images =
      let n = length-face_images lists in
      orbits-image (face_images lists) (IsPermutationOfBelow-face_images lists simple).within
      ∙ (ap (orbits_of (image (face_images lists))) n ∙ orbits_of-same (image (face_images lists)) (after (rotation lists) (twin lists)) (dart_count lists) face_images-after)

  -- ---- vertices
  -- entry k of v's list, by its number
  pub dart_at : (v n : ℕ) → v < length lists → n < length (list_of lists v) → dart_of lists (darts_before lists v + n) ≡ (v, get_or (list_of lists v) n 0)
  dart_at v n l m = dart_at_place lists v n (0, 0) 0 l m

  -- the rotation goes on to the next entry
  pub rotation_at : (v n : ℕ) → v < length lists → suc n < length (list_of lists v) → rotation lists (darts_before lists v + n) ≡ darts_before lists v + suc n
  rotation_at v n l m =
      let us = list_of lists v in
      let e = ap (λ d. dart_number lists (turned_dart lists d)) (dart_at v n l (omega arith)) in
      let distinct = simple.no_repeat v l in
      let place = place_of-entry_after (get_or us n 0) us distinct (HasDart-at lists v n 0 l (omega arith)).1 in
      let next : place_after (length us) n ≡ suc n = cond-true (ltb (n + 1) (length us)) (n + 1) 0 (lt-ltb (n + 1) (length us) (omega arith)) ∙ omega arith in
      e ∙ ap (λ y. darts_before lists v + y) (place ∙ (ap (place_after (length us)) (place_of-get_or us n 0 distinct (omega arith)) ∙ next))

  -- the darts of a vertex lie in one orbit of the rotation, with its first
  pub vertex_together : (v n : ℕ) → v < length lists → n < length (list_of lists v) → Together (orbits_of (rotation lists) (dart_count lists)) (darts_before lists v) (darts_before lists v + n)
  vertex_together v zero l m = let z : darts_before lists v ≡ darts_before lists v + 0 = omega arith in ap (label (orbits_of (rotation lists) (dart_count lists))) z
  vertex_together v (suc n) l m =
      let end = darts_before_end lists v in
      let step = orbits_of-step (rotation lists) (dart_count lists) IsPermuting-rotation.within (darts_before lists v + n) (omega arith) in
      vertex_together v n l (omega arith) ∙ (step ∙ ap (label (orbits_of (rotation lists) (dart_count lists))) (rotation_at v n l m))

  -- the rotation keeps the vertex that a dart leaves
  pub tail_of-rotation : (i : ℕ) → i < dart_count lists → tail_of lists (rotation lists i) ≡ tail_of lists i
  tail_of-rotation i l = ap (λ d. d.0) (dart_of-rotation i l)

  -- a dart lies in one orbit with the first dart of its vertex
  pub first_together : (i : ℕ) → i < dart_count lists → Together (orbits_of (rotation lists) (dart_count lists)) i (darts_before lists (tail_of lists i))
  first_together i l = grind (arith, dart_of, dart_of-number, place_of, list_of, place_of-lt-length, label, orbits_of, rotation, dart_count, vertex_together)

  -- the first dart of a vertex that has an edge
  pub first_in : (v : ℕ) → has_edge lists v ≡ true → darts_before lists v < dart_count lists
  first_in v e = omega (arith, darts_before_end lists v, some_entry (list_of lists v) e)

  pub tail_of-first : (v : ℕ) → v < length lists → has_edge lists v ≡ true → tail_of lists (darts_before lists v) ≡ v
  tail_of-first v l e =
      let z : darts_before lists v ≡ darts_before lists v + 0 = omega arith in
      ap (tail_of lists) z ∙ ap (λ d. d.0) (dart_at v 0 l (some_entry (list_of lists v) e))

  -- the vertex of a dart has an edge
  pub has_edge-tail : (i : ℕ) → i < dart_count lists → has_edge lists (tail_of lists i) ≡ true
  has_edge-tail i l =
      has_entry (list_of lists (tail_of lists i)) (omega (arith, ((dart_of-number i l).is_dart.1).1))

  -- two darts lie in one orbit of the rotation exactly where they leave one vertex
  pub same_vertex : (i j : ℕ) → i < dart_count lists → j < dart_count lists → Together (orbits_of (rotation lists) (dart_count lists)) i j → tail_of lists i ≡ tail_of lists j
  same_vertex = orbits_of-marked (tail_of lists) (rotation lists) (dart_count lists) IsPermuting-rotation.within (λ i l. sym (tail_of-rotation i l))

  pub same_orbit : (i j : ℕ) → i < dart_count lists → j < dart_count lists → tail_of lists i ≡ tail_of lists j → Together (orbits_of (rotation lists) (dart_count lists)) i j
  same_orbit i j l m e =
      first_together i l ∙ (ap (λ v. label (orbits_of (rotation lists) (dart_count lists)) (darts_before lists v)) e ∙ sym (first_together j m))

  -- isolated vertices, counted by their numbers
  isolated_below : isolated_count lists ≡ count_below (λ v. is_empty_list (list_of lists v)) (length lists)
  isolated_below = count_by-count_below is_empty_list lists []

  -- n is the number of orbits of the rotation and of isolated vertices
  pub vertex_count-orbits : vertex_count lists ≡ class_count (orbits_of (rotation lists) (dart_count lists)) + isolated_count lists
  vertex_count-orbits =
      let k = dart_count lists in
      let n = length lists in
      let O = orbits_of (rotation lists) k in
      let A = alone n in
      let on = length-orbits_of (rotation lists) k in
      let an = length-alone n in
      let transfer : IsTransfer O A (tail_of lists) (darts_before lists) (has_edge lists) = record {
        within = λ i l. omega (arith, (dart_of-number i (omega arith)).is_dart.0);
        there = λ i j l m t. label-alone n (tail_of lists i) ∙ (same_vertex i j (omega arith) (omega arith) t ∙ sym (label-alone n (tail_of lists j)));
        back = λ i j l m t. same_orbit i j (omega arith) (omega arith) (sym (label-alone n (tail_of lists i)) ∙ (t ∙ label-alone n (tail_of lists j)));
        hits = λ i y l m t. ap (has_edge lists) (sym (label-alone n y) ∙ (sym t ∙ label-alone n (tail_of lists i))) ∙ has_edge-tail i (omega arith);
        from = λ y l e. omega (arith, first_in y e);
        stands = λ y l e. label-alone n (tail_of lists (darts_before lists y)) ∙ (tail_of-first y (omega arith) e ∙ sym (label-alone n y));
      } in
      let count = class_count-transfer O A (tail_of lists) (darts_before lists) (has_edge lists) (IsLabels-orbits_of (rotation lists) k IsPermuting-rotation.within) (IsLabels-alone n) transfer in
      let own : (v : ℕ) → eqb (label A v) v ≡ true = λ v. eq-eqb (label A v) v (label-alone n v) in
      let all : class_count A ≡ n = count_below_same (λ v. eqb (label A v) v) (λ v. true) (length A) (λ v l. own v) ∙ (count_below_all (length A) ∙ an) in
      let rest : count_below (λ v. not (has_edge lists v) && eqb (label A v) v) (length A) ≡ count_below (λ v. is_empty_list (list_of lists v)) n =
      ap (count_below (λ v. not (has_edge lists v) && eqb (label A v) v)) an ∙ count_below_same (λ v. not (has_edge lists v) && eqb (label A v) v) (λ v. is_empty_list (list_of lists v)) n (λ v l. not_edge (is_empty_list (list_of lists v)) (eqb (label A v) v) (own v)) in
      omega (arith, count, all, rest, isolated_below)

  -- ---- components
  pub darts_below : PairsBelow (length lists) (darts lists)
  darts_below i d l =
      let m : i < dart_count lists = omega (arith, length-darts lists) in
      let p = IsDartNumber-darts lists i d simple.no_repeat m in
      (p.is_dart.0, simple.in_range (get_or (darts lists) i d).0 (get_or (darts lists) i d).1 p.is_dart)

  -- the classes of the vertices that the edges join
  abbrev pub components : List ℕ
  components = component_classes lists

  pub IsLabels-components : IsLabels components
  IsLabels-components = IsLabels-classes (length lists) (darts lists) darts_below

  -- the two ends of a dart are in one component
  pub ends_together : (i : ℕ) → i < dart_count lists → Together components (tail_of lists i) (tail_of lists (twin lists i))
  ends_together i l =
      classes-holds (length lists) (darts lists) darts_below i (0, 0) (omega (arith, length-darts lists)) ∙ ap (λ d. label components d.0) (sym (dart_of-twin i l))

  -- what the two ends of each dart have in common is one on each component
  pub components-marked : {X : Type 0} (mark : ℕ → X) → ((i : ℕ) → i < dart_count lists → mark (tail_of lists i) ≡ mark (tail_of lists (twin lists i))) → (u v : ℕ) → u < length lists → v < length lists → Together components u v → mark u ≡ mark v
  components-marked mark h =
      classes-marked mark (length lists) (darts lists) darts_below (λ i d l.
      let m : i < dart_count lists = omega (arith, length-darts lists) in
      rw (get_or_default (darts lists) i d (0, 0) l) (h i m ∙ ap (λ d. mark d.0) (dart_of-twin i m)))

  -- the classes of the rotation and the twin together
  abbrev pub dart_classes : List ℕ
  dart_classes = joint (rotation lists) (twin lists) (dart_count lists)

  pub IsLabels-dart_classes : IsLabels dart_classes
  IsLabels-dart_classes = IsLabels-joint (rotation lists) (twin lists) (dart_count lists) IsPermuting-rotation.within IsPairing-twin.within

  -- two darts are in one class exactly where their vertices are in one component
  pub component_of_class : (i j : ℕ) → i < dart_count lists → j < dart_count lists → Together dart_classes i j → Together components (tail_of lists i) (tail_of lists j)
  component_of_class =
      joint-marked (rotation lists) (twin lists) (dart_count lists) IsPermuting-rotation.within IsPairing-twin.within (λ i. label components (tail_of lists i))
      (λ i l. ap (label components) (sym (tail_of-rotation i l))) ends_together

  -- a dart is in one class with the first dart of its vertex
  pub first_in_class : (i : ℕ) → i < dart_count lists → Together dart_classes i (darts_before lists (tail_of lists i))
  first_in_class i l =
      joint-orbit (rotation lists) (twin lists) (dart_count lists) IsPermuting-rotation.within IsPairing-twin.within i (darts_before lists (tail_of lists i)) (first_together i l)

  pub class_of_component : (i j : ℕ) → i < dart_count lists → j < dart_count lists → Together components (tail_of lists i) (tail_of lists j) → Together dart_classes i j
  class_of_component i j l m t =
      let first = components-marked (λ v. label dart_classes (darts_before lists v)) (λ i l.
      let n = IsPairing-twin.within i l in
      sym (first_in_class i l) ∙ (joint-second (rotation lists) (twin lists) (dart_count lists) IsPermuting-rotation.within IsPairing-twin.within i l ∙ first_in_class (twin lists i) n)) in
      first_in_class i l ∙ (first (tail_of lists i) (tail_of lists j) (dart_of-number i l).is_dart.0 (dart_of-number j m).is_dart.0 t ∙ sym (first_in_class j m))

  -- the ends of an edge are in one component
  pub edge_together : (u v : ℕ) → HasDart lists u v → Together components u v
  edge_together u v h =
      let i = dart_number lists (u, v) in
      let at = get_or-dart_number lists u v (0, 0) h in
      let l = dart_number-lt lists u v h in
      ap (λ d. label components d.0) (sym at) ∙ (ends_together i l ∙ ap (λ d. label components d.0) (dart_of-twin i l ∙ ap twin_dart at))

  -- a vertex without an edge is a component of its own
  pub isolated_alone : (v : ℕ) → v < length lists → is_empty_list (list_of lists v) ≡ true → label components v ≡ v
  isolated_alone v l e =
      let other : (u : ℕ) → has_edge lists u ≡ true → eqb u v ≡ false = λ u h. ne_eqb u v (λ q. false≢true (sym (ap not (ap (λ x. is_empty_list (list_of lists x)) q ∙ e)) ∙ h)) in
      let w = IsLabels-components in
      let same = components-marked (λ u. eqb u v) (λ i m. other (tail_of lists i) (has_edge-tail i m) ∙ sym (other (tail_of lists (twin lists i)) (has_edge-tail (twin lists i) (IsPairing-twin.within i m)))) v (label components v) l (omega (arith, w.low v)) (Together-label components w v) in
      eqb-true (label components v) v (sym same ∙ eq-eqb v v refl)

  -- c is the number of classes of darts and of isolated vertices
  pub component_count-classes : component_count lists ≡ class_count dart_classes + isolated_count lists
  unfolding component_count
  component_count-classes =
      let n = length lists in
      let w = IsLabels-components in
      let jn = length-joint (rotation lists) (twin lists) (dart_count lists) IsPermuting-rotation.within IsPairing-twin.within in
      let cn = length-classes n (darts lists) in
      let edges = components-marked (has_edge lists) (λ i l. has_edge-tail i l ∙ sym (has_edge-tail (twin lists i) (IsPairing-twin.within i l))) in
      let transfer : IsTransfer dart_classes components (tail_of lists) (darts_before lists) (has_edge lists) = record {
        within = λ i l. omega (arith, (dart_of-number i (omega arith)).is_dart.0);
        there = λ i j l m t. component_of_class i j (omega arith) (omega arith) t;
        back = λ i j l m t. class_of_component i j (omega arith) (omega arith) t;
        hits = λ i y l m t. sym (edges (tail_of lists i) y (dart_of-number i (omega arith)).is_dart.0 (omega arith) t) ∙ has_edge-tail i (omega arith);
        from = λ y l e. omega (arith, first_in y e);
        stands = λ y l e. ap (label components) (tail_of-first y (omega arith) e);
      } in
      let count = class_count-transfer dart_classes components (tail_of lists) (darts_before lists) (has_edge lists) IsLabels-dart_classes w transfer in
      let rest : count_below (λ v. not (has_edge lists v) && eqb (label components v) v) (length components) ≡ count_below (λ v. is_empty_list (list_of lists v)) n =
      ap (count_below (λ v. not (has_edge lists v) && eqb (label components v) v)) cn ∙ count_below_same (λ v. not (has_edge lists v) && eqb (label components v) v) (λ v. is_empty_list (list_of lists v)) n (λ v l.
      elim (cases_Bool (is_empty_list (list_of lists v))) [
        | inl e ↦ not_edge (is_empty_list (list_of lists v)) (eqb (label components v) v) (eq-eqb (label components v) v (isolated_alone v l e))
        | inr e ↦ ap (λ b. not (not b) && eqb (label components v) v) e ∙ sym e
      ]) in
      omega (arith, count, rest, isolated_below)

  -- ---- the bound
  -- f is the number of orbits of the rotation after the twin and of isolated vertices
  pub face_count-orbits : face_count lists ≡ class_count (orbits_of (after (rotation lists) (twin lists)) (dart_count lists)) + isolated_count lists
  unfolding face_count
  face_count-orbits = ap (λ l. class_count l + isolated_count lists) orbits-face_images

  pub two_m : dart_count lists ≡ edge_count lists + edge_count lists
  two_m = omega (arith, dart_count-edge_count lists simple)

  -- what balances for the permutations balances for the map
  pub map_balances : (d : ℕ) → Balances (rotation lists) (twin lists) (dart_count lists) (edge_count lists) d → vertex_count lists + face_count lists + 2 * d ≡ 2 * component_count lists + edge_count lists
  map_balances d b = omega (arith, b, vertex_count-orbits, face_count-orbits, component_count-classes)

  pub balances_map : (d : ℕ) → vertex_count lists + face_count lists + 2 * d ≡ 2 * component_count lists + edge_count lists → Balances (rotation lists) (twin lists) (dart_count lists) (edge_count lists) d
  balances_map d b = omega (arith, b, vertex_count-orbits, face_count-orbits, component_count-classes)

  -- THE EULER BOUND for maps: n + f is at most 2c + m, by an even difference; half of it is the genus.
  pub euler_bound_map : (d : ℕ) × (vertex_count lists + face_count lists + 2 * d ≡ 2 * component_count lists + edge_count lists)
  euler_bound_map =
      let e = two_m in
      let v : IsPairing (twin lists) (edge_count lists + edge_count lists) = subst (IsPairing (twin lists)) e IsPairing-twin in
      let found = euler_bound (rotation lists) (twin lists) (edge_count lists) (subst (IsPermuting (rotation lists)) e IsPermuting-rotation) v in
      (found.0, map_balances found.0 (subst (λ k. Balances (rotation lists) (twin lists) k (edge_count lists) found.0) (sym e) found.1))
