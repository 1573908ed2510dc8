-- In a map of genus zero no two chords of a tour along a tree cross: else its faces, joined over all chords but one, would be one class, though there are too many of them.
use Rattle.std.proofs.Common.{◌≡◌, ◌≢◌, ℕ, zero, suc, ◌+◌, ◌-◌, ◌*◌, ◌<◌, ◌≤◌, Bool, true, false, cond, not, ltb, eqb, List, length, refl, sym, ap, ◌∙◌, subst, inl, inr, arith, eq-eqb, ne_eqb}
use Rattle.std.specs.Prelude.{◌&&◌}
use Rattle.std.proofs.Math.Bool.{and-true}
use Rattle.std.proofs.lemmas.Bool.{cases_Bool, cases_lt, cases_eq, cond-true, cond-false, lt-ltb, and_from, and_right, false≢true}
use Rattle.classes.specs.Classes.{count_below, label, merge, class_count}
use Rattle.classes.proofs.Counting.{count_below_more, count_below_all}
use Rattle.classes.proofs.Classes.{Together, IsLabels, cases_Together, length-merge, IsLabels-merge, merge-keeps, merge-same, merge-within, class_count-merge_apart}
use Rattle.classes.proofs.Orbits.{length-orbits_of}
use Rattle.classes.proofs.Bound.{after, length-joint}
use Rattle.map_lists.specs.Lists.{Lists}
use Rattle.map_theory.specs.Maps.{Dart, twin_dart, IsSimpleMap, IsPlane, follows, face_step, dart_count, dart_number, vertex_count, component_count, isolated_count}
use Rattle.map_theory.proofs.DartLemmas.{dart_number-lt}
use Rattle.map_theory.proofs.DartPermutations.{dart_of, dart_of-number, rotation, twin, IsPermuting-rotation, IsPairing-twin, two_m, face_count-orbits, dart_classes, IsLabels-dart_classes, component_count-classes}
use Rattle.plane_laws.proofs.DartPaths.{face_step_together}
use Rattle.embed_surgery.proofs.Marks.{face_orbits, IsLabels-face_orbits, classes_many, classes_few}
use Rattle.left_right_laws.specs.Tours.{tour_step, IsTour, PlaneByNesting}
use Rattle.left_right_laws.proofs.Nested.{begins, pair_count-le}
use Rattle.left_right_laws.proofs.Tours.{single, partner, paired, partner_in, at_partner, partner_back, plane}

-- a merge makes one class less at most
merge_count : (labels : List ℕ) (a b : ℕ) → IsLabels labels → a < length labels → b < length labels → class_count labels ≤ class_count (merge labels a b) + 1
merge_count labels a b w la lb = grind (arith, cases_Together, class_count, merge-within, class_count-merge_apart)

-- where a map with an edge has one component, no vertex is isolated
none_isolated : (lists : Lists) → IsSimpleMap lists → component_count lists ≡ 1 → 0 < dart_count lists → isolated_count lists ≡ 0
none_isolated lists simple one some =
    let long = length-joint (rotation lists) (twin lists) (dart_count lists) (IsPermuting-rotation lists simple).within (IsPairing-twin lists simple).within in
    let class = classes_many (dart_classes lists simple) (IsLabels-dart_classes lists simple) 1 (λ i. true) (λ i. 0) (λ j l t. omega arith) (λ i j l m t u e. omega arith) in
    omega (arith, component_count-classes lists simple, count_below_all 1)

module _ (lists : Lists) (along : ℕ → ℕ → Bool) (at : ℕ → Dart) (place : Dart → ℕ) (simple : IsSimpleMap lists) (turned : (v u : ℕ) → along v u ≡ along u v) (tour : IsTour lists along at place) where
  abbrev n : ℕ
  n = dart_count lists

  -- the tour goes along the dart at p
  abbrev Single : ℕ → Bool
  Single = single lists along at place simple turned tour

  -- the place of the dart at p the other way
  abbrev Partner : ℕ → ℕ
  Partner = partner lists along at place simple turned tour

  abbrev Begins : ℕ → Bool
  Begins = begins n Single Partner (paired lists along at place simple turned tour)

  abbrev F : List ℕ
  F = face_orbits lists simple

  -- the number of the dart at p
  abbrev num : ℕ → ℕ
  num p = dart_number lists (at p)

  num-lt : (p : ℕ) → p < n → num p < n
  num-lt p m = dart_number-lt lists (at p).0 (at p).1 (tour.darts p m)

  in_range : (p : ℕ) → p < n → Partner p < n
  in_range = partner_in lists along at place simple turned tour

  back : (p : ℕ) → p < n → Partner (Partner p) ≡ p
  back = partner_back lists along at place simple turned tour

  follows_on : (p q : ℕ) → p < n → face_step lists (at p) ≡ at q → Together F (num p) (num q)
  follows_on p q m e = face_step_together lists simple (at p) (tour.darts p m) ∙ ap (λ d. label F (dart_number lists d)) e

  module _ (out : ℕ) where
    -- a chord other than that at `out` begins at l
    abbrev test : ℕ → Bool
    test l = Begins l && not (eqb l out)

    -- the faces joined over the chords that begin before l
    joined : ℕ → List ℕ
    joined zero = F
    joined (suc l) = cond (test l) (merge (joined l) (num l) (num (Partner l))) (joined l)

    record IsJoined (l : ℕ) (labels : List ℕ) : Type 0 where
      pub known : IsLabels labels
      pub size : length labels ≡ n
      pub keeps : (i j : ℕ) → Together F i j → Together labels i j
      pub holds : (i : ℕ) → i < l → test i ≡ true → Together labels (num i) (num (Partner i))
      pub enough : class_count F ≤ class_count labels + count_below test l

    more : (l : ℕ) (labels : List ℕ) → l < n → test l ≡ true → IsJoined l labels → IsJoined (suc l) (merge labels (num l) (num (Partner l)))
    more l labels m t h =
        let a = num l in
        let b = num (Partner l) in
        let size = h.size in
        let rb = num-lt (Partner l) (in_range l m) in
        let la : a < length labels = omega (arith, num-lt l m) in
        let lb : b < length labels = omega (arith, num-lt l m) in
        let stays = merge-keeps labels a b h.known la lb in
        record {
          known = IsLabels-merge labels a b h.known la lb;
          size = length-merge labels a b ∙ h.size;
          keeps = λ i j s. stays i j (h.keeps i j s);
          holds = λ i k s. elim (cases_eq i l) [
            | inl e ↦ subst (λ x. Together (merge labels a b) (num x) (num (Partner x))) (sym e) (merge-same labels a b h.known la lb)
            | inr ne ↦ stays (num i) (num (Partner i)) (h.holds i (omega (arith, num-lt l m)) s)
          ];
          enough = omega (arith, num-lt l m, h.enough, merge_count labels a b h.known la lb, ap (λ c. count_below test l + cond c 1 0) t);
        }

    kept : (l : ℕ) (labels : List ℕ) → test l ≡ false → IsJoined l labels → IsJoined (suc l) labels
    kept l labels t h =
        record {
          known = h.known;
          size = h.size;
          keeps = h.keeps;
          holds = λ i k s. elim (cases_eq i l) [
            | inl e ↦ absurd (false≢true (sym (ap test e ∙ t) ∙ s))
            | inr ne ↦ h.holds i (omega arith) s
          ];
          enough = omega (arith, h.enough, ap (λ c. count_below test l + cond c 1 0) t);
        }

    joined_is : (l : ℕ) → l ≤ n → IsJoined l (joined l)
    unfolding joined
    joined_is zero m = grind (arith, IsLabels-face_orbits, length-orbits_of, after, rotation, twin)
    joined_is (suc l) m =
        let h = joined_is l (omega arith) in
        elim (cases_Bool (test l)) [
          | inl t ↦ subst (IsJoined (suc l)) (sym (cond-true (test l) (merge (joined l) (num l) (num (Partner l))) (joined l) t)) (more l (joined l) (omega arith) t h)
          | inr t ↦ subst (IsJoined (suc l)) (sym (cond-false (test l) (merge (joined l) (num l) (num (Partner l))) (joined l) t)) (kept l (joined l) t h)
        ]

  -- Two chords that cross.
  module _ (p q : ℕ) (lp : p < n) (lq : q < n) (chord_p : Single p ≡ false) (chord_q : Single q ≡ false) (first : p < q) (second : q < Partner p) (third : Partner p < Partner q) where
    L : List ℕ
    L = joined p n

    J : IsJoined p n L
    unfolding L
    J = joined_is p n (omega arith)

    -- the two darts of the chord at g are in one class
    abbrev Pair : ℕ → Type 0
    Pair g = Single g ≡ false → Together L (num g) (num (Partner g))

    begins_true : (g : ℕ) → g < Partner g → Single g ≡ false → Begins g ≡ true
    begins_true g l e = and_from (ltb g (Partner g)) (not (Single g)) (lt-ltb g (Partner g) l) (ap not e)

    test_true : (g : ℕ) → g < Partner g → Single g ≡ false → g ≢ p → test p g ≡ true
    test_true g l e ne = and_from (Begins g) (not (eqb g p)) (begins_true g l e) (ap not (ne_eqb g p ne))

    pair_at : (g : ℕ) → g < n → g ≢ p → g ≢ Partner p → Pair g
    pair_at g m ne ne' e =
        let h = Partner g in
        let bg = back g m in
        elim (cases_lt g h) [
          | inl l ↦ J.holds g m (test_true g l e ne)
          | inr l ↦
              let pairs = paired lists along at place simple turned tour in
              let low : h < Partner h = omega arith in
              let off : h ≢ p = λ z. ne' (sym bg ∙ ap Partner z) in
              sym (J.holds h (in_range g m) (test_true h low (pairs.both g m e) off) ∙ ap (λ x. label L (num x)) bg)
        ]

    -- from a place to the next
    step_to : (g h : ℕ) → g < n → tour_step along lists (at g) ≡ at h → Pair g → Together L (num g) (num h)
    step_to g h m e pair =
        let d = at g in
        elim (cases_Bool (Single g)) [
          | inl s ↦
              let step : tour_step along lists d ≡ face_step lists d = cond-true {A = Dart} (along d.0 d.1) (face_step lists d) (d.0, follows lists d.0 d.1) s in
              J.keeps (num g) (num h) (follows_on g h m (sym step ∙ e))
          | inr s ↦
              let step : tour_step along lists d ≡ (d.0, follows lists d.0 d.1) = cond-false {A = Dart} (along d.0 d.1) (face_step lists d) (d.0, follows lists d.0 d.1) s in
              let other = ap (face_step lists) (at_partner lists along at place simple turned tour g m) in
              pair s ∙ J.keeps (num (Partner g)) (num h) (follows_on (Partner g) h (in_range g m) (other ∙ (sym step ∙ e)))
        ]

    walk : (a b : ℕ) → a ≤ b → b < n → ((g : ℕ) → a ≤ g → g < b → Pair g) → Together L (num a) (num b)
    walk a zero l m pair = let e : a ≡ 0 = omega arith in ap (λ x. label L (num x)) e
    walk a (suc b) l m pair =
        elim (cases_eq a (suc b)) [
          | inl e ↦ ap (λ x. label L (num x)) e
          | inr ne ↦ walk a b (omega arith) (omega arith) (λ g i j. pair g i (omega arith)) ∙ step_to b (suc b) (omega arith) (tour.next b m) (pair b (omega arith) (omega arith))
        ]

    -- so the chord at p has its two darts in one class
    pair_p : Together L (num p) (num (Partner p))
    pair_p =
        let lq' = in_range q lq in
        let last = n - 1 in
        let end : suc last ≡ n = omega arith in
        let up = walk q (Partner p) (omega arith) (in_range p lp) (λ g i j. pair_at g (omega arith) (λ e. omega arith) (λ e. omega arith)) in
        let on = walk (Partner q) last (omega arith) (omega arith) (λ g i j. pair_at g (omega arith) (λ e. omega arith) (λ e. omega arith)) in
        let round = step_to last 0 (omega arith) (tour.round last end) (pair_at last (omega arith) (λ e. omega arith) (λ e. omega arith)) in
        let home = walk 0 p (omega arith) lp (λ g i j. pair_at g (omega arith) (λ e. omega arith) (λ e. omega arith)) in
        sym (on ∙ (round ∙ home)) ∙ (sym (pair_at q lq (λ e. omega arith) (λ e. omega arith) chord_q) ∙ up)

    -- and all darts are in one
    pair_all : (g : ℕ) → g < n → Pair g
    pair_all g m e = grind (arith, cases_eq, Together, num, Partner, pair_p, label, back, pair_at)

    one_class : (i : ℕ) → i < n → Together L (num 0) i
    one_class i m =
        let d = dart_of lists i in
        let own = dart_of-number lists simple i m in
        let g = place d in
        let lg = tour.places d.0 d.1 own.is_dart in
        let same : num g ≡ i = ap (dart_number lists) (tour.there d.0 d.1 own.is_dart) ∙ own.number in
        walk 0 g (omega arith) lg (λ h i j. pair_all h (omega arith)) ∙ ap (label L) same

    few : class_count L ≤ 1
    few =
        let size = J.size in
        omega (arith, count_below_all 1, classes_few L 1 (λ i. true) (λ i. 0) (λ i l. (omega arith, refl)) (λ i j l m e. sym (one_class i (omega arith)) ∙ one_class j (omega arith)))

    pub cross : IsPlane lists → component_count lists ≡ 1 → count_below Single n + 2 ≡ 2 * vertex_count lists → ⊥
    cross plane one tree =
        let none = none_isolated lists simple one (omega arith) in
        let counted = count_below_more (test p) Begins n p lp (and_right (Begins p) (not (eqb p p)) (ap not (eq-eqb p p refl))) (begins_true p (omega arith) chord_p)
        (λ i l ne. ap (λ b. Begins i && not b) (ne_eqb i p ne) ∙ and-true (Begins i)) in
        let pairs = pair_count-le n Single Partner (paired lists along at place simple turned tour) in
        omega (arith, few, J.enough, two_m lists simple, face_count-orbits lists simple)

-- THE LAW: genus zero by nesting
pub plane_by_nesting : PlaneByNesting
plane_by_nesting lists along at place simple some one turned tour tree = (
  λ genus d e chord_d chord_e first second third.
      let there_d = tour.there d.0 d.1 chord_d.0 in
      let there_e = tour.there e.0 e.1 chord_e.0 in
      let to_d = ap (λ c. place (twin_dart c)) there_d in
      let to_e = ap (λ c. place (twin_dart c)) there_e in
      cross lists along at place simple turned tour (place d) (place e) (tour.places d.0 d.1 chord_d.0) (tour.places e.0 e.1 chord_e.0) (ap (λ c. along c.0 c.1) there_d ∙ chord_d.1) (ap (λ c. along c.0 c.1) there_e ∙ chord_e.1) first (omega arith) (omega arith) genus one tree,
  λ nested. plane lists along at place simple turned tour nested some one (omega (arith, tree)),
)
