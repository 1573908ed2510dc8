-- A map whose darts are drawn as those of two maps: its faces and components by marks, and its vertices and edges counted.
use Rattle.std.proofs.Common.{◌≡◌, ◌≢◌, ◌||◌, ℕ, zero, suc, ◌+◌, ◌-◌, ◌<◌, ◌≤◌, Bool, true, false, not, cond, eqb, ltb, List, [], length, refl, sym, ap, ◌∙◌, subst, inl, inr, arith, lt-ltb, le-ltb}
use Rattle.std.proofs.lemmas.Bool.{cases_Bool, cases_eq, cases_lt, eqb-true, eq-eqb, cond-true, cond-false, and_parts, true≢false}
use Rattle.classes.specs.Classes.{count_below, label}
use Rattle.classes.proofs.Counting.{count_below_into, count_below_all, one_if}
use Rattle.classes.proofs.Classes.{Together, label-lt, same_class-from}
use Rattle.classes.proofs.Orbits.{length-orbits_of}
use Rattle.classes.proofs.Bound.{after, length-joint}
use Rattle.map_lists.specs.Lists.{Lists}
use Rattle.map_theory.specs.Maps.{Dart, HasDart, IsSimpleMap, list_of, follows, dart_number, dart_count, is_empty_list, isolated_count, component_classes}
use Rattle.map_theory.proofs.DartLemmas.{dart_number-lt, dart_number-injective}
use Rattle.map_theory.proofs.DartPermutations.{dart_of, tail_of, dart_of-number, rotation, twin, IsPermuting-rotation, IsPairing-twin, dart_classes, IsLabels-dart_classes, component_of_class, components, components-marked, edge_together, dart_of-twin, count_by-count_below}
use Rattle.plane_laws.proofs.DartPaths.{tail_of-number, face_step_together}
use Rattle.embed_surgery.proofs.Marks.{face_orbits, IsLabels-face_orbits, HasMarks, JoinsMarked}
use Rattle.embed_surgery.proofs.Labels.{test, value, value_zb, value_else, test_first, test_second, first_passes, second_passes}

pub length-face_orbits : (lists : Lists) (simple : IsSimpleMap lists) → length (face_orbits lists simple) ≡ dart_count lists
length-face_orbits lists simple = length-orbits_of (after (rotation lists) (twin lists)) (dart_count lists)

pub length-dart_classes : (lists : Lists) (simple : IsSimpleMap lists) → length (dart_classes lists simple) ≡ dart_count lists
length-dart_classes lists simple = length-joint (rotation lists) (twin lists) (dart_count lists) (IsPermuting-rotation lists simple).within (IsPairing-twin lists simple).within

-- what is joined in a map is joined in one that has its darts
pub joined_more : (part whole : Lists) (s : IsSimpleMap part) (s' : IsSimpleMap whole) → ((u v : ℕ) → HasDart part u v → HasDart whole u v) → (i j : ℕ) → i < dart_count part → j < dart_count part → Together (dart_classes part s) i j → Together (components whole s') (tail_of part i) (tail_of part j)
joined_more part whole s s' more i j l m t =
    let is_dart : (i : ℕ) → i < dart_count part → HasDart part (dart_of part i).0 (dart_of part i).1 = λ i l. (dart_of-number part s i l).is_dart in
    components-marked part s (label (components whole s'))
    (λ i l. edge_together whole s' (dart_of part i).0 (dart_of part i).1 (more (dart_of part i).0 (dart_of part i).1 (is_dart i l)) ∙ ap (λ (d : Dart). label (components whole s') d.0) (sym (dart_of-twin part s i l)))
    (tail_of part i) (tail_of part j) (is_dart i l).0 (is_dart j m).0 (component_of_class part s i j l m t)

-- ---- vertices
-- vertices without edges are counted by their numbers
pub isolated-below : (lists : Lists) → isolated_count lists ≡ count_below (λ v. is_empty_list (list_of lists v)) (length lists)
isolated-below lists = count_by-count_below is_empty_list lists []

-- Where a third test passes just with both, and one of the two but at shared numbers.
pub count_below-both : (p q r shared : ℕ → Bool) (n : ℕ) → ((v : ℕ) → v < n → one_if (r v) + 1 ≤ one_if (p v) + one_if (q v) + one_if (shared v)) → count_below r n + n ≤ count_below p n + count_below q n + count_below shared n
count_below-both p q r shared zero h = omega arith
count_below-both p q r shared (suc n) h =
    omega (arith, count_below-both p q r shared n (λ v l. h v (omega arith)), h n (omega arith))

-- a number is met once at most
pub count_below-one : (s n : ℕ) → count_below (λ v. eqb v s) n ≤ 1
count_below-one s n =
    let into = count_below_into (λ v. 0) (λ v. eqb v s) (λ v. true) n 1 (λ i l t. (omega arith, refl)) (λ i j l m t t' e. eqb-true i s t ∙ sym (eqb-true j s t')) in
    omega arith

one_if_or : (a b : Bool) → one_if (a || b) ≤ one_if a + one_if b
one_if_or true b = omega arith
one_if_or false b = omega arith

pub count_below-or : (p q : ℕ → Bool) (n : ℕ) → count_below (λ v. p v || q v) n ≤ count_below p n + count_below q n
count_below-or p q zero = omega arith
count_below-or p q (suc n) = omega (arith, count_below-or p q n, one_if_or (p n) (q n))

module _ (one other new : Lists) (s1 : IsSimpleMap one) (s2 : IsSimpleMap other) (s' : IsSimpleMap new) (drawn : Dart → Bool) (in_one : (x y : ℕ) → HasDart new x y → drawn (x, y) ≡ true → HasDart one x y) (in_other : (x y : ℕ) → HasDart new x y → drawn (x, y) ≡ false → HasDart other x y) where
  -- ---- faces
  abbrev FA : List ℕ
  FA = face_orbits one s1

  abbrev FB : List ℕ
  FB = face_orbits other s2

  unfoldable pub face_one : Dart → ℕ
  face_one d = label (face_orbits one s1) (dart_number one d)

  unfoldable pub face_other : Dart → ℕ
  face_other d = label (face_orbits other s2) (dart_number other d)

  -- a step along a face of either map stays in it
  pub face_one-step : (x y : ℕ) → HasDart one x y → face_one (y, follows one y x) ≡ face_one (x, y)
  unfolding face_one
  face_one-step x y d = sym (face_step_together one s1 (x, y) d)

  pub face_other-step : (x y : ℕ) → HasDart other x y → face_other (y, follows other y x) ≡ face_other (x, y)
  unfolding face_other
  face_other-step x y d = sym (face_step_together other s2 (x, y) d)

  -- the face that a dart is drawn into, of the one map or the other
  pub face_mark : ℕ → ℕ → Dart → ℕ
  face_mark za zb d = cond (drawn d) (face_one d) (value FA FB (IsLabels-face_orbits one s1) (IsLabels-face_orbits other s2) za zb (face_other d))

  pub face_mark-one : (za zb : ℕ) (d : Dart) → drawn d ≡ true → face_mark za zb d ≡ face_one d
  unfolding face_mark
  face_mark-one za zb d t = cond-true (drawn d) (face_one d) (value FA FB (IsLabels-face_orbits one s1) (IsLabels-face_orbits other s2) za zb (face_other d)) t

  pub face_mark-joined : (za zb : ℕ) (d : Dart) → drawn d ≡ false → face_other d ≡ zb → face_mark za zb d ≡ za
  unfolding face_mark
  face_mark-joined za zb d t e =
      cond-false (drawn d) (face_one d) (value FA FB (IsLabels-face_orbits one s1) (IsLabels-face_orbits other s2) za zb (face_other d)) t
      ∙ value_zb FA FB (IsLabels-face_orbits one s1) (IsLabels-face_orbits other s2) za zb (face_other d) e

  pub face_mark-same : (za zb : ℕ) (d e : Dart) → drawn d ≡ false → drawn e ≡ false → face_other d ≡ face_other e → face_mark za zb d ≡ face_mark za zb e
  unfolding face_mark
  face_mark-same za zb d e t t' q =
      let V = value FA FB (IsLabels-face_orbits one s1) (IsLabels-face_orbits other s2) za zb in
      cond-false (drawn d) (face_one d) (V (face_other d)) t ∙ (ap V q ∙ sym (cond-false (drawn e) (face_one e) (V (face_other e)) t'))

  unfoldable pub face_test : ℕ → ℕ → ℕ → Bool
  face_test za zb = test FA FB (IsLabels-face_orbits one s1) (IsLabels-face_orbits other s2) za zb

  -- each face of the one map is met, and each of the other but one
  pub record AreMet (zb : ℕ) : Type 0 where
    pub pick : Dart → Dart
    pub of_one : (x y : ℕ) → HasDart one x y → HasDart new (pick (x, y)).0 (pick (x, y)).1 × (drawn (pick (x, y)) ≡ true) × (face_one (pick (x, y)) ≡ face_one (x, y))
    pub of_other : (x y : ℕ) → HasDart other x y → face_other (x, y) ≢ zb → HasDart new x y × (drawn (x, y) ≡ false)

  pub face_marks : (za zb : ℕ) → AreMet zb → HasMarks new (face_mark za zb) (length FA + length FB) (face_test za zb)
  unfolding face_one face_other face_mark face_test
  face_marks za zb met =
      let wA = IsLabels-face_orbits one s1 in
      let wB = IsLabels-face_orbits other s2 in
      let n2 = length-face_orbits other s2 in
      let pick : ℕ → Dart = λ j. cond {A = Dart} (ltb j (length FA)) (met.pick (dart_of one j)) (dart_of other (j - length FA)) in
      let pick_one : (j : ℕ) → j < length FA → pick j ≡ met.pick (dart_of one j) = λ j l. cond-true {A = Dart} (ltb j (length FA)) (met.pick (dart_of one j)) (dart_of other (j - length FA)) (lt-ltb j (length FA) l) in
      let pick_other : (j : ℕ) → length FA ≤ j → pick j ≡ dart_of other (j - length FA) = λ j l. cond-false {A = Dart} (ltb j (length FA)) (met.pick (dart_of one j)) (dart_of other (j - length FA)) (le-ltb j (length FA) l) in
      let known : (j : ℕ) → j < length FA + length FB → face_test za zb j ≡ true → HasDart new (pick j).0 (pick j).1 × (face_mark za zb (pick j) ≡ j) = λ j l t.
      elim (cases_lt j (length FA)) [
        | inl m ↦
            let at = dart_of-number one s1 j (omega (arith, length-face_orbits one s1)) in
            let r = met.of_one (dart_of one j).0 (dart_of one j).1 at.is_dart in
            let e = pick_one j m in
            let own = eqb-true (label FA j) j (sym (test_first FA FB wA wB za zb j m) ∙ t) in (
              subst (λ (d : Dart). HasDart new d.0 d.1) (sym e) r.0,
              ap (face_mark za zb) e ∙ (face_mark-one za zb (met.pick (dart_of one j)) r.1 ∙ (r.2 ∙ (ap (label FA) at.number ∙ own))),
            )
        | inr m ↦
            let i = j - length FA in
            let in_i : i < dart_count other = omega arith in
            let at = dart_of-number other s2 i in_i in
            let e = pick_other j m in
            let q : length FA + i ≡ j = omega arith in
            let parts = and_parts (eqb (label FB i) i) (not (eqb i zb)) (sym (test_second FA FB wA wB za zb i) ∙ (ap (face_test za zb) q ∙ t)) in
            let far : i ≢ zb = λ z. true≢false (sym parts.1 ∙ ap not (eq-eqb i zb z)) in
            let face : face_other (dart_of other i) ≡ i = ap (label FB) at.number ∙ (eqb-true (label FB i) i parts.0) in
            let r = met.of_other (dart_of other i).0 (dart_of other i).1 at.is_dart (λ z. far (sym face ∙ z)) in (
              subst (λ (d : Dart). HasDart new d.0 d.1) (sym e) r.0,
              ap (face_mark za zb) e
                  ∙ (cond-false (drawn (dart_of other i)) (face_one (dart_of other i)) (value FA FB wA wB za zb (face_other (dart_of other i))) r.1
                  ∙ (ap (value FA FB wA wB za zb) face ∙ (value_else FA FB wA wB za zb i far ∙ q))),
            )
      ] in
      record {
        pick = pick;
        darts = λ j l t. (known j l t).0;
        marked = λ j l t. (known j l t).1;
      }

  -- ---- components
  abbrev CA : List ℕ
  CA = dart_classes one s1

  abbrev CB : List ℕ
  CB = dart_classes other s2

  pub part_mark : ℕ → ℕ → Dart → ℕ
  part_mark za zb d =
      cond (drawn d) (label CA (dart_number one d)) (value CA CB (IsLabels-dart_classes one s1) (IsLabels-dart_classes other s2) za zb (label CB (dart_number other d)))

  unfoldable pub part_test : ℕ → ℕ → ℕ → Bool
  part_test za zb = test CA CB (IsLabels-dart_classes one s1) (IsLabels-dart_classes other s2) za zb

  module _ (more1 : (u v : ℕ) → HasDart one u v → HasDart new u v) (more2 : (u v : ℕ) → HasDart other u v → HasDart new u v) (za zb : ℕ) (ok : (i : ℕ) → i < dart_count other → label (dart_classes other s2) i ≡ zb → (za < dart_count one) × (label (dart_classes one s1) za ≡ za)) (bridge : (i : ℕ) → i < dart_count other → label (dart_classes other s2) i ≡ zb → Together (components new s') (tail_of other i) (tail_of one za)) where
    -- a vertex of the component that a mark stands for
    root : ℕ → ℕ
    root j = cond (ltb j (length CA)) (tail_of one j) (tail_of other (j - length CA))

    root_one : (j : ℕ) → j < length CA → root j ≡ tail_of one j
    unfolding root
    root_one j l = cond-true (ltb j (length CA)) (tail_of one j) (tail_of other (j - length CA)) (lt-ltb j (length CA) l)

    root_other : (j : ℕ) → root (length CA + j) ≡ tail_of other j
    unfolding root
    root_other j =
        let e : length CA + j - length CA ≡ j = omega arith in
        cond-false (ltb (length CA + j) (length CA)) (tail_of one (length CA + j)) (tail_of other (length CA + j - length CA)) (le-ltb (length CA + j) (length CA) (omega arith)) ∙ ap (tail_of other) e

    rooted : (x y : ℕ) → HasDart new x y → (part_mark za zb (x, y) < length CA + length CB) × (part_test za zb (part_mark za zb (x, y)) ≡ true) × Together (components new s') x (root (part_mark za zb (x, y)))
    unfolding part_mark part_test
    rooted x y d =
        let wA = IsLabels-dart_classes one s1 in
        let wB = IsLabels-dart_classes other s2 in
        let n1 = length-dart_classes one s1 in
        let n2 = length-dart_classes other s2 in
        let J = label (components new s') in
        elim (cases_Bool (drawn (x, y))) [
          | inl t ↦
              let has = in_one x y d t in
              let i = dart_number one (x, y) in
              let l = dart_number-lt one x y has in
              let e = cond-true (drawn (x, y)) (label CA i) (value CA CB wA wB za zb (label CB (dart_number other (x, y)))) t in
              let m : i < length CA = omega arith in
              let p = first_passes CA CB wA wB za zb i m in
              let home = joined_more one new s1 s' more1 i (label CA i) l (omega arith) (sym (wA.own i)) in (
                subst (λ v. v < length CA + length CB) (sym e) p.0,
                ap (test CA CB wA wB za zb) e ∙ p.1,
                ap J (sym (tail_of-number one x y has)) ∙ (home ∙ ap J (sym (root_one (label CA i) (label-lt CA wA i m)) ∙ ap root (sym e))),
              )
          | inr t ↦
              let has = in_other x y d t in
              let i = dart_number other (x, y) in
              let l = dart_number-lt other x y has in
              let m : i < length CB = omega arith in
              let e = cond-false (drawn (x, y)) (label CA (dart_number one (x, y))) (value CA CB wA wB za zb (label CB i)) t in
              let p = second_passes CA CB wA wB za zb i m (λ q. let h = ok i l q in let z = h.0 in (omega arith, h.1)) in
              let tail = ap J (sym (tail_of-number other x y has)) in (
                subst (λ v. v < length CA + length CB) (sym e) p.0,
                ap (test CA CB wA wB za zb) e ∙ p.1,
                elim (cases_eq (label CB i) zb) [
                  | inl q ↦
                      tail ∙ (bridge i l q ∙ ap J (sym (root_one za (omega (arith, (ok i l q).0))) ∙ ap root (sym (e ∙ value_zb CA CB wA wB za zb (label CB i) q))))
                  | inr ne ↦
                      let home = joined_more other new s2 s' more2 i (label CB i) l (omega arith) (sym (wB.own i)) in
                      tail ∙ (home ∙ ap J (sym (root_other (label CB i)) ∙ ap root (sym (e ∙ value_else CA CB wA wB za zb (label CB i) ne))))
                ],
              )
        ]

    pub part_marks : JoinsMarked new (part_mark za zb) (length CA + length CB) (part_test za zb)
    part_marks = grind (arith, rooted, same_class-from, component_classes, label, components, root)

  -- ---- darts
  -- the number of a dart among those of both
  both_number : Dart → ℕ
  both_number d = cond (drawn d) (dart_number one d) (dart_count one + dart_number other d)

  both_one : (d : Dart) → drawn d ≡ true → both_number d ≡ dart_number one d
  unfolding both_number
  both_one d t = cond-true (drawn d) (dart_number one d) (dart_count one + dart_number other d) t

  both_other : (d : Dart) → drawn d ≡ false → both_number d ≡ dart_count one + dart_number other d
  unfolding both_number
  both_other d t = cond-false (drawn d) (dart_number one d) (dart_count one + dart_number other d) t

  -- there are as many darts as numbers that pass, at most
  pub darts_few : (passes : ℕ → Bool) → ((x y : ℕ) → HasDart new x y → drawn (x, y) ≡ true → passes (dart_number one (x, y)) ≡ true) → ((x y : ℕ) → HasDart new x y → drawn (x, y) ≡ false → passes (dart_count one + dart_number other (x, y)) ≡ true) → dart_count new ≤ count_below passes (dart_count one + dart_count other)
  darts_few passes ok1 ok2 =
      let all = count_below_all (dart_count new) in
      let is_dart : (i : ℕ) → i < dart_count new → HasDart new (dart_of new i).0 (dart_of new i).1 = λ i l. (dart_of-number new s' i l).is_dart in
      let into = count_below_into (λ i. both_number (dart_of new i)) (λ i. true) passes (dart_count new) (dart_count one + dart_count other)
      (λ i l _.
      let d = dart_of new i in
      elim (cases_Bool (drawn d)) [
        | inl t ↦
            let e = both_one d t in
            (omega (arith, dart_number-lt one d.0 d.1 (in_one d.0 d.1 (is_dart i l) t)), ap passes e ∙ ok1 d.0 d.1 (is_dart i l) t)
        | inr t ↦
            let e = both_other d t in
            (omega (arith, dart_number-lt other d.0 d.1 (in_other d.0 d.1 (is_dart i l) t)), ap passes e ∙ ok2 d.0 d.1 (is_dart i l) t)
      ])
      (λ i j l m _ _ e.
      let d = dart_of new i in
      let c = dart_of new j in
      let same : d ≡ c → i ≡ j = λ q. sym (dart_of-number new s' i l).number ∙ (ap (dart_number new) q ∙ (dart_of-number new s' j m).number) in
      elim (cases_Bool (drawn d)) [
        | inl t ↦ grind (arith, cases_Bool, dart_number-injective, both_one, both_other, dart_number-lt)
        | inr t ↦ grind (arith, cases_Bool, dart_number-lt, both_other, both_one, dart_number-injective)
      ]) in
      omega arith
