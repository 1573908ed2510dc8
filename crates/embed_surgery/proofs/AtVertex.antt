-- Two maps glued at a vertex, or side by side.
use Rattle.std.proofs.Common.{◌≡◌, ◌≢◌, ◌⊎◌, ℕ, ◌+◌, ◌*◌, ◌<◌, ◌≤◌, Bool, true, false, eqb, List, [], ◌∷◌, ◌++◌, length, AllPairs, Contains, refl, sym, ap, ap₂, ◌∙◌, subst, inl, inr, arith}
use Rattle.std.proofs.lemmas.Bool.{cases_Bool, cases_lt, true≢false, eq-eqb}
use Rattle.std.proofs.lemmas.List.{append-nil, get_or_past}
use Rattle.std.proofs.lemmas.List.Elements.{Contains-append_cases, Contains-append_left, Contains-append_right, Contains-get_or}
use Rattle.classes.specs.Classes.{count_below, label, class_count}
use Rattle.classes.proofs.Counting.{count_below_all, count_below_none, one_if}
use Rattle.classes.proofs.Classes.{Together, label-lt}
use Rattle.map_lists.specs.Lists.{Lists}
use Rattle.map_theory.specs.Maps.{Dart, HasDart, IsSimpleMap, IsPlane, list_of, follows, entry_after, dart_number, dart_count, edge_count, is_empty_list, isolated_count, vertex_count, component_count}
use Rattle.map_theory.proofs.DartLemmas.{dart_number-lt, HasDart-follows}
use Rattle.map_theory.proofs.EntryLemmas.{AllPairs-append}
use Rattle.map_theory.proofs.DartPermutations.{tail_of, dart_classes, IsLabels-dart_classes, components, face_count-orbits, component_count-classes, two_m}
use Rattle.plane_laws.proofs.DartPaths.{tail_of-number}
use Rattle.embed_surgery.proofs.Marks.{face_orbits, IsLabels-face_orbits, components_by_marks, genus_by_marks, KeepsFaces}
use Rattle.embed_surgery.proofs.Labels.{counted_joined, counted_apart}
use Rattle.embed_surgery.proofs.Unions.{length-face_orbits, length-dart_classes, joined_more, isolated-below, count_below-both, count_below-one, face_one, face_other, face_mark, face_mark-one, face_mark-joined, face_mark-same, face_test, AreMet, face_marks, part_mark, part_test, part_marks, darts_few, face_one-step, face_other-step}
use Rattle.embed_surgery.proofs.Entries.{head_of, entry_after-left, entry_after-right, glued_lists, IsUnion}
use Rattle.embed_surgery.proofs.UnionLists.{length-lists_by, list_of-lists_by, has_dart, has_dart-is, HasDart-from, has_dart-not, union-old, union-new, IsSimpleMap-union}

-- a list is empty or has a first entry
pub cases_empty : (us : List ℕ) → (us ≡ []) ⊎ (0 < length us)
cases_empty [] = inl refl
cases_empty (u ∷ us) = inr (omega arith)

pub is_empty_one : (us : List ℕ) → (one_if (is_empty_list us) ≡ 0) ⊎ ((one_if (is_empty_list us) ≡ 1) × (us ≡ []))
is_empty_one [] = inr (refl, refl)
is_empty_one (u ∷ us) = inl refl

pub is_empty_append : (us vs : List ℕ) → one_if (is_empty_list (us ++ vs)) ≡ 1 → (one_if (is_empty_list us) ≡ 1) × (one_if (is_empty_list vs) ≡ 1)
is_empty_append [] vs e = (refl, e)
is_empty_append (u ∷ us) vs e = absurd (omega arith)

module _ (one other : Lists) (s : ℕ) (s1 : IsSimpleMap one) (s2 : IsSimpleMap other) (same : length other ≡ length one) (shared : (w p q : ℕ) → HasDart one w p → HasDart other w q → w ≡ s) where
  abbrev f : ℕ → List ℕ
  f w = list_of one w ++ list_of other w

  abbrev new : Lists
  new = glued_lists one other

  -- no dart is in both
  not_both : (x y : ℕ) → HasDart one x y → ¬ HasDart other x y
  not_both x y d d' = s1.no_loop x y d (shared y x x (s1.both_ways x y d) (s2.both_ways x y d') ∙ sym (shared x y y d d'))

  f_distinct : (v : ℕ) → v < length one → AllPairs ◌≢◌ (f v)
  f_distinct v l = AllPairs-append (list_of one v) (list_of other v) (s1.no_repeat v l) (s2.no_repeat v (omega arith)) (λ u c c'. not_both v u (l, c) (omega arith, c'))

  f_old : (v u : ℕ) → v < length one → Contains (f v) u → Contains (list_of one v) u ⊎ Contains (list_of other v) u
  f_old v u l c = Contains-append_cases (list_of one v) (list_of other v) u c

  f_all : (v u : ℕ) → v < length one → Contains (list_of one v) u ⊎ Contains (list_of other v) u → Contains (f v) u
  f_all v u l h = elim h [ inl c ↦ Contains-append_left (list_of one v) (list_of other v) u c | inr c ↦ Contains-append_right (list_of one v) (list_of other v) u c ]

  s' : IsSimpleMap new
  s' = IsSimpleMap-union one other s1 s2 same f f_distinct f_old f_all

  old_dart : (x y : ℕ) → HasDart new x y → HasDart one x y ⊎ HasDart other x y
  old_dart = union-old one other s1 s2 same f f_distinct f_old f_all

  new_dart : (x y : ℕ) → HasDart one x y ⊎ HasDart other x y → HasDart new x y
  new_dart = union-new one other s1 s2 same f f_distinct f_old f_all

  abbrev drawn : Dart → Bool
  drawn d = has_dart one d

  in_one : (x y : ℕ) → HasDart new x y → drawn (x, y) ≡ true → HasDart one x y
  in_one x y d t = HasDart-from one x y t

  in_other : (x y : ℕ) → HasDart new x y → drawn (x, y) ≡ false → HasDart other x y
  in_other x y d t = elim (old_dart x y d) [ inl h ↦ absurd (true≢false (sym (has_dart-is one x y h) ∙ t)) | inr h ↦ h ]

  off : (x y : ℕ) → HasDart other x y → drawn (x, y) ≡ false
  off x y d = has_dart-not one x y (λ h. not_both x y h d)

  abbrev F1 : Dart → ℕ
  F1 = face_one one other new s1 s2 s' drawn in_one in_other

  abbrev F2 : Dart → ℕ
  F2 = face_other one other new s1 s2 s' drawn in_one in_other

  -- ---- what follows what
  list_new : (v : ℕ) → v < length one → list_of new v ≡ list_of one v ++ list_of other v
  list_new v l = list_of-lists_by f (length one) v l

  turn_one : (x y : ℕ) → HasDart one x y → (follows new y x ≡ follows one y x) ⊎ ((0 < length (list_of one s)) × (0 < length (list_of other s)) × (y ≡ s) × (follows one y x ≡ head_of (list_of one s)) × (follows new y x ≡ head_of (list_of other s)))
  turn_one x y d =
      let back = s1.both_ways x y d in
      let e = ap (entry_after x) (list_new y back.0) in
      elim (cases_empty (list_of other y)) [
        | inl none ↦ inl (e ∙ ap (entry_after x) (ap (λ us. list_of one y ++ us) none ∙ append-nil (list_of one y)))
        | inr some ↦
            let at : y ≡ s = shared y x (head_of (list_of other y)) back (omega arith, Contains-get_or (list_of other y) 0 0 some) in
            grind (arith, entry_after-left, list_of, f_distinct, length, head_of)
      ]

  turn_other : (x y : ℕ) → HasDart other x y → (follows new y x ≡ follows other y x) ⊎ ((0 < length (list_of one s)) × (0 < length (list_of other s)) × (y ≡ s) × (follows other y x ≡ head_of (list_of other s)) × (follows new y x ≡ head_of (list_of one s)))
  turn_other x y d =
      let back = s2.both_ways x y d in
      let l : y < length one = let m = back.0 in omega arith in
      let e = ap (entry_after x) (list_new y l) in
      elim (cases_empty (list_of one y)) [
        | inl none ↦ inl (e ∙ ap (entry_after x) (ap (λ us. us ++ list_of other y) none))
        | inr some ↦
            let at : y ≡ s = shared y (head_of (list_of one y)) x (l, Contains-get_or (list_of one y) 0 0 some) back in
            grind (arith, entry_after-right, list_of, f_distinct, length, head_of)
      ]

  met : (zb : ℕ) → AreMet one other new s1 s2 s' drawn in_one in_other zb
  met zb = record {
    pick = λ d. d;
    of_one = λ x y d. (new_dart x y (inl d), has_dart-is one x y d, refl);
    of_other = λ x y d ne. (new_dart x y (inr d), off x y d);
  }

  abbrev M : ℕ → ℕ → Dart → ℕ
  M = face_mark one other new s1 s2 s' drawn in_one in_other

  -- Marks with the faces za and zb made one, where these are the faces at s.
  keeps : (za zb : ℕ) → ((0 < length (list_of one s)) → (0 < length (list_of other s)) → (F1 (s, head_of (list_of one s)) ≡ za) × (F2 (s, head_of (list_of other s)) ≡ zb)) → KeepsFaces new (M za zb)
  keeps za zb at x y d =
      elim (cases_Bool (drawn (x, y))) [
        | inl t ↦
            let h = in_one x y d t in
            let next = HasDart-follows one y x (s1.both_ways x y h) in
            elim (turn_one x y h) [
              | inl e ↦ grind (arith, face_mark-one, new, s', drawn, in_one, in_other, follows, has_dart-is, face_one-step)
              | inr r ↦
                  let z = at r.0 r.1 in
                  let b = head_of (list_of other s) in
                  let l : s < length other = let m = (s1.both_ways x y h).0 in let q = r.2 in omega arith in
                  let dart_b : HasDart other s b = (l, Contains-get_or (list_of other s) 0 0 r.1) in
                  ap₂ (λ y' w. M za zb (y', w)) r.2 r.4
                  ∙ (face_mark-joined one other new s1 s2 s' drawn in_one in_other za zb (s, b) (off s b dart_b) z.1
                  ∙ (sym z.0 ∙ (ap₂ (λ y' w. F1 (y', w)) (sym r.2) (sym r.3) ∙ (face_one-step one other new s1 s2 s' drawn in_one in_other x y h ∙ sym (face_mark-one one other new s1 s2 s' drawn in_one in_other za zb (x, y) t)))))
            ]
        | inr t ↦
            let h = in_other x y d t in
            let next = HasDart-follows other y x (s2.both_ways x y h) in
            elim (turn_other x y h) [
              | inl e ↦
                  ap (λ w. M za zb (y, w)) e ∙ face_mark-same one other new s1 s2 s' drawn in_one in_other za zb (y, follows other y x) (x, y) (off y (follows other y x) next) t (face_other-step one other new s1 s2 s' drawn in_one in_other x y h)
              | inr r ↦
                  let z = at r.0 r.1 in
                  let a = head_of (list_of one s) in
                  let l : s < length one = let m = (s2.both_ways x y h).0 in let q = r.2 in omega arith in
                  let dart_a : HasDart one s a = (l, Contains-get_or (list_of one s) 0 0 r.0) in
                  let here : F2 (x, y) ≡ zb = sym (face_other-step one other new s1 s2 s' drawn in_one in_other x y h) ∙ (ap₂ (λ y' w. F2 (y', w)) r.2 r.3 ∙ z.1) in
                  ap₂ (λ y' w. M za zb (y', w)) r.2 r.4
                  ∙ (face_mark-one one other new s1 s2 s' drawn in_one in_other za zb (s, a) (has_dart-is one s a dart_a) ∙ (z.0 ∙ sym (face_mark-joined one other new s1 s2 s' drawn in_one in_other za zb (x, y) t here)))
            ]
      ]

  -- ---- counts
  edges_few : edge_count new ≤ edge_count one + edge_count other
  edges_few =
      let few = darts_few one other new s1 s2 s' drawn in_one in_other (λ j. true) (λ x y d t. refl) (λ x y d t. refl) in
      omega (arith, count_below_all (dart_count one + dart_count other), two_m one s1, two_m other s2, two_m new s')

  -- vertices without edges, where a test passes at each vertex with edges of both
  isolated_many : (test : ℕ → Bool) → ((v : ℕ) → v < length one → 0 < length (list_of one v) → 0 < length (list_of other v) → test v ≡ true) → isolated_count new + length one ≤ isolated_count one + isolated_count other + count_below test (length one)
  isolated_many test both =
      let each = count_below-both (λ v. is_empty_list (list_of one v)) (λ v. is_empty_list (list_of other v)) (λ v. is_empty_list (list_of new v)) test (length one) (λ v l.
      let e = ap (λ us. one_if (is_empty_list us)) (list_new v l) in
      elim (is_empty_one (list_of one v ++ list_of other v)) [
        | inr h ↦ let p = is_empty_append (list_of one v) (list_of other v) h.0 in let a = p.0 in let b = p.1 in let c = h.0 in omega arith
        | inl h ↦ grind (arith, cases_empty, one_if, is_empty_list)
      ]) in
      let i' = isolated-below new ∙ ap (count_below (λ v. is_empty_list (list_of new v))) (length-lists_by f (length one)) in
      omega (arith, isolated-below other ∙ ap (count_below (λ v. is_empty_list (list_of other v))) same, isolated-below one)

  is_union : IsPlane new → IsUnion one other new
  is_union plane = record {
    simple = s';
    plane = plane;
    vertices = length-lists_by f (length one);
    darts = λ u v. (old_dart u v, new_dart u v);
  }

  abbrev FA : List ℕ
  FA = face_orbits one s1

  abbrev FB : List ℕ
  FB = face_orbits other s2

  abbrev CA : List ℕ
  CA = dart_classes one s1

  abbrev CB : List ℕ
  CB = dart_classes other s2

  more1 : (u v : ℕ) → HasDart one u v → HasDart new u v
  more1 u v d = new_dart u v (inl d)

  more2 : (u v : ℕ) → HasDart other u v → HasDart new u v
  more2 u v d = new_dart u v (inr d)

  module _ (p1 : IsPlane one) (p2 : IsPlane other) where
    -- the counts
    enough : (F K d : ℕ) → F + d ≡ class_count FA + class_count FB → K + d ≡ class_count CA + class_count CB → component_count new ≤ K + isolated_count new → isolated_count new + length one ≤ isolated_count one + isolated_count other + d → 2 * component_count new + edge_count new ≤ vertex_count new + (F + isolated_count new)
    enough F K d ef ek few iso =
        let n = length-lists_by f (length one) in
        omega (arith, edges_few, p1, p2, face_count-orbits one s1, face_count-orbits other s2, component_count-classes one s1, component_count-classes other s2)

    -- with edges of both at s
    at_s : 0 < length (list_of one s) → 0 < length (list_of other s) → s < length one → IsPlane new
    unfolding face_one face_other face_test part_test
    at_s some some' l =
        let a = head_of (list_of one s) in
        let b = head_of (list_of other s) in
        let da : HasDart one s a = (l, Contains-get_or (list_of one s) 0 0 some) in
        let db : HasDart other s b = (omega arith, Contains-get_or (list_of other s) 0 0 some') in
        let i = dart_number one (s, a) in
        let j = dart_number other (s, b) in
        let li = dart_number-lt one s a da in
        let lj = dart_number-lt other s b db in
        let wB = IsLabels-face_orbits other s2 in
        let vA = IsLabels-dart_classes one s1 in
        let vB = IsLabels-dart_classes other s2 in
        let n2 = length-face_orbits other s2 in
        let m2 = length-dart_classes other s2 in
        let za = label FA i in
        let zb = label FB j in
        let ya = label CA i in
        let yb = label CB j in
        let lb = label-lt FB wB j (omega arith) in
        let faces = counted_joined FA FB (IsLabels-face_orbits one s1) wB za zb lb (eq-eqb (label FB zb) zb (wB.own j)) in
        let parts = counted_joined CA CB vA vB ya yb (label-lt CB vB j (omega arith)) (eq-eqb (label CB yb) yb (vB.own j)) in
        let home = joined_more one new s1 s' more1 i ya li (omega arith) (sym (vA.own i)) in
        let bridge : (k : ℕ) → k < dart_count other → label CB k ≡ yb → Together (components new s') (tail_of other k) (tail_of one ya) = λ k lk e.
        joined_more other new s2 s' more2 k j lk lj e ∙ (ap (label (components new s')) (tail_of-number other s b db ∙ sym (tail_of-number one s a da)) ∙ home) in
        let few = components_by_marks new (part_mark one other new s1 s2 s' drawn in_one in_other ya yb) (length CA + length CB) (part_test one other new s1 s2 s' drawn in_one in_other ya yb) s'
        (part_marks one other new s1 s2 s' drawn in_one in_other more1 more2 ya yb (λ k lk e. (omega arith, vA.own i)) bridge) in
        let iso = isolated_many (λ v. eqb v s) (λ v lv h h'. eq-eqb v s (shared v (head_of (list_of one v)) (head_of (list_of other v)) (lv, Contains-get_or (list_of one v) 0 0 h) (omega arith, Contains-get_or (list_of other v) 0 0 h'))) in
        let once = count_below-one s (length one) in
        genus_by_marks new (M za zb) (length FA + length FB) (face_test one other new s1 s2 s' drawn in_one in_other za zb) s' (keeps za zb (λ _ _. (refl, refl))) (face_marks one other new s1 s2 s' drawn in_one in_other za zb (met zb))
        (enough (count_below (face_test one other new s1 s2 s' drawn in_one in_other za zb) (length FA + length FB)) (count_below (part_test one other new s1 s2 s' drawn in_one in_other ya yb) (length CA + length CB)) 1 faces parts few (omega arith))

    -- with edges of both at no vertex
    apart_s : (0 < length (list_of one s) → 0 < length (list_of other s) → ⊥) → IsPlane new
    unfolding face_test part_test
    apart_s none =
        let vB = IsLabels-dart_classes other s2 in
        let n2 = length-face_orbits other s2 in
        let m2 = length-dart_classes other s2 in
        let z = dart_count other in
        let faces = counted_apart FA FB (IsLabels-face_orbits one s1) (IsLabels-face_orbits other s2) 0 z (omega arith) in
        let parts = counted_apart CA CB (IsLabels-dart_classes one s1) vB 0 z (omega arith) in
        let off : (k : ℕ) → k < dart_count other → label CB k ≢ z = λ k lk e. let r = label-lt CB vB k (omega arith) in omega arith in
        let few = components_by_marks new (part_mark one other new s1 s2 s' drawn in_one in_other 0 z) (length CA + length CB) (part_test one other new s1 s2 s' drawn in_one in_other 0 z) s'
        (part_marks one other new s1 s2 s' drawn in_one in_other more1 more2 0 z (λ k lk e. absurd (off k lk e)) (λ k lk e. absurd (off k lk e))) in
        let iso = isolated_many (λ v. false) (λ v lv h h'.
        let at = shared v (head_of (list_of one v)) (head_of (list_of other v)) (lv, Contains-get_or (list_of one v) 0 0 h) (omega arith, Contains-get_or (list_of other v) 0 0 h') in
        absurd (none (subst (λ w. 0 < length (list_of one w)) at h) (subst (λ w. 0 < length (list_of other w)) at h'))) in
        let once = count_below_none (length one) in
        genus_by_marks new (M 0 z) (length FA + length FB) (face_test one other new s1 s2 s' drawn in_one in_other 0 z) s' (keeps 0 z (λ h h'. absurd (none h h'))) (face_marks one other new s1 s2 s' drawn in_one in_other 0 z (met z))
        (enough (count_below (face_test one other new s1 s2 s' drawn in_one in_other 0 z) (length FA + length FB)) (count_below (part_test one other new s1 s2 s' drawn in_one in_other 0 z) (length CA + length CB)) 0 (omega arith) (omega arith) few (omega arith))

-- So do those that have edges at one common vertex.
pub glued_at_vertex : (one other : Lists) (s : ℕ) → IsSimpleMap one → IsPlane one → IsSimpleMap other → IsPlane other → length other ≡ length one → ((w p q : ℕ) → HasDart one w p → HasDart other w q → w ≡ s) → IsUnion one other (glued_lists one other)
glued_at_vertex one other s s1 p1 s2 p2 same shared =
    is_union one other s s1 s2 same shared (elim (cases_empty (list_of one s)) [
      | inl none ↦ apart_s one other s s1 s2 same shared p1 p2 (λ h h'. let e = ap (λ us. length us) none in omega arith)
      | inr some ↦ elim (cases_empty (list_of other s)) [
        | inl none ↦ apart_s one other s s1 s2 same shared p1 p2 (λ h h'. let e = ap (λ us. length us) none in omega arith)
        | inr some' ↦ at_s one other s s1 s2 same shared p1 p2 some some' (elim (cases_lt s (length one)) [
          | inl l ↦ l
          | inr l ↦ absurd (let e = ap (λ (us : List ℕ). length us) (get_or_past one s [] l) in omega arith)
        ])
      ]
    ])
