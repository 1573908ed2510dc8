-- Two maps glued along an edge: the face of (u, v) in the one and that of (v, u) in the other become one, (u, v) is drawn into the other's face and (v, u) into the one's.
use Rattle.std.proofs.Common.{◌≡◌, ◌≢◌, ◌⊎◌, ◌&&◌, ◌||◌, ℕ, ◌+◌, ◌*◌, ◌<◌, ◌≤◌, Bool, true, false, not, cond, eqb, List, ◌++◌, length, AllPairs, Contains, refl, sym, ap, ap₂, ◌∙◌, subst, inl, inr, arith}
use Rattle.std.proofs.lemmas.Bool.{cases_Bool, cases_eq, true≢false, eqb-true, eq-eqb, ne_eqb, cond-true, cond-false, and_from, and_parts, and_right, or_left, or_right}
use Rattle.std.proofs.lemmas.List.{append-nil}
use Rattle.std.proofs.lemmas.List.Elements.{Contains-append_cases, Contains-append_left, Contains-append_right, Contains-get_or}
use Rattle.classes.specs.Classes.{count_below, label, class_count}
use Rattle.classes.proofs.Counting.{count_below_all, count_below_more, one_if}
use Rattle.classes.proofs.Classes.{Together, label-lt}
use Rattle.map_lists.specs.Lists.{Lists}
use Rattle.map_theory.specs.Maps.{Dart, same_dart, HasDart, IsSimpleMap, IsPlane, list_of, follows, entry_after, dart_number, dart_count, edge_count, is_empty_list, isolated_count, vertex_count, component_count}
use Rattle.map_theory.proofs.DartLemmas.{dart_number-lt, dart_number-injective, HasDart-follows}
use Rattle.map_theory.proofs.EntryLemmas.{AllPairs-append}
use Rattle.map_theory.proofs.DartPermutations.{tail_of, dart_classes, IsLabels-dart_classes, components, face_count-orbits, component_count-classes, two_m}
use Rattle.plane_laws.proofs.DartPaths.{tail_of-number}
use Rattle.embed_surgery.proofs.Marks.{face_orbits, IsLabels-face_orbits, components_by_marks, genus_by_marks, KeepsFaces}
use Rattle.embed_surgery.proofs.Labels.{counted_joined}
use Rattle.embed_surgery.proofs.Unions.{length-face_orbits, length-dart_classes, joined_more, isolated-below, count_below-both, count_below-one, count_below-or, face_one, face_other, face_mark, face_mark-one, face_mark-joined, face_mark-same, face_test, AreMet, face_marks, part_mark, part_test, part_marks, darts_few, face_one-step, face_other-step}
use Rattle.embed_surgery.proofs.Entries.{head_of, glued-distinct, glued-old, glued-all, glued-first, glued-second, lists_by, glued_at, edge_glued_lists, IsUnion}
use Rattle.embed_surgery.proofs.UnionLists.{length-lists_by, list_of-lists_by, has_dart, has_dart-is, HasDart-from, union-old, union-new, IsSimpleMap-union}
use Rattle.embed_surgery.proofs.AtVertex.{cases_empty, is_empty_one, is_empty_append}

module _ (one other : Lists) (u v : ℕ) (s1 : IsSimpleMap one) (s2 : IsSimpleMap other) (same : length other ≡ length one) (has1 : HasDart one u v) (has2 : HasDart other u v) (shared : (w p q : ℕ) → HasDart one w p → HasDart other w q → (w ≡ u) ⊎ (w ≡ v)) where
  back1 : HasDart one v u
  back1 = s1.both_ways u v has1

  back2 : HasDart other v u
  back2 = s2.both_ways u v has2

  u_v : u ≢ v
  u_v e = s1.no_loop u v has1 (sym e)

  -- a dart of both is one of the edge
  both_is : (x y : ℕ) → HasDart one x y → HasDart other x y → ((x ≡ u) × (y ≡ v)) ⊎ ((x ≡ v) × (y ≡ u))
  both_is x y d d' =
      let loop : x ≢ y = λ e. s1.no_loop x y d (sym e) in
      elim (shared x y y d d') [
        | inl e ↦ elim (shared y x x (s1.both_ways x y d) (s2.both_ways x y d')) [ inl q ↦ absurd (loop (e ∙ sym q)) | inr q ↦ inl (e, q) ]
        | inr e ↦ elim (shared y x x (s1.both_ways x y d) (s2.both_ways x y d')) [ inl q ↦ inr (e, q) | inr q ↦ absurd (loop (e ∙ sym q)) ]
      ]

  -- ---- the lists
  at_u : List ℕ
  at_u = glued_at v (list_of one u) (list_of other u)

  at_v : List ℕ
  at_v = glued_at u (list_of other v) (list_of one v)

  f : ℕ → List ℕ
  f w = cond (eqb w u) at_u (cond (eqb w v) at_v (list_of one w ++ list_of other w))

  f_u : f u ≡ at_u
  unfolding f
  f_u = cond-true (eqb u u) at_u (cond (eqb u v) at_v (list_of one u ++ list_of other u)) (eq-eqb u u refl)

  f_v : f v ≡ at_v
  unfolding f
  f_v = cond-false (eqb v u) at_u (cond (eqb v v) at_v (list_of one v ++ list_of other v)) (ne_eqb v u (λ e. u_v (sym e))) ∙ cond-true (eqb v v) at_v (list_of one v ++ list_of other v) (eq-eqb v v refl)

  f_else : (w : ℕ) → w ≢ u → w ≢ v → f w ≡ list_of one w ++ list_of other w
  unfolding f
  f_else w n n' = cond-false (eqb w u) at_u (cond (eqb w v) at_v (list_of one w ++ list_of other w)) (ne_eqb w u n) ∙ cond-false (eqb w v) at_v (list_of one w ++ list_of other w) (ne_eqb w v n')

  alone_u : (z : ℕ) → Contains (list_of one u) z → Contains (list_of other u) z → z ≡ v
  alone_u z c c' = elim (both_is u z (has1.0, c) (has2.0, c')) [ inl e ↦ e.1 | inr e ↦ absurd (u_v e.0) ]

  alone_v : (z : ℕ) → Contains (list_of other v) z → Contains (list_of one v) z → z ≡ u
  alone_v z c c' = elim (both_is v z (back1.0, c') (back2.0, c)) [ inl e ↦ absurd (u_v (sym e.0)) | inr e ↦ e.1 ]

  by_vertex : (P : ℕ → List ℕ → Type 0) → P u at_u → P v at_v → ((w : ℕ) → w ≢ u → w ≢ v → P w (list_of one w ++ list_of other w)) → (w : ℕ) → P w (f w)
  by_vertex P in_u in_v rest w = grind (arith, cases_eq, f_u, f_v, f_else)

  f_distinct : (w : ℕ) → w < length one → AllPairs ◌≢◌ (f w)
  unfolding at_u at_v
  f_distinct =
      by_vertex (λ w us. w < length one → AllPairs ◌≢◌ us)
      (λ l. glued-distinct (list_of one u) (list_of other u) v (s1.no_repeat u l) (s2.no_repeat u has2.0) has1.1 has2.1 alone_u)
      (λ l. glued-distinct (list_of other v) (list_of one v) u (s2.no_repeat v back2.0) (s1.no_repeat v l) back2.1 back1.1 alone_v)
      (λ w n n' l. AllPairs-append (list_of one w) (list_of other w) (s1.no_repeat w l) (s2.no_repeat w (omega arith)) (λ z c c'. elim (shared w z z (l, c) (omega arith, c')) [ inl e ↦ n e | inr e ↦ n' e ]))

  abbrev Split : ℕ → List ℕ → Type 0
  Split w us = (z : ℕ) → (Contains us z → Contains (list_of one w) z ⊎ Contains (list_of other w) z) × (Contains (list_of one w) z ⊎ Contains (list_of other w) z → Contains us z)

  turned : (A B : Type 0) → A ⊎ B → B ⊎ A
  turned A B h = elim h [ inl a ↦ inr a | inr b ↦ inl b ]

  f_split : (w : ℕ) → Split w (f w)
  unfolding at_u at_v
  f_split =
      by_vertex Split
      (λ z. (glued-old (list_of one u) (list_of other u) v (s1.no_repeat u has1.0) (s2.no_repeat u has2.0) has1.1 has2.1 alone_u z, glued-all (list_of one u) (list_of other u) v (s1.no_repeat u has1.0) (s2.no_repeat u has2.0) has1.1 has2.1 alone_u z))
      (λ z. (
        (λ c. turned (Contains (list_of other v) z) (Contains (list_of one v) z) (glued-old (list_of other v) (list_of one v) u (s2.no_repeat v back2.0) (s1.no_repeat v back1.0) back2.1 back1.1 alone_v z c)),
        λ h. glued-all (list_of other v) (list_of one v) u (s2.no_repeat v back2.0) (s1.no_repeat v back1.0) back2.1 back1.1 alone_v z (turned (Contains (list_of one v) z) (Contains (list_of other v) z) h),
      ))
      (λ w n n' z. (
        Contains-append_cases (list_of one w) (list_of other w) z,
        λ h. elim h [ inl c ↦ Contains-append_left (list_of one w) (list_of other w) z c | inr c ↦ Contains-append_right (list_of one w) (list_of other w) z c ],
      ))

  abbrev new : Lists
  new = edge_glued_lists one other u v

  new_is : new ≡ lists_by f (length one)
  unfolding f at_u at_v
  new_is = refl

  s' : IsSimpleMap new
  s' = subst IsSimpleMap (sym new_is) (IsSimpleMap-union one other s1 s2 same f f_distinct (λ w z l c. (f_split w z).0 c) (λ w z l h. (f_split w z).1 h))

  old_dart : (x y : ℕ) → HasDart new x y → HasDart one x y ⊎ HasDart other x y
  old_dart x y d = union-old one other s1 s2 same f f_distinct (λ w z l c. (f_split w z).0 c) (λ w z l h. (f_split w z).1 h) x y (subst (λ l. HasDart l x y) new_is d)

  new_dart : (x y : ℕ) → HasDart one x y ⊎ HasDart other x y → HasDart new x y
  new_dart x y h = subst (λ l. HasDart l x y) (sym new_is) (union-new one other s1 s2 same f f_distinct (λ w z l c. (f_split w z).0 c) (λ w z l h. (f_split w z).1 h) x y h)

  length-new : length new ≡ length one
  length-new = ap (λ (l : Lists). length l) new_is ∙ length-lists_by f (length one)

  list_new : (w : ℕ) → w < length one → list_of new w ≡ f w
  list_new w l = ap (λ ls. list_of ls w) new_is ∙ list_of-lists_by f (length one) w l

  -- ---- what follows what
  turn_u : (x : ℕ) → HasDart one u x → ((follows new u x ≡ follows one u x) × (follows one u x ≢ v)) ⊎ ((follows one u x ≡ v) × (follows new u x ≡ follows other u v))
  unfolding at_u
  turn_u x d =
      let e = ap (entry_after x) (list_new u d.0 ∙ f_u) in
      elim (glued-first (list_of one u) (list_of other u) v (s1.no_repeat u has1.0) (s2.no_repeat u has2.0) has1.1 has2.1 alone_u x d.1) [
        | inl q ↦ inl (e ∙ q.0, q.1)
        | inr q ↦ inr (q.0, e ∙ q.1)
      ]

  turn_u-other : (x : ℕ) → HasDart other u x → x ≢ v → follows new u x ≡ follows other u x
  unfolding at_u
  turn_u-other x d n =
      ap (entry_after x) (list_new u has1.0 ∙ f_u) ∙ glued-second (list_of one u) (list_of other u) v (s1.no_repeat u has1.0) (s2.no_repeat u has2.0) has1.1 has2.1 alone_u x d.1 n

  turn_v : (x : ℕ) → HasDart other v x → ((follows new v x ≡ follows other v x) × (follows other v x ≢ u)) ⊎ ((follows other v x ≡ u) × (follows new v x ≡ follows one v u))
  unfolding at_v
  turn_v x d =
      let e = ap (entry_after x) (list_new v back1.0 ∙ f_v) in
      elim (glued-first (list_of other v) (list_of one v) u (s2.no_repeat v back2.0) (s1.no_repeat v back1.0) back2.1 back1.1 alone_v x d.1) [
        | inl q ↦ inl (e ∙ q.0, q.1)
        | inr q ↦ inr (q.0, e ∙ q.1)
      ]

  turn_v-one : (x : ℕ) → HasDart one v x → x ≢ u → follows new v x ≡ follows one v x
  unfolding at_v
  turn_v-one x d n =
      ap (entry_after x) (list_new v back1.0 ∙ f_v) ∙ glued-second (list_of other v) (list_of one v) u (s2.no_repeat v back2.0) (s1.no_repeat v back1.0) back2.1 back1.1 alone_v x d.1 n

  turn_else : (y x : ℕ) → y ≢ u → y ≢ v → HasDart one y x → follows new y x ≡ follows one y x
  turn_else y x n n' d =
      ap (entry_after x) (list_new y d.0 ∙ f_else y n n') ∙ elim (cases_empty (list_of other y)) [
        | inl none ↦ ap (entry_after x) (ap (λ us. list_of one y ++ us) none ∙ append-nil (list_of one y))
        | inr some ↦ absurd (elim (shared y x (head_of (list_of other y)) d (let m = d.0 in omega arith, Contains-get_or (list_of other y) 0 0 some)) [ inl e ↦ n e | inr e ↦ n' e ])
      ]

  turn_else-other : (y x : ℕ) → y ≢ u → y ≢ v → HasDart other y x → follows new y x ≡ follows other y x
  turn_else-other y x n n' d =
      let l : y < length one = let m = d.0 in omega arith in
      ap (entry_after x) (list_new y l ∙ f_else y n n') ∙ elim (cases_empty (list_of one y)) [
        | inl none ↦ ap (entry_after x) (ap (λ us. us ++ list_of other y) none)
        | inr some ↦ absurd (elim (shared y (head_of (list_of one y)) x (l, Contains-get_or (list_of one y) 0 0 some) d) [ inl e ↦ n e | inr e ↦ n' e ])
      ]

  -- ---- as which a dart is drawn
  drawn : Dart → Bool
  drawn d = has_dart one d && not (same_dart d (u, v))

  drawn_one : (x y : ℕ) → HasDart one x y → ((x ≡ u) × (y ≡ v) → ⊥) → drawn (x, y) ≡ true
  unfolding drawn
  drawn_one x y d n = grind (arith, and_from, has_dart, not, same_dart, has_dart-is, cases_Bool, and_parts, eqb, eqb-true)

  drawn_other : (x y : ℕ) → HasDart other x y → ((x ≡ v) × (y ≡ u) → ⊥) → drawn (x, y) ≡ false
  unfolding drawn
  drawn_other x y d n =
      elim (cases_Bool (has_dart one (x, y))) [
        | inl t ↦ elim (both_is x y (HasDart-from one x y t) d) [
          | inl e ↦ and_right (has_dart one (x, y)) (not (same_dart (x, y) (u, v))) (ap not (and_from (eqb x u) (eqb y v) (eq-eqb x u e.0) (eq-eqb y v e.1)))
          | inr e ↦ absurd (n e)
        ]
        | inr t ↦ ap (λ b. b && not (same_dart (x, y) (u, v))) t
      ]

  drawn_is : (x y : ℕ) → drawn (x, y) ≡ true → HasDart one x y × ((x ≡ u) × (y ≡ v) → ⊥)
  unfolding drawn
  drawn_is x y t =
      let p = and_parts (has_dart one (x, y)) (not (same_dart (x, y) (u, v))) t in
      (HasDart-from one x y p.0, λ e. true≢false (sym p.1 ∙ ap not (and_from (eqb x u) (eqb y v) (eq-eqb x u e.0) (eq-eqb y v e.1))))

  in_one : (x y : ℕ) → HasDart new x y → drawn (x, y) ≡ true → HasDart one x y
  in_one x y d t = (drawn_is x y t).0

  in_other : (x y : ℕ) → HasDart new x y → drawn (x, y) ≡ false → HasDart other x y
  in_other x y d t =
      elim (old_dart x y d) [
        | inr h ↦ h
        | inl h ↦ grind (arith, cases_eq, true≢false, drawn_one, HasDart)
      ]

  abbrev F1 : Dart → ℕ
  F1 = face_one one other new s1 s2 s' drawn in_one in_other

  abbrev F2 : Dart → ℕ
  F2 = face_other one other new s1 s2 s' drawn in_one in_other

  step_one : (x y : ℕ) → HasDart one x y → F1 (y, follows one y x) ≡ F1 (x, y)
  step_one = face_one-step one other new s1 s2 s' drawn in_one in_other

  step_other : (x y : ℕ) → HasDart other x y → F2 (y, follows other y x) ≡ F2 (x, y)
  step_other = face_other-step one other new s1 s2 s' drawn in_one in_other

  abbrev za : ℕ
  za = F1 (u, v)

  abbrev zb : ℕ
  zb = F2 (v, u)

  abbrev M : Dart → ℕ
  M = face_mark one other new s1 s2 s' drawn in_one in_other za zb

  as_one : (x y : ℕ) → drawn (x, y) ≡ true → M (x, y) ≡ F1 (x, y)
  as_one x y t = face_mark-one one other new s1 s2 s' drawn in_one in_other za zb (x, y) t

  as_joined : (x y : ℕ) → drawn (x, y) ≡ false → F2 (x, y) ≡ zb → M (x, y) ≡ za
  as_joined x y t e = face_mark-joined one other new s1 s2 s' drawn in_one in_other za zb (x, y) t e

  as_same : (x y w z : ℕ) → drawn (x, y) ≡ false → drawn (w, z) ≡ false → F2 (x, y) ≡ F2 (w, z) → M (x, y) ≡ M (w, z)
  as_same x y w z t t' e = face_mark-same one other new s1 s2 s' drawn in_one in_other za zb (x, y) (w, z) t t' e

  met : AreMet one other new s1 s2 s' drawn in_one in_other zb
  met = record {
    pick = λ d. cond {A = Dart} (same_dart d (u, v)) (v, follows one v u) d;
    of_one = λ x y d. elim (cases_Bool (same_dart (x, y) (u, v))) [
      | inl t ↦
          let p = and_parts (eqb x u) (eqb y v) t in
          let e : cond {A = Dart} (same_dart (x, y) (u, v)) (v, follows one v u) (x, y) ≡ (v, follows one v u) = cond-true {A = Dart} (same_dart (x, y) (u, v)) (v, follows one v u) (x, y) t in
          let next = HasDart-follows one v u back1 in
          subst (λ (c : Dart). HasDart new c.0 c.1 × (drawn c ≡ true) × (F1 c ≡ F1 (x, y))) (sym e)
          (new_dart v (follows one v u) (inl next), drawn_one v (follows one v u) next (λ q. u_v (sym q.0)), step_one u v has1 ∙ ap₂ (λ a b. F1 (a, b)) (sym (eqb-true x u p.0)) (sym (eqb-true y v p.1)))
      | inr t ↦
          let e : cond {A = Dart} (same_dart (x, y) (u, v)) (v, follows one v u) (x, y) ≡ (x, y) = cond-false {A = Dart} (same_dart (x, y) (u, v)) (v, follows one v u) (x, y) t in
          subst (λ (c : Dart). HasDart new c.0 c.1 × (drawn c ≡ true) × (F1 c ≡ F1 (x, y))) (sym e)
          (new_dart x y (inl d), drawn_one x y d (λ q. true≢false (sym (and_from (eqb x u) (eqb y v) (eq-eqb x u q.0) (eq-eqb y v q.1)) ∙ t)), refl)
    ];
    of_other = λ x y d ne. (new_dart x y (inr d), drawn_other x y d (λ q. ne (ap₂ (λ a b. F2 (a, b)) q.0 q.1)));
  }

  -- ---- steps
  keeps_u : (x : ℕ) → HasDart new x u → M (u, follows new u x) ≡ M (x, u)
  keeps_u x d =
      elim (cases_Bool (has_dart one (x, u))) [
        | inl t ↦
            let h = HasDart-from one x u t in
            let here = as_one x u (drawn_one x u h (λ q. u_v q.1)) in
            let back = s1.both_ways x u h in
            elim (turn_u x back) [
              | inl q ↦
                  let next = HasDart-follows one u x back in
                  ap (λ w. M (u, w)) q.0 ∙ (as_one u (follows one u x) (drawn_one u (follows one u x) next (λ r. q.1 r.1)) ∙ (step_one x u h ∙ sym here))
              | inr q ↦
                  let next = HasDart-follows other u v has2 in
                  ap (λ w. M (u, w)) q.1
                  ∙ (as_joined u (follows other u v) (drawn_other u (follows other u v) next (λ r. u_v r.0)) (step_other v u back2)
                  ∙ (ap (λ w. F1 (u, w)) (sym q.0) ∙ (step_one x u h ∙ sym here)))
            ]
        | inr t ↦
            let h : HasDart other x u = elim (old_dart x u d) [ inl h' ↦ absurd (true≢false (sym (has_dart-is one x u h') ∙ t)) | inr h' ↦ h' ] in
            let not_v : x ≢ v = λ e. true≢false (sym (has_dart-is one x u (subst (λ z. HasDart one z u) (sym e) back1)) ∙ t) in
            let back = s2.both_ways x u h in
            let next = HasDart-follows other u x back in
            ap (λ w. M (u, w)) (turn_u-other x back not_v) ∙ as_same u (follows other u x) x u (drawn_other u (follows other u x) next (λ r. u_v r.0)) (drawn_other x u h (λ r. not_v r.0)) (step_other x u h)
      ]

  keeps_v : (x : ℕ) → HasDart new x v → M (v, follows new v x) ≡ M (x, v)
  keeps_v x d =
      elim (cases_Bool (drawn (x, v))) [
        | inr t ↦
            let h = in_other x v d t in
            let back = s2.both_ways x v h in
            elim (turn_v x back) [
              | inl q ↦
                  let next = HasDart-follows other v x back in
                  ap (λ w. M (v, w)) q.0 ∙ as_same v (follows other v x) x v (drawn_other v (follows other v x) next (λ r. q.1 r.1)) t (step_other x v h)
              | inr q ↦
                  let next = HasDart-follows one v u back1 in
                  let here : F2 (x, v) ≡ zb = sym (step_other x v h) ∙ ap (λ w. F2 (v, w)) q.0 in
                  ap (λ w. M (v, w)) q.1 ∙ (as_one v (follows one v u) (drawn_one v (follows one v u) next (λ r. u_v (sym r.0))) ∙ (step_one u v has1 ∙ sym (as_joined x v t here)))
            ]
        | inl t ↦
            let r = drawn_is x v t in
            let back = s1.both_ways x v r.0 in
            let next = HasDart-follows one v x back in
            ap (λ w. M (v, w)) (turn_v-one x back (λ e. r.1 (e, refl))) ∙ (as_one v (follows one v x) (drawn_one v (follows one v x) next (λ q. u_v (sym q.0))) ∙ (step_one x v r.0 ∙ sym (as_one x v t)))
      ]

  keeps : KeepsFaces new M
  keeps x y d =
      elim (cases_eq y u) [
        | inl e ↦ subst (λ z. M (z, follows new z x) ≡ M (x, z)) (sym e) (keeps_u x (subst (HasDart new x) e d))
        | inr n ↦ elim (cases_eq y v) [
          | inl e ↦ subst (λ z. M (z, follows new z x) ≡ M (x, z)) (sym e) (keeps_v x (subst (HasDart new x) e d))
          | inr n' ↦ elim (cases_Bool (drawn (x, y))) [
            | inl t ↦
                let h = in_one x y d t in
                let back = s1.both_ways x y h in
                let next = HasDart-follows one y x back in
                ap (λ w. M (y, w)) (turn_else y x n n' back) ∙ (as_one y (follows one y x) (drawn_one y (follows one y x) next (λ q. n q.0)) ∙ (step_one x y h ∙ sym (as_one x y t)))
            | inr t ↦
                let h = in_other x y d t in
                let back = s2.both_ways x y h in
                let next = HasDart-follows other y x back in
                ap (λ w. M (y, w)) (turn_else-other y x n n' back) ∙ as_same y (follows other y x) x y (drawn_other y (follows other y x) next (λ q. n' q.0)) t (step_other x y h)
          ]
        ]
      ]

  -- ---- counts
  abbrev a : ℕ
  a = dart_number one (u, v)

  abbrev b : ℕ
  b = dart_count one + dart_number other (v, u)

  passes : ℕ → Bool
  passes j = not (eqb j a) && not (eqb j b)

  count_passes : count_below passes (dart_count one + dart_count other) + 2 ≡ dart_count one + dart_count other
  unfolding passes
  count_passes =
      let la = dart_number-lt one u v has1 in
      let lb = dart_number-lt other v u back2 in
      let n = dart_count one + dart_count other in
      let all = count_below_all n in
      let first = count_below_more (λ j. not (eqb j a)) (λ j. true) n a (omega arith) (ap not (eq-eqb a a refl)) refl (λ i l ne. ap not (ne_eqb i a ne)) in
      let second = count_below_more (λ j. not (eqb j a) && not (eqb j b)) (λ j. not (eqb j a)) n b (omega arith) (and_right (not (eqb b a)) (not (eqb b b)) (ap not (eq-eqb b b refl))) (ap not (ne_eqb b a (λ e. omega arith)))
      (λ i l ne. and_one (not (eqb i a)) (not (eqb i b)) (ap not (ne_eqb i b ne))) in
      omega arith
    where
      and_one : (c d : Bool) → d ≡ true → (c && d) ≡ c
      and_one true d e = e
      and_one false d e = refl

  edges_few : edge_count new + 1 ≤ edge_count one + edge_count other
  unfolding passes
  edges_few =
      let la = dart_number-lt one u v has1 in
      let few = darts_few one other new s1 s2 s' drawn in_one in_other (λ j. not (eqb j a) && not (eqb j b))
      (λ x y d t.
      let r = drawn_is x y t in
      let l = dart_number-lt one x y r.0 in
      and_from (not (eqb (dart_number one (x, y)) a)) (not (eqb (dart_number one (x, y)) b))
      (ap not (ne_eqb (dart_number one (x, y)) a (λ e. let q = dart_number-injective one (x, y) (u, v) r.0 has1 e in r.1 (ap (λ (c : Dart). c.0) q, ap (λ (c : Dart). c.1) q))))
      (ap not (ne_eqb (dart_number one (x, y)) b (λ e. omega arith))))
      (λ x y d t.
      let j = dart_count one + dart_number other (x, y) in
      and_from (not (eqb j a)) (not (eqb j b)) (ap not (ne_eqb j a (λ e. omega arith)))
      (ap not (ne_eqb j b (λ e.
      let q = dart_number-injective other (x, y) (v, u) (in_other x y d t) back2 (omega arith) in
      true≢false (sym (drawn_one v u back1 (λ r. u_v (sym r.0))) ∙ (ap drawn (sym q) ∙ t)))))) in
      omega (arith, count_passes, two_m one s1, two_m other s2, two_m new s')

  abbrev ends : ℕ → Bool
  ends w = eqb w u || eqb w v

  isolated_many : isolated_count new + length one ≤ isolated_count one + isolated_count other + 2
  isolated_many =
      let each = count_below-both (λ w. is_empty_list (list_of one w)) (λ w. is_empty_list (list_of other w)) (λ w. is_empty_list (list_of new w)) ends (length one) (λ w l.
      let A = list_of one w in
      let B = list_of other w in
      let ended : HasDart new w w ⊎ ((z : ℕ) × HasDart new w z) → ends w ≡ true → one_if (is_empty_list (list_of new w)) + 1 ≤ one_if (is_empty_list A) + one_if (is_empty_list B) + one_if (ends w) = λ h t.
      elim (is_empty_one (list_of new w)) [
        | inl z ↦ let t' = ap one_if t in omega arith
        | inr z ↦ absurd (elim h [
          | inl d ↦ let e = ap (λ (us : List ℕ). length us) z.1 in let m = d.1.1 in omega arith
          | inr d ↦ let e = ap (λ (us : List ℕ). length us) z.1 in let m = d.1.1.1 in omega arith
        ])
      ] in
      elim (cases_eq w u) [
        | inl e ↦ ended (inr (v, subst (λ z. HasDart new z v) (sym e) (new_dart u v (inl has1)))) (or_left (eqb w u) (eqb w v) (eq-eqb w u e))
        | inr ne ↦ elim (cases_eq w v) [
          | inl e ↦ ended (inr (u, subst (λ z. HasDart new z u) (sym e) (new_dart v u (inl back1)))) (or_right (eqb w u) (eqb w v) (eq-eqb w v e))
          | inr ne' ↦
              let e = ap (λ us. one_if (is_empty_list us)) (list_new w l ∙ f_else w ne ne') in
              elim (is_empty_one (A ++ B)) [
                | inr h ↦ let p = is_empty_append A B h.0 in let x = p.0 in let y = p.1 in let c = h.0 in omega arith
                | inl h ↦
                    elim (cases_empty A) [
                      | inl q ↦ let x = ap (λ us. one_if (is_empty_list us)) q in omega arith
                      | inr some ↦ elim (cases_empty B) [
                        | inl q ↦ let y = ap (λ us. one_if (is_empty_list us)) q in omega arith
                        | inr some' ↦ absurd (elim (shared w (head_of A) (head_of B) (l, Contains-get_or A 0 0 some) (omega arith, Contains-get_or B 0 0 some')) [ inl q ↦ ne q | inr q ↦ ne' q ])
                      ]
                    ]
              ]
        ]
      ]) in
      let i' = isolated-below new ∙ ap (count_below (λ w. is_empty_list (list_of new w))) length-new in
      let two = count_below-or (λ w. eqb w u) (λ w. eqb w v) (length one) in
      let at_most = count_below-one u (length one) in
      let at_most' = count_below-one v (length one) in
      omega (arith, isolated-below other ∙ ap (count_below (λ w. is_empty_list (list_of other w))) same, isolated-below one)

  abbrev FA : List ℕ
  FA = face_orbits one s1

  abbrev FB : List ℕ
  FB = face_orbits other s2

  abbrev CA : List ℕ
  CA = dart_classes one s1

  abbrev CB : List ℕ
  CB = dart_classes other s2

  more1 : (x y : ℕ) → HasDart one x y → HasDart new x y
  more1 x y d = new_dart x y (inl d)

  more2 : (x y : ℕ) → HasDart other x y → HasDart new x y
  more2 x y d = new_dart x y (inr d)

  module _ (p1 : IsPlane one) (p2 : IsPlane other) where
    enough : (F K : ℕ) → F + 1 ≡ class_count FA + class_count FB → K + 1 ≡ class_count CA + class_count CB → component_count new ≤ K + isolated_count new → 2 * component_count new + edge_count new ≤ vertex_count new + (F + isolated_count new)
    enough F K ef ek few =
        omega (arith, isolated_many, edges_few, length-new, p1, p2, face_count-orbits one s1, face_count-orbits other s2, component_count-classes one s1, component_count-classes other s2)

    plane : IsPlane new
    unfolding face_one face_other face_test part_test
    plane =
        let j = dart_number other (v, u) in
        let lj = dart_number-lt other v u back2 in
        let wB = IsLabels-face_orbits other s2 in
        let vA = IsLabels-dart_classes one s1 in
        let vB = IsLabels-dart_classes other s2 in
        let n2 = length-face_orbits other s2 in
        let m2 = length-dart_classes other s2 in
        let i = dart_number one (u, v) in
        let li = dart_number-lt one u v has1 in
        let c = dart_number other (u, v) in
        let lc = dart_number-lt other u v has2 in
        let ya = label CA i in
        let yb = label CB c in
        let lb = label-lt FB wB j (omega arith) in
        let faces = counted_joined FA FB (IsLabels-face_orbits one s1) wB za zb lb (eq-eqb (label FB zb) zb (wB.own j)) in
        let parts = counted_joined CA CB vA vB ya yb (label-lt CB vB c (omega arith)) (eq-eqb (label CB yb) yb (vB.own c)) in
        let home = joined_more one new s1 s' more1 i ya li (omega arith) (sym (vA.own i)) in
        let bridge : (k : ℕ) → k < dart_count other → label CB k ≡ yb → Together (components new s') (tail_of other k) (tail_of one ya) = λ k lk e.
        joined_more other new s2 s' more2 k c lk lc e ∙ (ap (label (components new s')) (tail_of-number other u v has2 ∙ sym (tail_of-number one u v has1)) ∙ home) in
        let few = components_by_marks new (part_mark one other new s1 s2 s' drawn in_one in_other ya yb) (length CA + length CB) (part_test one other new s1 s2 s' drawn in_one in_other ya yb) s'
        (part_marks one other new s1 s2 s' drawn in_one in_other more1 more2 ya yb (λ k lk e. (omega arith, vA.own i)) bridge) in
        genus_by_marks new M (length FA + length FB) (face_test one other new s1 s2 s' drawn in_one in_other za zb) s' keeps (face_marks one other new s1 s2 s' drawn in_one in_other za zb met)
        (enough (count_below (face_test one other new s1 s2 s' drawn in_one in_other za zb) (length FA + length FB)) (count_below (part_test one other new s1 s2 s' drawn in_one in_other ya yb) (length CA + length CB)) faces parts few)

-- And those that have an edge in common, and edges at no other common vertex.
pub glued_along_edge : (one other : Lists) (u v : ℕ) → IsSimpleMap one → IsPlane one → IsSimpleMap other → IsPlane other → length other ≡ length one → HasDart one u v → HasDart other u v → ((w p q : ℕ) → HasDart one w p → HasDart other w q → (w ≡ u) ⊎ (w ≡ v)) → IsUnion one other (edge_glued_lists one other u v)
glued_along_edge one other u v s1 p1 s2 p2 same has1 has2 shared = record {
  simple = s' one other u v s1 s2 same has1 has2 shared;
  plane = plane one other u v s1 s2 same has1 has2 shared p1 p2;
  vertices = length-new one other u v s1 s2 same has1 has2 shared;
  darts = λ x y. (old_dart one other u v s1 s2 same has1 has2 shared x y, new_dart one other u v s1 s2 same has1 has2 shared x y);
}
