-- Where the bound on the number of edges is met: the map is connected, and each face is a triangle.
use Rattle.std.proofs.Common.{◌≡◌, ◌≢◌, ◌⊎◌, ◌||◌, ℕ, zero, suc, ◌+◌, ◌*◌, ◌<◌, ◌≤◌, Bool, true, false, eqb, refl, sym, ap, ◌∙◌, inl, inr, arith}
use Rattle.std.proofs.lemmas.Bool.{cases_Bool, cases_eq, eqb-true, eq-eqb, or_left, or_right, or_cases, false_from_ne_true, true≢false}
use Rattle.classes.specs.Classes.{count_below, label, class_count}
use Rattle.classes.proofs.Counting.{one_if, count_below_none}
use Rattle.classes.proofs.Orbits.{orbits_of-marked, count_below-images}
use Rattle.map_lists.specs.Lists.{Lists}
use Rattle.map_theory.specs.Maps.{Dart, HasDart, IsSimpleMap, IsPlane, face_step, dart_number, dart_count, edge_count, vertex_count, component_count}
use Rattle.map_theory.proofs.DartLemmas.{dart_number-lt, dart_number-injective, HasDart-face_step}
use Rattle.map_theory.proofs.DartPermutations.{dart_of, dart_of-number, two_m, balances_map, vertex_count-orbits, component_count-classes}
use Rattle.plane_laws.specs.Laws.{FacesHaveThree, IsTriangle, EdgeBoundMet}
use Rattle.plane_laws.proofs.DartPaths.{face_step-number}
use Rattle.plane_laws.proofs.EdgeBound.{h, P, P_known, own_label, own_count, met_connected, own, short, own_same, turn, hw, no_fixed, one_of_three, count_three, none_isolated, none_of_two, short_round, edge_bound}

-- three tests of which one passes at most, and as often as there are numbers: one passes always
one_always : (p q r : ℕ → Bool) (n : ℕ) → ((i : ℕ) → i < n → one_if (p i) + one_if (q i) + one_if (r i) ≤ 1) → n ≤ count_below p n + count_below q n + count_below r n → (i : ℕ) → i < n → one_if (p i) + one_if (q i) + one_if (r i) ≡ 1
one_always p q r zero h many i l = absurd (omega arith)
one_always p q r (suc n) h many i l =
    let most = count_three p q r (λ j. false) n (λ j m. omega (arith, h j (omega arith))) in
    let none = count_below_none n in
    elim (cases_eq i n) [
      | inl e ↦ rw e (omega arith)
      | inr ne ↦ one_always p q r n (λ j m. h j (omega arith)) (omega arith) i (omega arith)
    ]

-- three tests of which one passes always
one_at_least : (p q r : ℕ → Bool) (n : ℕ) → ((i : ℕ) → i < n → 1 ≤ one_if (p i) + one_if (q i) + one_if (r i)) → n ≤ count_below p n + count_below q n + count_below r n
one_at_least p q r zero h = omega arith
one_at_least p q r (suc n) h = omega (arith, one_at_least p q r n (λ i l. h i (omega arith)), h n (omega arith))

module _ (lists : Lists) (simple : IsSimpleMap lists) where
  abbrev step : ℕ → ℕ
  step = h lists simple

  abbrev k : ℕ
  k = dart_count lists

  -- the face step by numbers
  step-number : (d : Dart) → HasDart lists d.0 d.1 → step (dart_number lists d) ≡ dart_number lists (face_step lists d)
  step-number = face_step-number lists simple

  -- no face step leads a dart to itself, and in a large connected map no two do
  pub faces_have_three_here : component_count lists ≡ 1 → 3 ≤ vertex_count lists → (d : Dart) → HasDart lists d.0 d.1 → (face_step lists d ≢ d) × (face_step lists (face_step lists d) ≢ d)
  faces_have_three_here one some d has =
      let next = HasDart-face_step lists d simple has in
      let i = dart_number lists d in
      let l = dart_number-lt lists d.0 d.1 has in
      let first = step-number d has in (
        λ e. no_fixed lists simple i l (first ∙ ap (dart_number lists) e),
        λ e. none_of_two lists simple (omega arith) some i l (ap step first ∙ (step-number (face_step lists d) next ∙ ap (dart_number lists) e)),
      )

  -- three steps, by numbers and by darts
  three-number : (d : Dart) → HasDart lists d.0 d.1 → step (step (step (dart_number lists d))) ≡ dart_number lists (face_step lists (face_step lists (face_step lists d)))
  three-number d has =
      let next = HasDart-face_step lists d simple has in
      let last = HasDart-face_step lists (face_step lists d) simple next in
      ap (λ i. step (step i)) (step-number d has) ∙ (ap step (step-number (face_step lists d) next) ∙ step-number (face_step lists (face_step lists d)) last)

  -- so a dart is on a triangle exactly where three steps lead its number back
  pub IsTriangle-number : (d : Dart) → HasDart lists d.0 d.1 → step (step (step (dart_number lists d))) ≡ dart_number lists d → IsTriangle lists d
  IsTriangle-number d has e =
      let last = HasDart-face_step lists (face_step lists d) simple (HasDart-face_step lists d simple has) in
      let third = face_step lists (face_step lists (face_step lists d)) in
      dart_number-injective lists third d (HasDart-face_step lists (face_step lists (face_step lists d)) simple last) has (sym (three-number d has) ∙ e)

  pub number-IsTriangle : (d : Dart) → HasDart lists d.0 d.1 → IsTriangle lists d → step (step (step (dart_number lists d))) ≡ dart_number lists d
  number-IsTriangle d has t = three-number d has ∙ ap (dart_number lists) t

  -- Where three times the faces are the darts, one of a dart and the next two is the least of its face.
  met_rounds : ((i : ℕ) → i < k → short lists simple i ≡ true → ⊥) → k ≤ 3 * class_count (P lists simple) → (i : ℕ) → i < k → step (step (step i)) ≡ i
  met_rounds none many i l =
      let w = hw lists simple in
      let mine = own lists simple in
      let l1 = w.within i l in
      let l2 = w.within (step i) l1 in
      let l3 = w.within (step (step i)) l2 in
      let count = own_count lists simple in
      let first = count_below-images step k w mine in
      let second = count_below-images step k w (λ j. mine (step j)) in
      let at_most : (j : ℕ) → j < k → one_if (mine j) + one_if (mine (step j)) + one_if (mine (step (step j))) ≤ 1 = λ j m.
      omega (arith, one_of_three lists simple j m, ap one_if (false_from_ne_true (short lists simple j) (none j m))) in
      let here = one_always mine (λ j. mine (step j)) (λ j. mine (step (step j))) k at_most (omega arith) in
      let now = here i l in
      let then' = here (step i) l1 in
      let after' = here (step (step i)) l2 in
      let round : (j : ℕ) → j < k → mine j ≡ true → mine (step (step (step j))) ≡ true → step (step (step j)) ≡ j = λ j m t t'.
      let m1 = w.within j m in
      let m2 = w.within (step j) m1 in
      sym (own_same lists simple j (step (step (step j))) t t' (turn lists simple j m ∙ (turn lists simple (step j) m1 ∙ turn lists simple (step (step j)) m2))) in
      grind (arith, cases_Bool, step, one_if)

  -- Where three steps lead back from each dart, one of a dart and the next two is the least of its face.
  met_counts : ((i : ℕ) → i < k → step (step (step i)) ≡ i) → k ≤ 3 * class_count (P lists simple)
  met_counts rounds =
      let w = hw lists simple in
      let F = P lists simple in
      let mine = own lists simple in
      let known = P_known lists simple in
      let first = count_below-images step k w mine in
      let second = count_below-images step k w (λ j. mine (step j)) in
      let some : (i : ℕ) → i < k → 1 ≤ one_if (mine i) + one_if (mine (step i)) + one_if (mine (step (step i))) = λ i l.
      let at = orbits_of-marked (in_round i) step k w.within (in_round-step i l) i (label F i) l (omega arith) (sym (known.own i)) in
      let mine_label : mine (label F i) ≡ true = own_label lists simple i in
      elim (in_round_cases i (label F i) (sym at ∙ or_left (eqb i i) (eqb i (step i) || eqb i (step (step i))) (eq-eqb i i refl))) [
        | inl e ↦ omega (arith, ap one_if (ap mine (sym e) ∙ mine_label))
        | inr r ↦ elim r [ inl e ↦ omega (arith, ap one_if (ap mine (sym e) ∙ mine_label)) | inr e ↦ omega (arith, ap one_if (ap mine (sym e) ∙ mine_label)) ]
      ] in
      omega (arith, one_at_least mine (λ j. mine (step j)) (λ j. mine (step (step j))) k some, first, second, own_count lists simple)
    where
      in_round : ℕ → ℕ → Bool
      in_round i y = eqb y i || (eqb y (step i) || eqb y (step (step i)))

      in_round_cases : (i y : ℕ) → in_round i y ≡ true → (y ≡ i) ⊎ ((y ≡ step i) ⊎ (y ≡ step (step i)))
      in_round_cases i y t =
          elim (or_cases (eqb y i) (eqb y (step i) || eqb y (step (step i))) t) [
            | inl e ↦ inl (eqb-true y i e)
            | inr r ↦ elim (or_cases (eqb y (step i)) (eqb y (step (step i))) r) [ inl e ↦ inr (inl (eqb-true y (step i) e)) | inr e ↦ inr (inr (eqb-true y (step (step i)) e)) ]
          ]

      in_round_has : (i y : ℕ) → (y ≡ i) ⊎ ((y ≡ step i) ⊎ (y ≡ step (step i))) → in_round i y ≡ true
      in_round_has i y h =
          elim h [
            | inl e ↦ or_left (eqb y i) (eqb y (step i) || eqb y (step (step i))) (eq-eqb y i e)
            | inr r ↦ or_right (eqb y i) (eqb y (step i) || eqb y (step (step i))) (elim r [ inl e ↦ or_left (eqb y (step i)) (eqb y (step (step i))) (eq-eqb y (step i) e) | inr e ↦ or_right (eqb y (step i)) (eqb y (step (step i))) (eq-eqb y (step (step i)) e) ])
          ]

      in_round-step : (i : ℕ) → i < k → (y : ℕ) → y < k → in_round i y ≡ in_round i (step y)
      in_round-step i l y m =
          let w = hw lists simple in
          let l1 = w.within i l in
          elim (cases_Bool (in_round i y)) [
            | inl t ↦ t ∙ sym (in_round_has i (step y) (elim (in_round_cases i y t) [
              | inl e ↦ inr (inl (ap step e))
              | inr r ↦ elim r [ inl e ↦ inr (inr (ap step e)) | inr e ↦ inl (ap step e ∙ rounds i l) ]
            ]))
            | inr t ↦ t ∙ sym (false_from_ne_true (in_round i (step y)) (λ t'. true≢false (sym (in_round_has i y (elim (in_round_cases i (step y) t') [
              | inl e ↦ inr (inr (w.apart y (step (step i)) m (w.within (step i) l1) (e ∙ sym (rounds i l))))
              | inr r ↦ elim r [ inl e ↦ inl (w.apart y i m l e) | inr e ↦ inr (inl (w.apart y (step i) m l1 e)) ]
            ])) ∙ t)))
          ]

  -- the two counts, of faces and of edges
  pub triangles_where_met : IsPlane lists → 3 ≤ vertex_count lists → edge_count lists + 6 ≡ 3 * vertex_count lists → (d : Dart) → HasDart lists d.0 d.1 → IsTriangle lists d
  triangles_where_met plane some met d has =
      let one = met_connected lists simple plane some met in
      let balance = balances_map lists simple 0 (omega (arith, plane)) in
      let points = vertex_count-orbits lists simple in
      let parts = component_count-classes lists simple in
      let double = two_m lists simple in
      let alone = none_isolated lists simple (omega arith) some in
      let rounds = met_rounds (λ i l t. none_of_two lists simple (omega arith) some i l (short_round lists simple i t)) (omega arith) (dart_number lists d) (dart_number-lt lists d.0 d.1 has) in
      IsTriangle-number d has rounds

  pub met_where_triangles : IsPlane lists → 3 ≤ vertex_count lists → component_count lists ≡ 1 → ((u v : ℕ) → HasDart lists u v → IsTriangle lists (u, v)) → edge_count lists + 6 ≡ 3 * vertex_count lists
  met_where_triangles plane some one triangles =
      let points = vertex_count-orbits lists simple in
      let parts = component_count-classes lists simple in
      let many = met_counts (λ i l.
      let p = dart_of-number lists simple i l in
      let d = dart_of lists i in
      ap (λ x. step (step (step x))) (sym p.number) ∙ (three-number d p.is_dart ∙ (ap (dart_number lists) (triangles d.0 d.1 p.is_dart) ∙ p.number))) in
      let bound = edge_bound lists simple plane some in
      omega (arith, balances_map lists simple 0 (omega (arith, plane)))

-- THE LAW: no face of a large connected map has fewer than three darts
pub faces_have_three : FacesHaveThree
faces_have_three lists u v simple one some has = faces_have_three_here lists simple one some (u, v) has

-- THE LAW: the bound is met where all faces are triangles
pub edge_bound_met : EdgeBoundMet
edge_bound_met lists simple plane some = (
  λ met. (met_connected lists simple plane some met, λ u v has. triangles_where_met lists simple plane some met (u, v) has),
  λ h. met_where_triangles lists simple plane some h.0 h.1,
)
