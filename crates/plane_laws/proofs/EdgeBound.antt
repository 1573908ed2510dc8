-- A simple map of genus zero with at least three vertices has at most 3n - 6 edges: a face has three darts or more, but for that of an edge by itself.
use Rattle.std.proofs.Common.{◌≡◌, ◌≢◌, ◌⊎◌, ◌&&◌, ◌||◌, ℕ, zero, suc, ◌+◌, ◌*◌, ◌<◌, ◌≤◌, Bool, true, false, eqb, List, length, refl, sym, ap, ap₂, ◌∙◌, inl, inr, arith}
use Rattle.std.proofs.lemmas.Bool.{cases_Bool, cases_eq, cases_lt, eqb-true, eq-eqb, ne_eqb, and_parts, or_left, or_right, or_cases}
use Rattle.classes.specs.Classes.{count_below, label, class_count}
use Rattle.map_lists.specs.Lists.{Lists}
use Rattle.map_theory.specs.Maps.{IsSimpleMap, IsPlane, dart_number, dart_count, edge_count, vertex_count, component_count, isolated_count}
use Rattle.plane_laws.specs.Laws.{EdgeBound}
use Rattle.classes.proofs.Counting.{one_if, count_below-le, count_below_into, count_below_weaker, count_below_but_two}
use Rattle.classes.proofs.Classes.{Together, IsLabels}
use Rattle.classes.proofs.Orbits.{orbits_of, length-orbits_of, IsLabels-orbits_of, orbits_of-step, IsPermuting, count_below-images}
use Rattle.classes.proofs.Bound.{length-joint, joint-marked, IsPairing, IsPermuting-pairing, IsPermuting-after, after, Balances}
use Rattle.map_theory.proofs.DartPermutations.{dart_of, tail_of, rotation, twin, IsPermuting-rotation, IsPairing-twin, dart_of-number, dart_of-twin, tail_of-rotation, two_m, balances_map, vertex_count-orbits, component_count-classes, dart_classes, IsLabels-dart_classes}

-- three tests of which one passes at most, or two where a fourth passes
pub count_three : (p q r s : ℕ → Bool) (n : ℕ) → ((i : ℕ) → i < n → one_if (p i) + one_if (q i) + one_if (r i) ≤ 1 + one_if (s i)) → count_below p n + count_below q n + count_below r n ≤ n + count_below s n
count_three p q r s zero h = omega arith
count_three p q r s (suc n) h = omega (arith, count_three p q r s n (λ i l. h i (omega arith)), h n (omega arith))

-- a test that passes at two numbers passes twice
count_two : (p : ℕ → Bool) (n a b : ℕ) → a < n → b < n → a ≢ b → p a ≡ true → p b ≡ true → 2 ≤ count_below p n
count_two p n a b la lb ne ta tb =
    let both : ℕ → Bool = λ i. eqb i a || eqb i b in
    let none = count_below_but_two both (λ i. false) n a b la lb ne (λ i l d d'. rw (ne_eqb i a d, ne_eqb i b d') refl) in
    let less = count_below_weaker both p n (λ i l t. elim (or_cases (eqb i a) (eqb i b) t) [ inl e ↦ ap p (eqb-true i a e) ∙ ta | inr e ↦ ap p (eqb-true i b e) ∙ tb ]) in
    omega (arith, none, less, ap one_if (or_left (eqb a a) (eqb a b) (eq-eqb a a refl)), ap one_if (or_right (eqb b a) (eqb b b) (eq-eqb b b refl)))

-- at most two numbers below k: then k is at most two
at_most_two : (k a b : ℕ) → ((i : ℕ) → i < k → (i ≡ a) ⊎ (i ≡ b)) → k ≤ 2
at_most_two k a b h =
    elim (cases_lt k 3) [
      | inl l ↦ omega arith
      | inr l ↦
          elim (h 0 (omega arith)) [
            | inl e0 ↦ elim (h 1 (omega arith)) [
              | inl e1 ↦ absurd (omega arith)
              | inr e1 ↦ elim (h 2 (omega arith)) [ inl e2 ↦ absurd (omega arith) | inr e2 ↦ absurd (omega arith) ]
            ]
            | inr e0 ↦ elim (h 1 (omega arith)) [
              | inl e1 ↦ elim (h 2 (omega arith)) [ inl e2 ↦ absurd (omega arith) | inr e2 ↦ absurd (omega arith) ]
              | inr e1 ↦ absurd (omega arith)
            ]
          ]
    ]

-- a test that passes nowhere, or somewhere
some_pass : (p : ℕ → Bool) (n : ℕ) → (count_below p n ≡ 0) ⊎ ((i : ℕ) × (i < n) × (p i ≡ true))
some_pass p zero = inl refl
some_pass p (suc n) =
    elim (cases_Bool (p n)) [
      | inl t ↦ inr (n, omega arith, t)
      | inr t ↦ elim (some_pass p n) [ inl e ↦ inl (omega (arith, e, ap one_if t)) | inr r ↦ inr (r.0, omega arith, r.2) ]
    ]

-- where there is one class, all are in it
pub one_class : (labels : List ℕ) → IsLabels labels → class_count labels ≤ 1 → (i j : ℕ) → i < length labels → j < length labels → Together labels i j
one_class labels w few i j l m =
    elim (cases_eq (label labels i) (label labels j)) [
      | inl e ↦ e
      | inr ne ↦
          let low = w.low i in
          let two = count_two (λ x. eqb (label labels x) x) (length labels) (label labels i) (label labels j) (omega (arith, w.low j)) (omega arith) ne (eq-eqb (label labels (label labels i)) (label labels i) (w.own i)) (eq-eqb (label labels (label labels j)) (label labels j) (w.own j)) in
          absurd (omega arith)
    ]

module _ (lists : Lists) (simple : IsSimpleMap lists) where
  abbrev pub f : ℕ → ℕ
  f = rotation lists

  abbrev pub g : ℕ → ℕ
  g = twin lists

  abbrev pub k : ℕ
  k = dart_count lists

  abbrev pub h : ℕ → ℕ
  h = after f g

  pair : IsPairing g k
  pair = IsPairing-twin lists simple

  w : IsPermuting f k
  w = IsPermuting-rotation lists simple

  pub hw : IsPermuting h k
  hw = IsPermuting-after f g k w (IsPermuting-pairing g k pair)

  abbrev pub P : List ℕ
  P = orbits_of h k

  pub P_known : IsLabels P
  P_known = IsLabels-orbits_of h k hw.within

  pub turn : (i : ℕ) → i < k → Together P i (h i)
  turn = orbits_of-step h k hw.within

  -- the face step leads on to the dart's head
  pub tail_h : (i : ℕ) → i < k → tail_of lists (h i) ≡ (dart_of lists i).1
  tail_h i l = tail_of-rotation lists simple (g i) (pair.within i l) ∙ ap (λ d. d.0) (dart_of-twin lists simple i l)

  -- so it leads no dart to itself
  pub no_fixed : (i : ℕ) → i < k → h i ≢ i
  no_fixed i l e =
      let d = dart_of lists i in
      simple.no_loop d.0 d.1 (dart_of-number lists simple i l).is_dart (sym (tail_h i l) ∙ ap (tail_of lists) e)

  -- and where it leads back in two steps, its dart and the twin are alone at their vertices
  pub two_steps : (i : ℕ) → i < k → h (h i) ≡ i → h i ≡ g i
  two_steps i l e =
      let in_h = hw.within i l in
      let to_tail : (dart_of lists (h i)).1 ≡ (dart_of lists i).0 = sym (tail_h (h i) in_h) ∙ ap (tail_of lists) e in
      sym (dart_of-number lists simple (h i) in_h).number ∙ ap₂ (λ x y. dart_number lists (x, y)) (tail_h i l) to_tail

  pub own : ℕ → Bool
  own i = eqb (label P i) i

  pub short : ℕ → Bool
  short i = eqb (label P i) i && eqb (h (h i)) i

  pub own_same : (i j : ℕ) → own i ≡ true → own j ≡ true → Together P i j → i ≡ j
  unfolding own
  own_same i j t t' e = sym (eqb-true (label P i) i t) ∙ (e ∙ eqb-true (label P j) j t')

  -- of a dart and the next two of its face one is the least, or two where they are the same
  pub one_of_three : (i : ℕ) → i < k → one_if (own i) + one_if (own (h i)) + one_if (own (h (h i))) ≤ 1 + one_if (short i)
  unfolding short own
  one_of_three i l = grind (arith, hw, turn, cases_Bool, own, no_fixed, one_if, cases_eq, short, eq-eqb, Together, own_same)

  -- a label is the least of its face
  pub own_label : (i : ℕ) → own (label P i) ≡ true
  unfolding own
  own_label i = eq-eqb (label P (label P i)) (label P i) (P_known.own i)

  pub own_count : class_count P ≡ count_below own k
  unfolding own
  own_count = ap (count_below (λ i. eqb (label P i) i)) (length-orbits_of h k)

  -- three times the faces are at most the darts and the short faces
  pub three_faces : 3 * class_count P ≤ k + count_below short k
  unfolding own
  three_faces =
      let all = count_three own (λ i. own (h i)) (λ i. own (h (h i))) short k one_of_three in
      omega (arith, count_below-images h k hw own, count_below-images h k hw (λ i. own (h i)), all, own_count)

  abbrev pub J : List ℕ
  J = dart_classes lists simple

  J_known : IsLabels J
  J_known = IsLabels-dart_classes lists simple

  J_size : length J ≡ k
  J_size = length-joint f g k w.within pair.within

  -- a dart to which two steps lead back is alone at its vertex, and so is its twin
  short_ends : (i : ℕ) → i < k → h (h i) ≡ i → (f i ≡ i) × (f (g i) ≡ g i)
  short_ends i l round =
      let to_twin = two_steps i l round in
      (ap f (sym (pair.back i l)) ∙ (ap h (sym to_twin) ∙ round), to_twin)

  pub short_round : (i : ℕ) → short i ≡ true → h (h i) ≡ i
  unfolding short
  short_round i t = eqb-true (h (h i)) i (and_parts (eqb (label P i) i) (eqb (h (h i)) i) t).1

  -- then the two are a class by themselves
  pair_class : (i : ℕ) → i < k → f i ≡ i → f (g i) ≡ g i → (j : ℕ) → j < k → Together J i j → (j ≡ i) ⊎ (j ≡ g i)
  pair_class i l e e' j m t =
      let in_g = pair.within i l in
      let gw = IsPermuting-pairing g k pair in
      let test : ℕ → Bool = λ y. eqb y i || eqb y (g i) in
      let at_i : test i ≡ true = or_left (eqb i i) (eqb i (g i)) (eq-eqb i i refl) in
      let at_g : test (g i) ≡ true = or_right (eqb (g i) i) (eqb (g i) (g i)) (eq-eqb (g i) (g i) refl) in
      let off = λ (y : ℕ) (a : y ≢ i) (b : y ≢ g i). off_both y a b in
      let turns : (y : ℕ) → y < k → one_if (test y) ≡ one_if (test (f y)) = λ y n.
      elim (cases_eq y i) [
        | inl q ↦ ap one_if (ap test q ∙ (at_i ∙ sym (ap (λ z. test (f z)) q ∙ (ap test e ∙ at_i))))
        | inr a ↦ elim (cases_eq y (g i)) [
          | inl q ↦ ap one_if (ap test q ∙ (at_g ∙ sym (ap (λ z. test (f z)) q ∙ (ap test e' ∙ at_g))))
          | inr b ↦ ap one_if (off y a b ∙ sym (off (f y) (λ s. a (w.apart y i n l (s ∙ sym e))) (λ s. b (w.apart y (g i) n in_g (s ∙ sym e')))))
        ]
      ] in
      let twins : (y : ℕ) → y < k → one_if (test y) ≡ one_if (test (g y)) = λ y n.
      grind (arith, cases_eq, one_if, pair) in
      let same = joint-marked f g k w.within pair.within (λ y. one_if (test y)) turns twins i j l m t in
      elim (cases_eq j i) [
        | inl q ↦ inl q
        | inr a ↦ elim (cases_eq j (g i)) [ inl q ↦ inr q | inr b ↦ absurd (omega (arith, same, ap one_if at_i, ap one_if (off j a b))) ]
      ]
    where
      off_both : (y : ℕ) → y ≢ i → y ≢ g i → (eqb y i || eqb y (g i)) ≡ false
      off_both y a b = rw (ne_eqb y i a, ne_eqb y (g i) b) refl

  -- so there are no more short faces than classes
  short_faces : count_below short k ≤ class_count J
  unfolding short own
  short_faces =
      count_below_into (label J) short (λ i. eqb (label J i) i) k (length J)
      (λ i l t. let low = J_known.low i in (omega (arith, J_size), eq-eqb (label J (label J i)) (label J i) (J_known.own i)))
      (λ i j l m t t' e.
      let ends = short_ends i l (short_round i t) in
      elim (pair_class i l ends.0 ends.1 j m e) [
        | inl q ↦ sym q
        | inr q ↦
            let one = (and_parts (eqb (label P i) i) (eqb (h (h i)) i) t).0 in
            own_same i j one ((and_parts (eqb (label P j) j) (eqb (h (h j)) j) t').0) (turn i l ∙ ap (label P) (ends.1 ∙ sym q))
      ])

  -- one class and a face of two darts: an edge by itself
  lone_edge_map : class_count J ≤ 1 → (i : ℕ) → i < k → h (h i) ≡ i → k ≤ 2
  lone_edge_map few i l round =
      let n = J_size in
      let ends = short_ends i l round in
      at_most_two k i (g i) (λ j m. pair_class i l ends.0 ends.1 j m (one_class J J_known few i j (omega arith) (omega arith)))

  -- a map with darts has a component with an edge
  some_class : 0 < k → 0 < class_count J
  some_class l =
      let n = J_size in
      let low = J_known.low 0 in
      let one = count_below_into (λ i. 0) (λ i. true) (λ i. eqb (label J i) i) 1 (length J) (λ i m t. (omega arith, eq-eqb (label J 0) 0 (omega arith))) (λ i j m m' t t' e. omega arith) in
      omega arith

  -- a connected map with at least three vertices has no isolated one
  pub none_isolated : component_count lists ≤ 1 → 3 ≤ vertex_count lists → isolated_count lists ≡ 0
  none_isolated few some =
      let points = vertex_count-orbits lists simple in
      let parts = component_count-classes lists simple in
      let most = count_below-le (λ i. eqb (label (orbits_of f k) i) i) (length (orbits_of f k)) in
      elim (cases_lt 0 k) [ inl l ↦ let one = some_class l in omega arith | inr l ↦ omega (arith, length-orbits_of f k) ]

  -- and no face of two darts
  pub none_of_two : component_count lists ≤ 1 → 3 ≤ vertex_count lists → (i : ℕ) → i < k → h (h i) ≡ i → ⊥
  none_of_two few some i l round =
      let points = vertex_count-orbits lists simple in
      let parts = component_count-classes lists simple in
      let most = count_below-le (λ i. eqb (label (orbits_of f k) i) i) (length (orbits_of f k)) in
      omega (arith, lone_edge_map (omega arith) i l round, length-orbits_of f k, none_isolated few some)

  edge_bound_here : IsPlane lists → 3 ≤ vertex_count lists → edge_count lists + 6 ≤ 3 * vertex_count lists
  edge_bound_here plane some =
      let balance : Balances f g k (edge_count lists) 0 = balances_map lists simple 0 (omega (arith, plane)) in
      let points = vertex_count-orbits lists simple in
      let parts = component_count-classes lists simple in
      let double = two_m lists simple in
      let few = three_faces in
      let shorts = short_faces in
      elim (cases_lt (component_count lists) 2) [
        | inr l ↦ let one = some_class in elim (cases_lt 0 k) [ inl m ↦ let c = one m in omega arith | inr m ↦ omega arith ]
        | inl l ↦
            elim (some_pass short k) [
              | inl none ↦ let one = some_class in elim (cases_lt 0 k) [ inl m ↦ let c = one m in omega arith | inr m ↦ omega arith ]
              | inr r ↦ absurd (none_of_two (omega arith) some r.0 r.1 (short_round r.0 r.2))
            ]
      ]

  -- where the bound is met, the map is connected
  pub met_connected : IsPlane lists → 3 ≤ vertex_count lists → edge_count lists + 6 ≡ 3 * vertex_count lists → component_count lists ≡ 1
  met_connected plane some met =
      let balance : Balances f g k (edge_count lists) 0 = balances_map lists simple 0 (omega (arith, plane)) in
      let points = vertex_count-orbits lists simple in
      let parts = component_count-classes lists simple in
      elim (cases_lt 0 k) [ inl l ↦ let one = some_class l in omega (arith, short_faces, three_faces, two_m lists simple) | inr l ↦ omega arith ]

-- THE BOUND on the number of edges
pub edge_bound : EdgeBound
edge_bound lists simple plane some = edge_bound_here lists simple plane some
