-- A face that meets the contour in one stretch goes on behind it to the other end: the first vertex of the contour that it meets again can only be that.
use Rattle.std.proofs.Common.{◌≡◌, ◌≢◌, ◌⊎◌, ℕ, zero, suc, ◌+◌, ◌-◌, ◌<◌, ◌≤◌, Bool, refl, sym, ap, ap₂, ◌∙◌, subst, inl, inr, arith}
use Rattle.std.proofs.lemmas.Bool.{cases_eq, cases_lt}
use Rattle.map_lists.specs.Lists.{Lists}
use Rattle.map_theory.specs.Maps.{HasDart, IsSimpleMap, follows}
use Rattle.map_theory.proofs.DartLemmas.{HasDart-follows}
use Rattle.convex_peeling.specs.Polyhedral.{IsPolyhedral}
use Rattle.convex_peeling.specs.Contours.{face_of, Passes, IsContour, IsStretch}
use Rattle.convex_peeling.proofs.Contours.{IsEar}
use Rattle.convex_peeling.proofs.Faces.{some_or_none, first_or_none, cases_Passes, face_of-step, stepped, HasDart-stepped, steps_on, along_face, before_once}
use Rattle.convex_peeling.proofs.Sections.{leaves_once}

-- the last place below n of which something holds, or none
pub last_or_none : (P : ℕ → Type 0) (n : ℕ) → ((i : ℕ) → i < n → P i ⊎ (¬ P i)) → ((i : ℕ) × (i < n) × P i × ((j : ℕ) → j < n → P j → j ≤ i)) ⊎ ((i : ℕ) → i < n → ¬ P i)
last_or_none P zero h = inr (λ i l. absurd (omega arith))
last_or_none P (suc n) h =
    elim (h n (omega arith)) [
      | inl p ↦ inl (n, omega arith, p, λ j l q. omega arith)
      | inr not_n ↦
          let below : (j : ℕ) → j < suc n → P j → j < n = λ j l q. elim (cases_eq j n) [ inl e ↦ absurd (not_n (subst P e q)) | inr ne ↦ omega arith ] in
          elim (last_or_none P n (λ i l. h i (omega arith))) [
            | inl r ↦ inl (r.0, omega arith, r.2, λ j l q. r.3 j (below j l q) q)
            | inr none ↦ inr (λ i l p. none i (below i l p) p)
          ]
    ]

-- a vertex of the contour, or none
pub cases_place : (w : ℕ → ℕ) (r v : ℕ) → ((i : ℕ) × (i ≤ r) × (w i ≡ v)) ⊎ ((i : ℕ) → i ≤ r → w i ≢ v)
cases_place w r v =
    elim (some_or_none (λ i. w i ≡ v) (suc r) (λ i l. cases_eq (w i) v)) [
      | inl found ↦ inl (found.0, omega (arith, found.1), found.2)
      | inr none ↦ inr (λ i l e. none i (omega arith) e)
    ]

module _ (lists : Lists) (alive : ℕ → Bool) (w : ℕ → ℕ) (r face a h : ℕ) (simple : IsSimpleMap lists) (polyhedral : IsPolyhedral lists) (contour : IsContour lists alive w r) (within : suc (a + h) ≤ r) (edges : (i : ℕ) → a ≤ i → i ≤ a + h → face_of lists (w (suc i)) (w i) ≡ face) (places : (i : ℕ) → i ≤ r → Passes lists face (w i) → (a ≤ i) × (i ≤ suc (a + h))) where
  abbrev pub b : ℕ
  b = suc (a + h)

  -- a dart of the stretch, which goes back along the contour
  back : (i : ℕ) → i ≤ r → HasDart lists (w (suc i)) (w i)
  back i l = simple.both_ways (w i) (w (suc i)) (contour.edge i l).dart

  -- the first dart behind the stretch
  abbrev pub u1 : ℕ
  u1 = follows lists (w a) (w (suc a))

  has_first : HasDart lists (w a) u1
  has_first = HasDart-follows lists (w a) (w (suc a)) (contour.edge a (omega arith)).dart

  first_face : face_of lists (w a) u1 ≡ face
  first_face = face_of-step lists simple (w (suc a)) (w a) (back a (omega arith)) ∙ edges a (omega arith) (omega arith)

  -- the walk behind it
  abbrev pub walk : ℕ → ℕ
  walk t = (stepped lists simple (w a, u1) t).0

  walk_dart : (t : ℕ) → HasDart lists (walk t) (walk (suc t))
  unfolding stepped
  walk_dart t = HasDart-stepped lists simple (w a, u1) has_first t

  walk_turn : (t : ℕ) → walk (suc (suc t)) ≡ follows lists (walk (suc t)) (walk t)
  unfolding stepped
  walk_turn t = refl

  walk_first : walk 0 ≡ w a
  unfolding stepped
  walk_first = refl

  walk_second : walk 1 ≡ u1
  unfolding stepped
  walk_second = refl

  walk_face : (t : ℕ) → face_of lists (walk t) (walk (suc t)) ≡ face
  walk_face zero = ap₂ (face_of lists) walk_first walk_second ∙ first_face
  walk_face (suc t) = ap (face_of lists (walk (suc t))) (walk_turn t) ∙ (face_of-step lists simple (walk t) (walk (suc t)) (walk_dart t) ∙ walk_face t)

  walk_passes : (t : ℕ) → Passes lists face (walk t)
  walk_passes t = (walk (suc t), walk_dart t, walk_face t)

  once : (x y z : ℕ) → HasDart lists x y → HasDart lists x z → face_of lists x y ≡ face → face_of lists x z ≡ face → y ≡ z
  once x y z has has' e e' = leaves_once lists alive simple polyhedral x y z has has' (e ∙ sym e')

  -- so many steps lead to the other end
  reaches : (n : ℕ) × (walk n ≡ w b)
  reaches =
      let led = steps_on lists simple (w a) u1 (w b) (w (a + h)) has_first (back (a + h) (omega arith)) (first_face ∙ sym (edges (a + h) (omega arith) (omega arith))) in
      (led.0, ap (λ d. d.0) led.1)

  abbrev pub Meets : ℕ → Type 0
  Meets t = (0 < t) × (i : ℕ) × (i ≤ r) × (w i ≡ walk t)

  cases_Meets : (t : ℕ) → Meets t ⊎ (¬ Meets t)
  cases_Meets t =
      elim (cases_lt 0 t) [
        | inr l ↦ inr (λ m. let p = m.0 in omega arith)
        | inl l ↦ elim (cases_place w r (walk t)) [ inl at ↦ inl (l, at.0, at.1, at.2) | inr none ↦ inr (λ m. none m.1 m.2 m.3) ]
      ]

  -- the first time that the walk meets the contour again
  pub record IsMeeting (many : ℕ) : Type 0 where
    pub some_step : 0 < many
    pub place : ℕ
    pub on : place ≤ r
    pub vertex : w place ≡ walk many
    pub before : (t : ℕ) → t < many → ¬ Meets t

  meeting : (many : ℕ) × IsMeeting many
  meeting =
      elim (first_or_none Meets (suc reaches.0) (λ t l. cases_Meets t)) [
        | inl found ↦ (found.0, record { some_step = found.2.0; place = found.2.1; on = found.2.2; vertex = found.2.3; before = found.3 })
        | inr none ↦
            absurd (elim (cases_eq reaches.0 0) [
              | inl e ↦
                  omega (arith, contour.distinct a b (omega arith) (omega arith) (sym walk_first ∙ (ap walk (sym e) ∙ reaches.1)))
              | inr ne ↦ none reaches.0 (omega arith) (omega arith, b, omega arith, sym reaches.1)
            ])
      ]

  module _ (many : ℕ) (m : IsMeeting many) where
    before_last : (t : ℕ) × (suc t ≡ many)
    before_last = let p = m.some_step in (many - 1, omega arith)

    -- it is at the other end
    ends_at : m.place ≡ b
    ends_at =
        let i = m.place in
        let t = before_last.0 in
        let e = before_last.1 in
        let range = places i m.on (subst (Passes lists face) (sym m.vertex) (walk_passes many)) in
        elim (cases_eq i b) [
          | inl q ↦ q
          | inr ne ↦
              let low = range.0 in
              let here : walk (suc t) ≡ w i = ap walk e ∙ sym m.vertex in
              let come' : HasDart lists (walk t) (w i) = subst (HasDart lists (walk t)) here (walk_dart t) in
              let face' : face_of lists (walk t) (w i) ≡ face = ap (face_of lists (walk t)) (sym here) ∙ walk_face t in
              let next = follows lists (w i) (walk t) in
              let next' = follows lists (w i) (w (suc i)) in
              let has_next = HasDart-follows lists (w i) (walk t) (simple.both_ways (walk t) (w i) come') in
              let has_next' = HasDart-follows lists (w i) (w (suc i)) (contour.edge i m.on).dart in
              let back_i = back i m.on in
              let alike : next ≡ next' = once (w i) next next' has_next has_next' (face_of-step lists simple (walk t) (w i) come' ∙ face') (face_of-step lists simple (w (suc i)) (w i) back_i ∙ edges i low (omega arith)) in
              let same : walk t ≡ w (suc i) = before_once lists simple (walk t) (w i) (w (suc i)) come' back_i alike in
              absurd (elim (cases_eq t 0) [
                | inl z ↦
                    omega (arith, contour.distinct a (suc i) (omega arith) (omega arith) (sym walk_first ∙ (ap walk (sym z) ∙ same)))
                | inr some ↦ m.before t (omega arith) (omega arith, suc i, omega arith, sym same)
              ])
        ]

    last : walk many ≡ w b
    last = sym m.vertex ∙ ap w ends_at

    -- no vertex comes twice on the walk
    no_repeat : (n s t : ℕ) → t + n ≡ many → s < t → walk s ≡ walk t → ⊥
    no_repeat zero s t e l q =
        let z : t ≡ many = omega arith in
        let at : walk s ≡ w b = q ∙ (ap walk z ∙ last) in
        elim (cases_eq s 0) [
          | inl z' ↦
              omega (arith, contour.distinct a b (omega arith) (omega arith) (sym walk_first ∙ (ap walk (sym z') ∙ at)))
          | inr some ↦ m.before s (omega arith) (omega arith, b, omega arith, sym at)
        ]
    no_repeat (suc n) s t e l q =
        let has : HasDart lists (walk t) (walk (suc s)) = subst (λ v. HasDart lists v (walk (suc s))) q (walk_dart s) in
        let on : face_of lists (walk t) (walk (suc s)) ≡ face = ap (λ v. face_of lists v (walk (suc s))) (sym q) ∙ walk_face s in
        no_repeat n (suc s) (suc t) (omega arith) (omega arith) (once (walk t) (walk (suc s)) (walk (suc t)) has (walk_dart t) on (walk_face t))

    -- the darts of the stretch and of the walk
    abbrev IsHere : ℕ → ℕ → Type 0
    IsHere x y = ((i : ℕ) × (a ≤ i) × (i < b) × (x ≡ w (suc i)) × (y ≡ w i)) ⊎ ((t : ℕ) × (t < many) × (x ≡ walk t) × (y ≡ walk (suc t)))

    here_on : (x y : ℕ) → HasDart lists x y → (face_of lists x y ≡ face) × IsHere x y → (face_of lists y (follows lists y x) ≡ face) × IsHere y (follows lists y x)
    here_on x y has held =
        let z = follows lists y x in
        let on : face_of lists y z ≡ face = face_of-step lists simple x y has ∙ held.0 in
        let has_z : HasDart lists y z = HasDart-follows lists y x (simple.both_ways x y has) in (
          on,
          elim held.1 [
            | inl at ↦
                elim (cases_eq at.0 a) [
                  | inl e ↦ inr (0, m.some_step, at.4 ∙ (ap w e ∙ sym walk_first), ap₂ (follows lists) (at.4 ∙ ap w e) (at.3 ∙ ap (λ j. w (suc j)) e) ∙ sym walk_second)
                  | inr ne ↦
                      let j : ℕ = at.0 - 1 in
                      let e : at.0 ≡ suc j = omega arith in
                      let y_is : y ≡ w (suc j) = at.4 ∙ ap w e in
                      let z_is : z ≡ w j = once (w (suc j)) z (w j) (subst (λ v. HasDart lists v z) y_is has_z) (back j (omega arith)) (ap (λ v. face_of lists v z) (sym y_is) ∙ on) (edges j (omega arith) (omega arith)) in
                      inl (j, omega arith, omega arith, y_is, z_is)
                ]
            | inr at ↦
                elim (cases_eq (suc at.0) many) [
                  | inr ne ↦ inr (suc at.0, omega arith, at.3, ap₂ (follows lists) at.3 at.2 ∙ sym (walk_turn at.0))
                  | inl e ↦
                      let y_is : y ≡ w b = at.3 ∙ (ap walk e ∙ last) in
                      let z_is : z ≡ w (a + h) = once (w b) z (w (a + h)) (subst (λ v. HasDart lists v z) y_is has_z) (back (a + h) (omega arith)) (ap (λ v. face_of lists v z) (sym y_is) ∙ on) (edges (a + h) (omega arith) (omega arith)) in
                      inl (a + h, omega arith, omega arith, y_is, z_is)
                ]
          ],
        )

    pub ear_here : IsEar lists w r face a b walk many
    ear_here =
        record {
          some_edge = omega arith;
          within = within;
          edges = λ i l l'. edges i l (omega arith);
          places = places;
          some_step = m.some_step;
          first = walk_first;
          last = last;
          darts = λ t l. (walk_dart t, walk_face t);
          inside = λ t i p l l' e. m.before t l (p, i, l', sym e);
          distinct = λ s t l l' e. elim (cases_eq s t) [
            | inl q ↦ q
            | inr ne ↦ elim (cases_lt s t) [
              | inl less ↦ absurd (no_repeat (many - t) s t (omega arith) less e)
              | inr more ↦ absurd (no_repeat (many - s) t s (omega arith) (omega arith) (sym e))
            ]
          ];
          only = λ x y has e. (along_face lists simple (λ p q. (face_of lists p q ≡ face) × IsHere p q) here_on (w a) u1 x y has_first has (first_face ∙ sym e) (first_face, inr (0, m.some_step, sym walk_first, sym walk_second))).1;
        }

-- In a polyhedral map a face with an edge on the contour, which meets the contour in one stretch, is an ear.
pub stretch_is_ear_law : (lists : Lists) (alive : ℕ → Bool) (w : ℕ → ℕ) (r i : ℕ) → IsSimpleMap lists → IsPolyhedral lists → IsContour lists alive w r → i < r → IsStretch lists w r (face_of lists (w (suc i)) (w i)) → (a : ℕ) × (b : ℕ) × (walk : ℕ → ℕ) × (many : ℕ) × IsEar lists w r (face_of lists (w (suc i)) (w i)) a b walk many
stretch_is_ear_law lists alive w r i simple polyhedral contour l stretch =
    let face = face_of lists (w (suc i)) (w i) in
    let P : ℕ → Type 0 = λ j. Passes lists face (w j) in
    let decided = λ (j : ℕ) (m : j < suc r). cases_Passes lists simple face (w j) in
    let has = simple.both_ways (w i) (w (suc i)) (contour.edge i (omega arith)).dart in
    let at_i : P i = (follows lists (w i) (w (suc i)), HasDart-follows lists (w i) (w (suc i)) (contour.edge i (omega arith)).dart, face_of-step lists simple (w (suc i)) (w i) has) in
    elim (first_or_none P (suc r) decided) [
      | inr none ↦ absurd (none i (omega arith) at_i)
      | inl low ↦ elim (last_or_none P (suc r) decided) [
        | inr none ↦ absurd (none i (omega arith) at_i)
        | inl high ↦
            let a = low.0 in
            let b' = high.0 in
            let b_r = high.1 in
            let above : suc i ≤ b' = high.3 (suc i) (omega arith) ((w i, has, refl)) in
            let below : (j : ℕ) → P j → a ≤ j = λ j p. elim (cases_lt j a) [ inl less ↦ absurd (low.3 j less p) | inr more ↦ more ] in
            let under : a ≤ i = below i at_i in
            let h : ℕ = b' - suc a in
            let places : (j : ℕ) → j ≤ r → P j → (a ≤ j) × (j ≤ suc (a + h)) = λ j m p. (below j p, let t = high.3 j (omega arith) p in omega arith) in
            let edges : (j : ℕ) → a ≤ j → j ≤ a + h → face_of lists (w (suc j)) (w j) ≡ face = λ j m n. stretch a j b' m (omega arith) (omega arith) low.2 high.2 in
            let met = meeting lists alive w r face a h simple polyhedral contour (omega arith) edges places in
            (a, suc (a + h), walk lists alive w r face a h simple polyhedral contour (omega arith) edges places, met.0, ear_here lists alive w r face a h simple polyhedral contour (omega arith) edges places met.0 met.1)
      ]
    ]
