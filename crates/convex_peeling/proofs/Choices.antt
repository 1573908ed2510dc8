-- Some vertex of the contour may go: within a gap of a face there is a vertex where an edge is taken off, and a gap of a face at that vertex is a shorter one.
use Rattle.std.proofs.Common.{◌≡◌, ◌≢◌, ◌⊎◌, ℕ, zero, suc, ◌+◌, ◌<◌, ◌≤◌, Bool, true, refl, sym, ap, ◌∙◌, subst, inl, inr, arith}
use Rattle.std.proofs.lemmas.Bool.{cases_eq, cases_lt}
use Rattle.map_lists.specs.Lists.{Lists}
use Rattle.map_theory.specs.Maps.{HasDart, IsSimpleMap, IsPlane, follows}
use Rattle.map_theory.proofs.DartLemmas.{HasDart-follows}
use Rattle.convex_peeling.specs.Polyhedral.{IsPolyhedral}
use Rattle.convex_peeling.specs.Contours.{face_of, Passes, IsContour, IsBegun, IsStretch, IsRemovable}
use Rattle.convex_peeling.proofs.Contours.{IsGap}
use Rattle.convex_peeling.specs.FacePeelingLaws.{SomeRemovable}
use Rattle.convex_peeling.proofs.Faces.{some_or_none, some_dart, cases_Passes, face_of-step}
use Rattle.convex_peeling.proofs.Crossings.{no_crossing_law}
use Rattle.convex_peeling.proofs.Sections.{cases_is, section_open_law}

module _ (lists : Lists) (alive : ℕ → Bool) (w : ℕ → ℕ) (r : ℕ) (simple : IsSimpleMap lists) where
  -- a gap somewhere, or none
  abbrev SomeGap : ℕ → Type 0
  SomeGap face = (b : ℕ) × (b < suc r) × (a : ℕ) × (a < suc r) × (i : ℕ) × (i < b) × IsGap lists alive w r face a i b

  cases_IsGap : (face a i b : ℕ) → b < suc r → i < b → IsGap lists alive w r face a i b ⊎ (¬ IsGap lists alive w r face a i b)
  cases_IsGap face a i b l m =
      elim (cases_is (alive face) true) [
        | inr n ↦ inr (λ g. n g.living)
        | inl live ↦ elim (cases_lt i a) [
          | inl n ↦ inr (λ g. (let t = g.low in omega arith))
          | inr low ↦ elim (cases_Passes lists simple face (w a)) [
            | inr n ↦ inr (λ g. n g.first)
            | inl first ↦ elim (cases_Passes lists simple face (w b)) [
              | inr n ↦ inr (λ g. n g.last)
              | inl last ↦ grind (arith, cases_eq, face_of)
            ]
          ]
        ]
      ]

  cases_SomeGap : (face : ℕ) → SomeGap face ⊎ (¬ SomeGap face)
  cases_SomeGap face =
      elim (some_or_none (λ b. (a : ℕ) × (a < suc r) × (i : ℕ) × (i < b) × IsGap lists alive w r face a i b) (suc r) (λ b l.
      elim (some_or_none (λ a. (i : ℕ) × (i < b) × IsGap lists alive w r face a i b) (suc r) (λ a l'.
      elim (some_or_none (λ i. IsGap lists alive w r face a i b) b (λ i m. cases_IsGap face a i b l m)) [
        | inl found ↦ inl found
        | inr none ↦ inr (λ g. none g.0 g.1 g.2)
      ])) [
        | inl found ↦ inl (found.0, found.1, found.2.0, found.2.1, found.2.2)
        | inr none ↦ inr (λ g. none g.0 g.1 (g.2, g.3, g.4))
      ])) [
        | inl found ↦ inl (found.0, found.1, found.2.0, found.2.1, found.2.2, found.2.3, found.2.4)
        | inr none ↦ inr (λ g. none g.0 g.1 (g.2, g.3, g.4, g.5, g.6))
      ]

  stretch : (face : ℕ) → alive face ≡ true → ¬ SomeGap face → IsStretch lists w r face
  stretch face live none a i b l m n first last = grind (arith, cases_eq, face_of)

  -- a place within a gap that the face passes leaves a shorter one
  narrowed : (face a i b j : ℕ) → IsGap lists alive w r face a i b → a < j → j < b → Passes lists face (w j) → (a' : ℕ) × (b' : ℕ) × IsGap lists alive w r face a' i b' × (a ≤ a') × (b' ≤ b) × (b' + a < b + a')
  narrowed face a i b j gap l m at =
      let low = gap.low in
      let high = gap.high in
      let within = gap.within in
      elim (cases_lt i j) [
        | inl n ↦ (a, j, record { living = gap.living; low = low; high = n; within = omega arith; first = gap.first; last = at; gap = gap.gap }, omega arith, omega arith, omega arith)
        | inr n ↦ (j, b, record { living = gap.living; low = n; high = high; within = within; first = at; last = gap.last; gap = gap.gap }, omega arith, omega arith, omega arith)
      ]

  module _ (plane : IsPlane lists) (polyhedral : IsPolyhedral lists) (contour : IsContour lists alive w r) (begun : IsBegun lists alive w r) where
    -- a gap of a face that passes a place within a gap lies within that gap, and makes a shorter one
    inner_gap : (face a i b j other a' i' b' : ℕ) → IsGap lists alive w r face a i b → a < j → j < b → Passes lists other (w j) → IsGap lists alive w r other a' i' b' → (g : ℕ) × (p : ℕ) × (q : ℕ) × (s : ℕ) × IsGap lists alive w r g p q s × (s + a < b + p)
    inner_gap face a i b j other a' i' b' gap l m at gap' =
        let within = gap.within in
        let within' = gap'.within in
        let low' = gap'.low in
        let high' = gap'.high in
        elim (cases_eq face other) [
          | inl e ↦
              let n = narrowed face a i b j gap l m (subst (λ t. Passes lists t (w j)) (sym e) at) in
              (face, n.0, i, n.1, n.2, n.5)
          | inr ne ↦
              elim (cases_lt a' a) [
                | inl before ↦ absurd (ne (sym (no_crossing_law lists alive w r a' a j b other face simple plane contour before l m within gap'.living gap.living gap'.first at gap.first gap.last)))
                | inr low ↦ elim (cases_lt b b') [
                  | inl behind ↦ absurd (ne (no_crossing_law lists alive w r a j b b' face other simple plane contour l m behind within' gap.living gap'.living gap.first gap.last at gap'.last))
                  | inr high ↦ elim (cases_lt i' j) [
                    | inl t ↦ (other, a', i', j, record { living = gap'.living; low = low'; high = t; within = omega arith; first = gap'.first; last = at; gap = gap'.gap }, omega arith)
                    | inr t ↦ (other, j, i', b', record { living = gap'.living; low = t; high = high'; within = within'; first = at; last = gap'.last; gap = gap'.gap }, omega arith)
                  ]
                ]
              ]
        ]

    -- so in the shortest gap there is a removable vertex
    removable_within : (n face a i b : ℕ) → IsGap lists alive w r face a i b → b < n + a → (j : ℕ) × IsRemovable lists alive w r j
    removable_within zero face a i b gap l = let low = gap.low in let high = gap.high in absurd (omega arith)
    removable_within (suc n) face a i b gap l =
        let open_at = section_open_law lists alive w r face a i b simple polyhedral contour begun gap in
        let j = open_at.0 in
        elim (some_dart lists simple (w j) (λ x. (alive (face_of lists (w j) x) ≡ true) × SomeGap (face_of lists (w j) x)) (λ x has.
        elim (cases_is (alive (face_of lists (w j) x)) true) [
          | inr no_life ↦ inr (λ t. no_life t.0)
          | inl live ↦ elim (cases_SomeGap (face_of lists (w j) x)) [ inl g ↦ inl (live, g) | inr none ↦ inr (λ t. none t.1) ]
        ])) [
          | inl found ↦
              let other = face_of lists (w j) found.0 in
              let at : Passes lists other (w j) = (found.0, found.1, refl) in
              let less = inner_gap face a i b j other found.2.1.2 found.2.1.4 found.2.1.0 gap open_at.1 open_at.2 at found.2.1.6 in
              removable_within n less.0 less.1 less.2 less.3 less.4 (omega arith)
          | inr none ↦ (
            j,
            record {
              after = omega arith;
              before = omega arith;
              open_at = open_at.3;
              stretches = λ x has live. stretch (face_of lists (w j) x) live (λ g. none x has (live, g));
            },
          )
        ]

-- THE LAW: a removable vertex
pub some_removable_law : SomeRemovable
some_removable_law lists alive w r simple plane polyhedral contour begun =
    let F = face_of lists (w 0) (w r) in
    let rim = contour.edge r (omega arith) in
    let base : HasDart lists (w r) (w 0) = subst (HasDart lists (w r)) contour.round rim.dart in
    let inner : HasDart lists (w 0) (w r) = simple.both_ways (w r) (w 0) base in
    elim (some_or_none (λ i. face_of lists (w (suc i)) (w i) ≢ F) r (λ i l. elim (cases_eq (face_of lists (w (suc i)) (w i)) F) [ inl e ↦ inr (λ ne. ne e) | inr ne ↦ inl ne ])) [
      | inr none ↦ inl (λ i l. elim (cases_eq (face_of lists (w (suc i)) (w i)) F) [ inl e ↦ e | inr ne ↦ absurd (none i l ne) ])
      | inl found ↦ inr (removable_within lists alive w r simple plane polyhedral contour begun (suc r) F 0 found.0 r (record {
        living = (ap (λ t. alive (face_of lists t (w r))) (sym contour.round) ∙ rim.inside);
        low = omega arith;
        high = found.1;
        within = omega arith;
        first = (w r, inner, refl);
        last = (follows lists (w r) (w 0), HasDart-follows lists (w r) (w 0) base, face_of-step lists simple (w 0) (w r) inner);
        gap = found.2;
      }) (omega arith))
    ]
