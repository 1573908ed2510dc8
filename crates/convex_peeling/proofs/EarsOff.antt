-- An ear taken off: the walk behind it comes onto the contour.
use Rattle.std.proofs.Common.{◌≡◌, ◌≢◌, ◌⊎◌, ℕ, suc, ◌+◌, ◌-◌, ◌<◌, ◌≤◌, Bool, true, not, eqb, refl, sym, ap, ap₂, ◌∙◌, subst, inl, inr, arith, eqb-true}
use Rattle.std.proofs.lemmas.Bool.{cases_Bool, cases_eq, cases_lt, true≢false, and_left, and_cases, not-false}
use Rattle.std.proofs.lemmas.Bool.Decides.{nat_tests}
use Rattle.map_lists.specs.Lists.{Lists}
use Rattle.map_theory.specs.Maps.{IsSimpleMap, follows}
use Rattle.map_theory.proofs.DartLemmas.{HasDart-follows}
use Rattle.plane_peeling.specs.Restricted.{kept_but}
use Rattle.plane_peeling.proofs.RestrictedMaps.{kept_but-old, kept_but-new, kept_but-itself}
use Rattle.convex_peeling.specs.Polyhedral.{IsPolyhedral}
use Rattle.convex_peeling.specs.Contours.{face_of, Passes, IsRim, IsContour}
use Rattle.convex_peeling.proofs.Contours.{IsEar, spliced}
use Rattle.convex_peeling.proofs.Faces.{SameFace-labels, face_of-step}

module _ (lists : Lists) (w : ℕ → ℕ) (r face a b : ℕ) (walk : ℕ → ℕ) (many : ℕ) (ear : IsEar lists w r face a b walk many) where
  -- what stands in the new contour before the walk, on it, and behind it
  pub spliced-low : (i : ℕ) → i ≤ a → spliced w a b walk many i ≡ w i
  unfolding spliced
  spliced-low i l = grind (arith, nat_tests)

  pub spliced-mid : (t : ℕ) → t ≤ many → spliced w a b walk many (a + t) ≡ walk t
  unfolding spliced
  spliced-mid t l = grind (arith, cases_eq, spliced-low, spliced, nat_tests)

  pub spliced-high : (q : ℕ) → spliced w a b walk many (a + many + q) ≡ w (b + q)
  unfolding spliced
  spliced-high q = grind (arith, cases_eq, spliced, spliced-mid, nat_tests)

module _ (lists : Lists) (alive : ℕ → Bool) (w : ℕ → ℕ) (r face a b : ℕ) (walk : ℕ → ℕ) (many : ℕ) (simple : IsSimpleMap lists) (polyhedral : IsPolyhedral lists) (contour : IsContour lists alive w r) (ear : IsEar lists w r face a b walk many) (inner : face ≢ face_of lists (w 0) (w r)) where
  abbrev pub alive' : ℕ → Bool
  alive' = kept_but alive face

  abbrev pub w' : ℕ → ℕ
  w' = spliced w a b walk many

  low : (i : ℕ) → i ≤ a → w' i ≡ w i
  low = spliced-low lists w r face a b walk many ear

  mid : (t : ℕ) → t ≤ many → w' (a + t) ≡ walk t
  mid = spliced-mid lists w r face a b walk many ear

  high : (q : ℕ) → w' (a + many + q) ≡ w (b + q)
  high = spliced-high lists w r face a b walk many ear

  pub living : alive face ≡ true
  living = let l = ear.some_edge in let m = ear.within in ap alive (sym (ear.edges a (omega arith) l)) ∙ (contour.edge a (omega arith)).inside

  -- a dart of the rim stays one if the face inside is another one
  rim_stays : (x y : ℕ) → IsRim lists alive x y → face_of lists y x ≢ face → IsRim lists alive' x y
  rim_stays x y rim ne = grind (arith, and_left, face_of, not, eqb, kept_but-new)

  old_rim : (i : ℕ) → i ≤ r → (i < a) ⊎ (b ≤ i) → IsRim lists alive' (w i) (w (suc i))
  old_rim i l side =
      let rim = contour.edge i l in
      rim_stays (w i) (w (suc i)) rim (λ e.
      let back = simple.both_ways (w i) (w (suc i)) rim.dart in
      let at : Passes lists face (w i) = (follows lists (w i) (w (suc i)), HasDart-follows lists (w i) (w (suc i)) rim.dart, face_of-step lists simple (w (suc i)) (w i) back ∙ e) in
      elim (cases_eq i r) [
        | inl q ↦ inner (sym e ∙ ap₂ (face_of lists) (ap (λ t. w (suc t)) q ∙ contour.round) (ap w q))
        | inr nq ↦
            let two = ear.places (suc i) (omega arith) (w i, back, e) in
            elim side [ inl s ↦ omega (arith, ear.places i l at) | inr s ↦ omega arith ]
      ])

  -- the walk is of the rim
  walk_rim : (t : ℕ) → t < many → IsRim lists alive' (walk t) (walk (suc t))
  walk_rim t l =
      let dart = ear.darts t l in
      let back = simple.both_ways (walk t) (walk (suc t)) dart.0 in
      let other = face_of lists (walk (suc t)) (walk t) in
      let ne : other ≢ face = λ e. polyhedral.apart (walk t) (walk (suc t)) dart.0 (SameFace-labels lists (walk t) (walk (suc t)) (walk (suc t)) (walk t) (dart.1 ∙ sym e)) in
      record {
        dart = dart.0;
        outside = ap alive' dart.1 ∙ kept_but-itself alive face;
        inside = kept_but-new alive face other (elim (cases_Bool (alive other)) [
          | inl live ↦ live
          | inr dead ↦
              let at = contour.only (walk (suc t)) (walk t) (record { dart = back; outside = dead; inside = ap alive dart.1 ∙ living }) in
              let i = at.0 in
              let i_r = at.1 in
              let t_0 : t ≡ 0 = elim (cases_eq t 0) [
                | inl e ↦ e
                | inr some ↦ elim (cases_eq i r) [
                  | inl q ↦ absurd (ear.inside t 0 (omega arith) l (omega arith) (sym at.3 ∙ (ap (λ j. w (suc j)) q ∙ contour.round)))
                  | inr nq ↦ absurd (ear.inside t (suc i) (omega arith) l (omega arith) (sym at.3))
                ]
              ] in
              let t_last : suc t ≡ many = elim (cases_eq (suc t) many) [ inl e ↦ e | inr more ↦ absurd (ear.inside (suc t) i (omega arith) (omega arith) i_r (sym at.2)) ] in
              let first : walk t ≡ w a = ap walk t_0 ∙ ear.first in
              let last : walk (suc t) ≡ w b = ap walk t_last ∙ ear.last in
              let i_b : i ≡ b = contour.distinct i b i_r ear.within (at.2 ∙ last) in
              absurd (elim (cases_eq i r) [
                | inl q ↦
                    let a_0 : a ≡ 0 = contour.distinct a 0 (omega arith) (omega arith) (sym first ∙ (sym at.3 ∙ (ap (λ j. w (suc j)) q ∙ contour.round))) in
                    inner (sym dart.1 ∙ ap₂ (face_of lists) (first ∙ ap w a_0) (last ∙ ap w (sym i_b ∙ q)))
                | inr nq ↦
                    omega (arith, contour.distinct (suc i) a (omega arith) (omega arith) (at.3 ∙ first))
              ])
        ]) ne;
      }

  -- A place of the new contour has what an old place had, or is strictly inside of the walk.
  pub record IsOld (i n : ℕ) : Type 0 where
    pub within : n ≤ r
    pub vertex : w' i ≡ w n
    pub place : ((n ≤ a) × (i ≡ n)) ⊎ ((b ≤ n) × (i + b ≡ n + (a + many)))

  pub record IsNew (i t : ℕ) : Type 0 where
    pub after : 0 < t
    pub before : t < many
    pub place : i ≡ a + t
    pub vertex : w' i ≡ walk t

  pub kind : (r' i : ℕ) → r' + b ≡ r + a + many → i ≤ r' → ((n : ℕ) × IsOld i n) ⊎ ((t : ℕ) × IsNew i t)
  kind r' i e l =
      let within = ear.within in
      elim (cases_lt a i) [
        | inr at ↦ inl (i, record { within = omega arith; vertex = low i at; place = inl (at, refl) })
        | inl far ↦ elim (cases_lt i (a + many)) [
          | inl on ↦
              let t : ℕ = i - a in
              let z : i ≡ a + t = omega arith in
              inr (t, record { after = omega arith; before = omega arith; place = z; vertex = ap w' z ∙ mid t (omega arith) })
          | inr behind ↦
              let q : ℕ = i - (a + many) in
              let z : i ≡ a + many + q = omega arith in
              inl (b + q, record { within = omega arith; vertex = ap w' z ∙ high q; place = inr (omega arith, omega arith) })
        ]
      ]

  new_distinct : (r' i j : ℕ) → r' + b ≡ r + a + many → i ≤ r' → j ≤ r' → w' i ≡ w' j → i ≡ j
  new_distinct r' i j e l m same =
      elim (kind r' i e l) [
        | inl old ↦ elim (kind r' j e m) [
          | inl old' ↦
              let q : old.0 ≡ old'.0 = contour.distinct old.0 old'.0 old.1.within old'.1.within (sym old.1.vertex ∙ (same ∙ old'.1.vertex)) in
              grind arith
          | inr new' ↦ absurd (ear.inside new'.0 old.0 new'.1.after new'.1.before old.1.within (sym new'.1.vertex ∙ (sym same ∙ old.1.vertex)))
        ]
        | inr new ↦ elim (kind r' j e m) [
          | inl old' ↦ absurd (ear.inside new.0 old'.0 new.1.after new.1.before old'.1.within (sym new.1.vertex ∙ (same ∙ old'.1.vertex)))
          | inr new' ↦
              let q : new.0 ≡ new'.0 = ear.distinct new.0 new'.0 (omega (arith, new.1.before)) (omega arith) (sym new.1.vertex ∙ (same ∙ new'.1.vertex)) in
              new.1.place ∙ (ap (λ t. a + t) q ∙ sym new'.1.place)
        ]
      ]

  new_edge : (r' i : ℕ) → r' + b ≡ r + a + many → i ≤ r' → IsRim lists alive' (w' i) (w' (suc i))
  new_edge r' i e l =
      elim (cases_lt i a) [
        | inl before ↦ rw (low i (omega arith), low (suc i) (omega arith)) (old_rim i (omega arith) (inl before))
        | inr far ↦ elim (cases_lt i (a + many)) [
          | inl on ↦
              let t : ℕ = i - a in
              let z : i ≡ a + t = omega arith in
              let z' : suc i ≡ a + suc t = omega arith in
              carried (w' i) (w' (suc i)) (walk t) (walk (suc t)) (ap w' z ∙ mid t (omega arith)) (ap w' z' ∙ mid (suc t) (omega arith)) (walk_rim t (omega arith))
          | inr behind ↦
              let q : ℕ = i - (a + many) in
              let z : i ≡ a + many + q = omega arith in
              let z' : suc i ≡ a + many + suc q = omega arith in
              let z'' : b + suc q ≡ suc (b + q) = omega arith in
              carried (w' i) (w' (suc i)) (w (b + q)) (w (suc (b + q))) (ap w' z ∙ high q) (ap w' z' ∙ (high (suc q) ∙ ap w z'')) (old_rim (b + q) (omega arith) (inr (omega arith)))
        ]
      ]
    where
      carried : (x y x' y' : ℕ) → x ≡ x' → y ≡ y' → IsRim lists alive' x' y' → IsRim lists alive' x y
      carried x y x' y' e e' h = subst (λ t. IsRim lists alive' t y) (sym e) (subst (λ t. IsRim lists alive' x' t) (sym e') h)

  new_only : (r' x y : ℕ) → r' + b ≡ r + a + many → IsRim lists alive' x y → (i : ℕ) × (i ≤ r') × (w' i ≡ x) × (w' (suc i) ≡ y)
  new_only r' x y e rim =
      let inside = kept_but-old alive face (face_of lists y x) rim.inside in
      elim (and_cases (alive (face_of lists x y)) (not (eqb (face_of lists x y) face)) rim.outside) [
        | inl dead ↦
            let at = contour.only x y (record { dart = rim.dart; outside = dead; inside = inside.0 }) in
            let i = at.0 in
            elim (cases_lt i a) [
              | inl before ↦ (i, omega arith, low i (omega arith) ∙ at.2, low (suc i) (omega arith) ∙ at.3)
              | inr far ↦ elim (cases_lt i b) [
                | inl on ↦ absurd (inside.1 (ap₂ (face_of lists) (sym at.3) (sym at.2) ∙ ear.edges i far on))
                | inr behind ↦
                    let q : ℕ = i - b in
                    let z : b + q ≡ i = omega arith in
                    let z' : b + suc q ≡ suc i = omega arith in
                    let z'' : suc (a + many + q) ≡ a + many + suc q = omega arith in
                    (a + many + q, omega arith, high q ∙ (ap w z ∙ at.2), ap w' z'' ∙ (high (suc q) ∙ (ap w z' ∙ at.3)))
              ]
            ]
        | inr own ↦
            elim (ear.only x y rim.dart (eqb-true (face_of lists x y) face (not-false (eqb (face_of lists x y) face) own))) [
              | inl at ↦
                  absurd (true≢false (sym inside.0 ∙ (ap alive (ap₂ (face_of lists) at.4 at.3) ∙ (contour.edge at.0 (omega arith)).outside)))
              | inr at ↦
                  let z : suc (a + at.0) ≡ a + suc at.0 = omega arith in
                  (a + at.0, omega arith, mid at.0 (omega arith) ∙ sym at.2, ap w' z ∙ (mid (suc at.0) (omega arith) ∙ sym at.3))
            ]
      ]

  pub contour_after : (r' : ℕ) → r' + b ≡ r + a + many → IsContour lists alive' w' r'
  contour_after r' e =
      let q : ℕ = suc r - b in
      let z : suc r' ≡ a + many + q = omega arith in
      let z' : b + q ≡ suc r = omega arith in
      record {
        distinct = λ i j l m same. new_distinct r' i j e l m same;
        round = ap w' z ∙ (high q ∙ (ap w z' ∙ (contour.round ∙ sym (low 0 (omega arith)))));
        edge = λ i l. new_edge r' i e l;
        only = λ x y rim. new_only r' x y e rim;
      }
