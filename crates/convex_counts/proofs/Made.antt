-- What two vertices of a new face have.
use Rattle.std.proofs.Common.{◌≡◌, ◌⊎◌, ℕ, zero, suc, ◌+◌, ◌-◌, ◌<◌, ◌≤◌, ap, ◌∙◌, inl, inr, arith}
use Rattle.std.proofs.lemmas.Bool.{cases_lt}
use Rattle.contour_runs.specs.Runs.{Stage}
use Rattle.contour_runs.specs.Laws.{IsStage}
use Rattle.contour_runs.specs.Wood.{Coordinates}
use Rattle.contour_runs.specs.FaceRuns.{Step, moved, after, place_after, IsStep}
use Rattle.contour_runs.proofs.FaceRunsPlaces.{cut-first, cut-last, cut-le, turn-le, first_turn, last_turn, order, cases_moved, moved-le, place_after-older, place_after-new}
use Rattle.convex_counts.specs.Counts.{counts_after, IsTurned}
use Rattle.convex_counts.specs.Contours.{IsFalling}
use Rattle.convex_counts.proofs.Gains.{gain-first, gain-second, one_after-new, two_after-new, one_after-contour, two_after-contour}
use Rattle.convex_counts.proofs.Kept.{KeepsFirst, KeepsSecond, KeepsThird, KeepsFirstSecond, KeepsSecondThird, KeepsThirdFirst}

module _ (g : Stage) (s : Step) (at : Coordinates) (m : ℕ) (stage : IsStage g) (step : IsStep g s) (h : IsFalling g at m) (t : IsTurned g at s) (i : ℕ) (l : i < s.faces) where
  abbrev old : ℕ → ℕ
  old j = g.vertex j

  abbrev to : Coordinates
  to = counts_after g s at

  -- along the first side, and along the second
  along_first : (d j : ℕ) → s.cut i ≤ j → j + d ≤ s.turn i → (at.one (old (j + d)) ≡ at.one (old j)) × (at.two (old j) + d ≤ at.two (old (j + d)))
  along_first zero j a b = let e : j + 0 ≡ j = omega arith in (ap (λ z. at.one (old z)) e, omega (arith, ap (λ z. at.two (old z)) e))
  along_first (suc d) j a b =
      let less = along_first d j a (omega arith) in
      let one = t.left i (j + d) l (omega arith) (omega arith) in
      let e : j + suc d ≡ suc (j + d) = omega arith in
      (ap (λ z. at.one (old z)) e ∙ one.one ∙ less.0, omega (arith, ap (λ z. at.two (old z)) e, one.two, less.1))

  along_second : (d j : ℕ) → s.turn i < j → j + d ≤ s.cut (suc i) → (at.two (old (j + d)) ≡ at.two (old j)) × (at.one (old (j + d)) + d ≤ at.one (old j))
  along_second zero j a b = let e : j + 0 ≡ j = omega arith in (ap (λ z. at.two (old z)) e, omega (arith, ap (λ z. at.one (old z)) e))
  along_second (suc d) j a b =
      let less = along_second d j a (omega arith) in
      let one = t.right i (j + d) l (omega arith) (omega arith) in
      let e : j + suc d ≡ suc (j + d) = omega arith in
      (ap (λ z. at.two (old z)) e ∙ one.two ∙ less.0, omega (arith, ap (λ z. at.one (old z)) e, one.one, less.1))

  -- the places of the sides are places of the contour
  within_first : (j : ℕ) → j ≤ s.turn i → j < g.width
  within_first j a = let b = step.high i l in let c = cut-last g s step (suc i) l in let w = step.within in omega arith

  within_second : (j : ℕ) → j ≤ s.cut (suc i) → j < g.width
  within_second j a = let c = cut-last g s step (suc i) l in let w = step.within in omega arith

  one_first : (j : ℕ) → s.cut i ≤ j → j ≤ s.turn i → to.one (old j) + i ≡ at.one (old j) + s.faces
  one_first j a b = let e = one_after-contour g s at stage step j (within_first j b) in let f = gain-first g s step i j l a b in omega arith

  two_first : (j : ℕ) → s.cut i ≤ j → j ≤ s.turn i → to.two (old j) ≡ at.two (old j) + i
  two_first j a b = let e = two_after-contour g s at stage step j (within_first j b) in let f = gain-first g s step i j l a b in omega arith

  one_second : (j : ℕ) → s.turn i < j → j ≤ s.cut (suc i) → to.one (old j) + suc i ≡ at.one (old j) + s.faces
  one_second j a b = let e = one_after-contour g s at stage step j (within_second j b) in let f = gain-second g s step i j l a b in omega arith

  two_second : (j : ℕ) → s.turn i < j → j ≤ s.cut (suc i) → to.two (old j) ≡ at.two (old j) + suc i
  two_second j a b = let e = two_after-contour g s at stage step j (within_second j b) in let f = gain-second g s step i j l a b in omega arith

  -- where the sides go
  place_old : (j : ℕ) → j < g.width → place_after g s (old j) ≡ moved s j
  place_old j b = place_after-older g s (old j) (stage.placed j b) ∙ ap (moved s) (stage.own j b)

  -- between the first turn and the last one all goes to one place
  moved-between : (j : ℕ) → s.turn 0 < j → j ≤ s.turn (s.faces - 1) → moved s j ≡ suc s.first
  moved-between j a b =
      let f = first_turn g s step in
      let lt = last_turn g s step in
      elim (cases_moved g s step j) [
        | inl z ↦ let z' = z.low in absurd (omega arith)
        | inr (inl z) ↦ let z' = z.high in absurd (omega arith)
        | inr (inr (inl z)) ↦ z.to
        | inr (inr (inr (inl z))) ↦ let z' = z.low in absurd (omega arith)
        | inr (inr (inr (inr z))) ↦ let z' = z.low in absurd (omega arith)
      ]

  -- the first side goes to one place
  moved-first : (j : ℕ) → s.cut i ≤ j → j ≤ s.turn i → ((i ≡ 0) × (moved s j ≡ s.first)) ⊎ ((0 < i) × (moved s j ≡ suc s.first))
  moved-first j a b =
      let lt = last_turn g s step in
      let c = turn-le g s step i (s.faces - 1) (omega arith) (omega arith) in
      elim (cases_lt 0 i) [
        | inl more ↦
            let d = cut-le g s step 1 i more (omega arith) in
            let e = step.high 0 step.some_face in
            inr (more, moved-between j (omega arith) (omega arith))
        | inr none ↦
            let zero_i : i ≡ 0 = omega arith in
            let ti = ap s.turn zero_i in
            let ci = ap s.cut zero_i in
            inl (
              zero_i,
              elim (cases_moved g s step j) [
                | inl z ↦ let z' = z.low in let z'' = z.to in omega arith
                | inr (inl z) ↦ z.to
                | inr (inr (inl z)) ↦ let z' = z.low in absurd (omega arith)
                | inr (inr (inr (inl z))) ↦ let z' = z.low in absurd (omega arith)
                | inr (inr (inr (inr z))) ↦ let z' = z.low in absurd (omega arith)
              ],
            )
      ]

  -- and so does the second: to the single new vertex, or to the last place
  moved-second : (j : ℕ) → s.turn i < j → j ≤ s.cut (suc i) → ((suc i < s.faces) × (moved s j ≡ suc s.first)) ⊎ ((suc i ≡ s.faces) × (moved s j ≡ s.first + s.vertices + 1))
  moved-second j a b =
      let c0 = turn-le g s step 0 i (omega arith) l in
      let f = first_turn g s step in
      let cl = cut-last g s step (suc i) l in
      elim (cases_lt (suc i) s.faces) [
        | inl more ↦
            let d = step.low (suc i) more in
            let e = turn-le g s step (suc i) (s.faces - 1) (omega arith) (omega arith) in
            inl (more, moved-between j (omega arith) (omega arith))
        | inr none ↦
            let last_i : suc i ≡ s.faces = omega arith in
            let e : s.faces - 1 ≡ i = omega arith in
            inr (
              last_i,
              elim (cases_moved g s step j) [
                | inl z ↦ let z' = z.low in absurd (omega (arith, ap s.turn e))
                | inr (inl z) ↦ let z' = z.high in absurd (omega (arith, ap s.turn e))
                | inr (inr (inl z)) ↦ let z' = z.high in absurd (omega (arith, ap s.turn e))
                | inr (inr (inr (inl z))) ↦ z.to
                | inr (inr (inr (inr z))) ↦ let z' = z.low in let z'' = z.to in omega (arith, ap s.turn e)
              ],
            )
      ]

  -- a new vertex
  pub place_new : (v : ℕ) → g.count ≤ v → place_after g s v + g.count ≡ v + suc s.first
  place_new v a = place_after-new g s v a

  -- the six kinds of pairs
  pub first_made : (j j' : ℕ) → s.cut i ≤ j → j < j' → j' ≤ s.turn i → KeepsFirst (after g s) to (old j) (old j')
  first_made j j' a b c =
      let e : j + (j' - j) ≡ j' = omega arith in
      let along = along_first (j' - j) j a (omega arith) in
      let along0 = ap (λ z. at.one (old z)) e in
      let along1 = ap (λ z. at.two (old z)) e in
      let p = one_first j a (omega arith) in
      let p' = one_first j' (omega arith) c in
      let q = two_first j a (omega arith) in
      let q' = two_first j' (omega arith) c in
      record {
        are = record { one = omega arith; two = omega arith };
        place =
            let u = place_old j (within_first j (omega arith)) in
            let u' = place_old j' (within_first j' c) in
            grind (arith, moved-first);
      }

  pub second_made : (j j' : ℕ) → s.turn i < j → j < j' → j' ≤ s.cut (suc i) → KeepsSecond (after g s) to (old j) (old j')
  second_made j j' a b c =
      let e : j + (j' - j) ≡ j' = omega arith in
      let along = along_second (j' - j) j a (omega arith) in
      let along0 = ap (λ z. at.one (old z)) e in
      let along1 = ap (λ z. at.two (old z)) e in
      let p = one_second j a (omega arith) in
      let p' = one_second j' (omega arith) c in
      let q = two_second j a (omega arith) in
      let q' = two_second j' (omega arith) c in
      record {
        are = record { one = omega arith; two = omega arith };
        place =
            let u = place_old j (within_second j (omega arith)) in
            let u' = place_old j' (within_second j' c) in
            grind (arith, moved-second);
      }

  pub first_second_made : (j j' : ℕ) → s.cut i ≤ j → j ≤ s.turn i → s.turn i < j' → j' ≤ s.cut (suc i) → KeepsFirstSecond (after g s) to (old j) (old j')
  first_second_made j j' a b c d =
      let f = h.falls j j' (omega arith) (within_second j' d) in
      let r = h.rises j j' (omega arith) (within_second j' d) in
      let p = one_first j a b in
      let p' = one_second j' c d in
      let q = two_first j a b in
      let q' = two_second j' c d in
      let u = place_old j (within_first j b) in
      let u' = place_old j' (within_second j' d) in
      let le = moved-le g s step j j' (omega arith) in
      record { are = record { one = omega arith; two = omega arith }; place = omega arith }

  pub second_third_made : (j v : ℕ) → s.turn i < j → j ≤ s.cut (suc i) → g.count ≤ v → v < g.count + s.vertices → KeepsSecondThird (after g s) to (old j) v
  second_third_made j v a b c d =
      let lo = cut-first g s step i (omega arith) in
      let hi = cut-last g s step (suc i) l in
      let tu = step.low i l in
      let f = h.falls j s.last (omega arith) step.within in
      let r = h.rises s.first j (omega arith) (within_second j b) in
      let p = one_second j a b in
      let q = two_second j a b in
      let x = one_after-new g s at v c in
      let y = two_after-new g s at v c in
      let u = place_old j (within_second j b) in
      let n = place_new v c in
      record {
        are = record { two = omega arith; sum = omega arith };
        place = grind (arith, moved-second);
      }

  pub third_first_made : (v j : ℕ) → g.count ≤ v → v < g.count + s.vertices → s.cut i ≤ j → j ≤ s.turn i → KeepsThirdFirst (after g s) to v (old j)
  third_first_made v j c d a b =
      let lo = cut-first g s step i (omega arith) in
      let hi = cut-last g s step (suc i) l in
      let tu = step.high i l in
      let f = h.falls j s.last (omega arith) step.within in
      let r = h.rises s.first j (omega arith) (within_first j b) in
      let p = one_first j a b in
      let q = two_first j a b in
      let x = one_after-new g s at v c in
      let y = two_after-new g s at v c in
      let u = place_old j (within_first j b) in
      let n = place_new v c in
      record {
        are = record { one = omega arith; sum = omega arith };
        place = elim (moved-first j a b) [ inl z ↦ let z1 = z.1 in omega arith | inr z ↦ let z1 = z.1 in omega arith ];
      }

  pub third_made : (v v' : ℕ) → g.count ≤ v' → v' ≤ v → KeepsThird (after g s) to v v'
  third_made v v' a b = grind (arith, one_after-new, two_after-new, place_new)
