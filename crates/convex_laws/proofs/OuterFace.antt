-- The outer face of a run's map goes along the last contour, and is that of the base.
use Rattle.std.proofs.Common.{◌≡◌, ◌⊎◌, ℕ, zero, suc, ◌-◌, ◌<◌, length, refl, sym, ap, ◌∙◌, subst, inl, inr, arith}
use Rattle.map_lists.specs.Lists.{Lists}
use Rattle.map_theory.specs.Maps.{HasDart, IsSimpleMap, follows}
use Rattle.map_theory.specs.Paths.{SameFace}
use Rattle.map_theory.proofs.DartLemmas.{HasDart-face_step}
use Rattle.contour_runs.specs.Runs.{Stage}
use Rattle.contour_runs.specs.Laws.{IsStage}
use Rattle.contour_runs.specs.FaceRuns.{Step, stage_after, faces_made, IsRun}
use Rattle.contour_runs.proofs.FaceRunsStages.{IsStage-run}
use Rattle.convex_peeling.specs.Contours.{face_of}
use Rattle.convex_peeling.proofs.Faces.{SameFace-labels, labels-SameFace, face_of-step, along_face}
use Rattle.convex_laws.specs.ConvexDrawings.{IsRunMap}
use Rattle.convex_laws.proofs.FaceNumbers.{made-less}

module _ (lists : Lists) (s d : ℕ) (steps : ℕ → Step) (n : ℕ) (rank : ℕ → ℕ) (face : ℕ → ℕ → ℕ) (run : IsRun steps n) (map : IsRunMap lists (s, d) steps n rank face) where
  abbrev g : Stage
  g = stage_after steps n

  abbrev outer : ℕ
  outer = faces_made steps n

  simple : IsSimpleMap lists
  simple = map.simple

  stage : IsStage g
  stage = IsStage-run steps n run

  -- a dart of the outer face leaves a place of the contour for the next, or is the base
  pub record GoesOn (x y : ℕ) : Type 0 where
    pub place : ℕ
    pub within : suc place < g.width
    pub tail : g.vertex place ≡ rank x
    pub head : g.vertex (suc place) ≡ rank y

  cases_outer : (x y : ℕ) → HasDart lists x y → face x y ≡ outer → GoesOn x y ⊎ ((rank x ≡ 1) × (rank y ≡ 0))
  cases_outer x y has e = elim (map.on_face x y has) [
    | inl made ↦ let b = made.dart.within in let l = made-less steps n made.step made.place made.earlier b in let q = made.number in absurd (omega arith)
    | inr (inl out) ↦ inl record { place = out.place; within = out.along.within; tail = out.along.tail; head = out.along.head }
    | inr (inr base) ↦ inr (base.tail, base.head)
  ]

  -- a dart of the base's face that leaves a place
  pub record LeavesPlace (i : ℕ) : Type 0 where
    pub x : ℕ
    pub y : ℕ
    pub dart : HasDart lists x y
    pub tail : g.vertex i ≡ rank x
    pub head : g.vertex (suc i) ≡ rank y
    pub outer_face : face x y ≡ outer
    pub same : face_of lists s d ≡ face_of lists x y

  leaves : (x y i : ℕ) → HasDart lists x y → suc i < g.width → g.vertex i ≡ rank x → face x y ≡ outer → face_of lists s d ≡ face_of lists x y → LeavesPlace i
  leaves x y i has l tail e same = elim (cases_outer x y has e) [
    | inl on ↦
        let k : on.place ≡ i = sym (stage.own on.place (omega arith)) ∙ ap g.place (on.tail ∙ sym tail) ∙ stage.own i (omega arith) in
        record { x = x; y = y; dart = has; tail = tail; head = ap (λ i. g.vertex (suc i)) (sym k) ∙ on.head; outer_face = e; same = same }
    | inr base ↦
        let end = stage.end (g.width - 1) (omega arith) in
        absurd (omega (arith, sym (stage.own i (omega arith)) ∙ ap g.place (tail ∙ base.0 ∙ sym end) ∙ stage.own (g.width - 1) (omega arith)))
  ]

  pub leaves_place : (i : ℕ) → suc i < g.width → LeavesPlace i
  leaves_place zero l =
      let y = follows lists d s in
      let has = HasDart-face_step lists (s, d) simple map.dart in
      leaves d y 0 has l (stage.begin ∙ sym map.first) (map.faces s d map.dart ∙ map.outer) (sym (face_of-step lists simple s d map.dart))
  leaves_place (suc i) l =
      let before = leaves_place i (omega arith) in
      let y = follows lists before.y before.x in
      let has = HasDart-face_step lists (before.x, before.y) simple before.dart in
      leaves before.y y (suc i) has l before.head (map.faces before.x before.y before.dart ∙ before.outer_face) (before.same ∙ sym (face_of-step lists simple before.x before.y before.dart))

  vertex_in : (x y : ℕ) → HasDart lists x y → (x < length lists) × (y < length lists)
  vertex_in x y has = (has.0, simple.in_range x y has)

  -- the outer face is one
  pub outer-SameFace : (x y : ℕ) → HasDart lists x y → face x y ≡ outer → SameFace lists (s, d) (x, y)
  outer-SameFace x y has e =
      let l = vertex_in x y has in
      let b = vertex_in s d map.dart in
      elim (cases_outer x y has e) [
        | inl on ↦
            let at = leaves_place on.place on.within in
            let m = vertex_in at.x at.y at.dart in
            let ex : at.x ≡ x = map.ranks at.x x m.0 l.0 (sym at.tail ∙ on.tail) in
            let ey : at.y ≡ y = map.ranks at.y y m.1 l.1 (sym at.head ∙ on.head) in
            SameFace-labels lists s d x y (subst (λ x. face_of lists s d ≡ face_of lists x y) ex (subst (λ y. face_of lists s d ≡ face_of lists at.x y) ey at.same))
        | inr base ↦ grind (arith, SameFace-labels, face_of)
      ]

  pub SameFace-outer : (x y : ℕ) → HasDart lists x y → SameFace lists (s, d) (x, y) → face x y ≡ outer
  SameFace-outer x y has same = along_face lists simple (λ x y. face x y ≡ outer) (λ p q on h. map.faces p q on ∙ h) s d x y map.dart has (labels-SameFace lists s d x y same) map.outer

  -- the vertex before the base on its face
  pub record IsBefore (e : ℕ) : Type 0 where
    pub dart : HasDart lists e s
    pub same : SameFace lists (s, d) (e, s)
    pub step : follows lists s e ≡ d

  -- behind it comes the base
  before_step : (e : ℕ) → HasDart lists e s → face e s ≡ outer → follows lists s e ≡ d
  before_step e has same =
      let y = follows lists s e in
      let next = HasDart-face_step lists (e, s) simple has in
      elim (cases_outer s y next (map.faces e s has ∙ same)) [
        | inl on ↦
            let end = stage.end (g.width - 1) (omega arith) in
            let k : on.place ≡ g.width - 1 = sym (stage.own on.place (omega arith)) ∙ (ap g.place (on.tail ∙ (map.second ∙ sym end)) ∙ stage.own (g.width - 1) (omega arith)) in
            absurd (omega arith)
        | inr base ↦ map.ranks y d (vertex_in s y next).1 (vertex_in s d map.dart).1 (base.1 ∙ sym map.first)
      ]

  pub before_base : (e : ℕ) × IsBefore e
  before_base =
      let w = stage.wide in
      let i : ℕ = g.width - 2 in
      let at = leaves_place i (omega arith) in
      let b = vertex_in s d map.dart in
      let ey : at.y ≡ s = map.ranks at.y s (vertex_in at.x at.y at.dart).1 b.0 (sym at.head ∙ (stage.end (suc i) (omega arith)) ∙ sym map.second) in
      (at.x, subst (λ y. HasDart lists at.x y → SameFace lists (s, d) (at.x, y) → face at.x y ≡ outer → IsBefore at.x) (sym ey) (λ h k o. record { dart = h; same = k; step = before_step at.x h o }) at.dart (SameFace-labels lists s d at.x at.y at.same) at.outer_face)
