-- At the two ends of a step the contour goes right behind the first and left before the last. One of these edges, or a later one like it, stays at such a vertex while it is on the contour.
use Rattle.std.proofs.Common.{◌≡◌, ◌⊎◌, ℕ, suc, ◌+◌, ◌-◌, ◌<◌, ◌≤◌, sym, ap, ◌∙◌, inl, inr, arith}
use Rattle.std.proofs.lemmas.Bool.{cases_lt}
use Rattle.contour_runs.specs.Runs.{Stage}
use Rattle.contour_runs.specs.Laws.{IsStage}
use Rattle.contour_runs.proofs.Upward.{upward}
use Rattle.contour_runs.specs.Wood.{Coordinates}
use Rattle.contour_runs.specs.FaceRuns.{Step, vertex_after, after, stage_after, IsStep, IsRun, IsTouched, faces_made}
use Rattle.contour_runs.proofs.FaceRunsPlaces.{order, vertex_after-low, vertex_after-new, vertex_after-high, cases_place}
use Rattle.contour_runs.proofs.FaceRunsStages.{IsStage-run, IsStage-after, IsRun-less, count-le}
use Rattle.convex_counts.specs.Counts.{face_counts, counts_after, IsLeft, IsRight}
use Rattle.convex_counts.specs.Contours.{IsFalling}
use Rattle.convex_counts.proofs.Gains.{counted-low, counted-new, high_counts}
use Rattle.convex_counts.proofs.Steps.{IsFalling-run}

-- a left edge before the place x
pub record IsAfterLeft (g : Stage) (at : Coordinates) (x : ℕ) : Type 0 where
  pub place : ℕ
  pub next : suc place ≡ x
  pub left : IsLeft g at place

-- or a right one behind it
pub record IsBeforeRight (g : Stage) (at : Coordinates) (x : ℕ) : Type 0 where
  pub within : suc x < g.width
  pub right : IsRight g at x

abbrev pub HasEdge : Stage → Coordinates → ℕ → Type 0
HasEdge g at x = IsAfterLeft g at x ⊎ IsBeforeRight g at x

-- wherever v stands on the contour, it has one
abbrev pub IsEdged : Stage → Coordinates → ℕ → Type 0
IsEdged g at v = (x : ℕ) → x < g.width → g.vertex x ≡ v → HasEdge g at x

module _ (g : Stage) (s : Step) (at : Coordinates) (m : ℕ) (stage : IsStage g) (step : IsStep g s) (h : IsFalling g at m) where
  abbrev to : Coordinates
  to = counts_after g s at

  -- the new edges at the ends of a step
  right_made : (x : ℕ) → x ≡ s.first → HasEdge (after g s) to x
  right_made x e =
      let o = order g s step in
      let w = step.within in
      let some = step.some_vertex in
      let some' = step.some_face in
      let f = h.falls s.first s.last (omega arith) w in
      let a = counted-low g s at stage step x (omega arith) in
      let b = counted-new g s at stage step (suc x) (omega arith) (omega arith) in
      let a1 = a.one in
      let a2 = a.two in
      let e1 = ap (λ z. at.one (g.vertex z)) e in
      let e2 = ap (λ z. at.two (g.vertex z)) e in
      inr record { within = omega arith; right = record { one = omega (arith, b.one); two = omega (arith, b.two) } }

  left_made : (x : ℕ) → x ≡ s.first + s.vertices + 1 → HasEdge (after g s) to x
  left_made x e =
      let o = order g s step in
      let w = step.within in
      let some = step.some_vertex in
      let some' = step.some_face in
      let f = h.rises s.first s.last (omega arith) w in
      let y : ℕ = s.first + s.vertices in
      let a = counted-new g s at stage step y (omega arith) (omega arith) in
      let b = high_counts g s at stage step (suc y) s.last (omega arith) w (omega arith) in
      inl record { place = y; next = omega arith; left = made_from y a.one a.two b.0 b.1 f some' }
    where
      made_from : (y : ℕ) → to.one (vertex_after g s y) ≡ at.one (g.vertex s.last) → to.two (vertex_after g s y) ≡ at.two (g.vertex s.first) → to.one (vertex_after g s (suc y)) ≡ at.one (g.vertex s.last) → to.two (vertex_after g s (suc y)) ≡ at.two (g.vertex s.last) + s.faces → at.two (g.vertex s.first) ≤ at.two (g.vertex s.last) → 0 < s.faces → IsLeft (after g s) to y
      made_from y a b c d f some = record { one = c ∙ sym a; two = omega arith }

  -- edges on the two sides stay
  low_edge : (x : ℕ) → x < s.first → HasEdge g at x → HasEdge (after g s) to x
  low_edge x l e =
      let o = order g s step in
      let w = step.within in
      elim e [
        | inl z ↦
            let next = z.next in
            let b = counted-low g s at stage step (suc z.place) (omega arith) in
            let a = counted-low g s at stage step z.place (omega arith) in
            let p = z.left.one in
            let q = z.left.two in
            inl record { place = z.place; next = next; left = record { one = omega (arith, a.one, b.one); two = omega (arith, a.two, b.two) } }
        | inr z ↦ grind (arith, counted-low)
      ]

  high_edge : (x from : ℕ) → s.last < from → from < g.width → x + s.last ≡ from + s.first + s.vertices + 1 → HasEdge g at from → HasEdge (after g s) to x
  high_edge x from l b t e =
      let o = order g s step in
      let w = step.within in
      elim e [
        | inl z ↦
            let next = z.next in
            let y : ℕ = x - 1 in
            let p = z.left.one in
            let q = z.left.two in
            inl record { place = y; next = omega arith; left = left_high y z.place (omega arith) (omega arith) (omega arith) (omega arith) z.left }
        | inr z ↦ let zw = z.within in inr record { within = omega arith; right = right_high x from (omega arith) zw t (omega arith) z.right }
      ]
    where
      left_high : (y y' : ℕ) → s.last ≤ y' → suc y' < g.width → y + s.last ≡ y' + s.first + s.vertices + 1 → suc y + s.last ≡ suc y' + s.first + s.vertices + 1 → IsLeft g at y' → IsLeft (after g s) to y
      left_high y y' l w t t' e =
          let a = high_counts g s at stage step y y' l (omega arith) t in
          let b = high_counts g s at stage step (suc y) (suc y') (omega arith) w t' in
          record { one = omega (arith, a.0, b.0, e.one); two = omega (arith, a.1, b.1, e.two) }

      right_high : (y y' : ℕ) → s.last ≤ y' → suc y' < g.width → y + s.last ≡ y' + s.first + s.vertices + 1 → suc y + s.last ≡ suc y' + s.first + s.vertices + 1 → IsRight g at y' → IsRight (after g s) to y
      right_high y y' l w t t' e =
          let a = high_counts g s at stage step y y' l (omega arith) t in
          let b = high_counts g s at stage step (suc y) (suc y') (omega arith) w t' in
          record { one = omega (arith, a.0, b.0, e.one); two = omega (arith, a.1, b.1, e.two) }

  -- so an older vertex keeps one
  edged_after : (v : ℕ) → v < g.count → IsEdged g at v → IsEdged (after g s) to v
  edged_after v older edged x l e =
      let o = order g s step in
      let w = step.within in
      elim (cases_place g s x step l) [
        | inl c ↦ grind (arith, cases_lt, low_edge, vertex_after-low, right_made)
        | inr (inl c) ↦ let n = vertex_after-new g s x c.low c.high in let lo = c.low in absurd (omega arith)
        | inr (inr c) ↦
            let hi = c.high in
            let t = c.to in
            elim (cases_lt s.last c.from) [
              | inl above ↦ high_edge x c.from above c.within t (edged c.from c.within (sym (vertex_after-high g s x c.from (omega arith) t) ∙ e))
              | inr same ↦ left_made x (omega arith)
            ]
      ]

  -- and an end of the step has one
  edged_made : (v : ℕ) → (g.vertex s.first ≡ v) ⊎ (g.vertex s.last ≡ v) → IsEdged (after g s) to v
  edged_made v c x l e =
      let o = order g s step in
      let w = step.within in
      let stage' = IsStage-after g s stage step in
      elim c [
        | inl first ↦
            let same : vertex_after g s x ≡ vertex_after g s s.first = e ∙ sym first ∙ sym (vertex_after-low g s s.first (omega arith)) in
            right_made x (sym (stage'.own x l) ∙ ap (after g s).place same ∙ stage'.own s.first (omega arith))
        | inr last ↦
            let y : ℕ = s.first + s.vertices + 1 in
            let same : vertex_after g s x ≡ vertex_after g s y = e ∙ sym last ∙ sym (vertex_after-high g s y s.last (omega arith) (omega arith)) in
            left_made x (sym (stage'.own x l) ∙ ap (after g s).place same ∙ stage'.own y (omega arith))
      ]

-- a touched vertex has one
pub edged_run : (steps : ℕ → Step) (n v : ℕ) → IsRun steps n → IsTouched steps n v → IsEdged (stage_after steps n) (face_counts steps n) v
edged_run steps n v run t =
    let k = t.step in
    let l = t.earlier in
    let g = stage_after steps k in
    let s = steps k in
    let less = IsRun-less steps k n (omega arith) run in
    let stage = IsStage-run steps k less in
    let step = run k l in
    let o = order g s step in
    let w = step.within in
    let older : v < g.count = elim t.end [ inl e ↦ (let p = stage.placed s.first (omega arith) in omega arith) | inr e ↦ (let p = stage.placed s.last w in omega arith) ] in
    upward (λ z. IsEdged (stage_after steps z) (face_counts steps z) v) (suc k) n l (edged_made g s (face_counts steps k) (faces_made steps k) stage step (IsFalling-run steps k less) v t.end)
    (λ z low high h.
    let c = count-le steps k z (omega arith) in
    let less = IsRun-less steps z n (omega arith) run in
    edged_after (stage_after steps z) (steps z) (face_counts steps z) (faces_made steps z) (IsStage-run steps z less) (run z high) (IsFalling-run steps z less) v (omega arith) h)
