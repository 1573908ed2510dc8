-- The new vertices of a row begin at one point. Each two neighbours of them part when a face turns between them, so that in a whole run all are apart in the end.
use Rattle.std.proofs.Common.{◌≡◌, ◌⊎◌, ℕ, zero, suc, ◌+◌, ◌-◌, ◌<◌, ◌≤◌, sym, ap, ◌∙◌, inl, inr, arith}
use Rattle.std.proofs.lemmas.Bool.{cases_lt, cases_order}
use Rattle.contour_runs.specs.Runs.{Stage}
use Rattle.contour_runs.specs.Laws.{IsStage}
use Rattle.contour_runs.proofs.Upward.{upward}
use Rattle.contour_runs.specs.Wood.{Coordinates}
use Rattle.contour_runs.specs.FaceRuns.{Step, after, stage_after, IsStep}
use Rattle.contour_runs.proofs.FaceRunsPlaces.{order, vertex_after-low, vertex_after-new, vertex_after-high}
use Rattle.contour_runs.proofs.FaceRunsStages.{IsStage-run, IsRun-less, count-le}
use Rattle.convex_counts.specs.Counts.{face_counts, counts_after, two_gain, IsTurned, IsTurnedRun}
use Rattle.convex_counts.specs.FacePointsLaws.{IsWholeRun}
use Rattle.convex_counts.proofs.Gains.{gain-first, gain-second, gain-le, one_after-older}
use Rattle.convex_counts.proofs.Kept.{KeepsThird}
use Rattle.convex_counts.proofs.FacePointsSides.{third_kept}

-- each place between two cuts is under a face
pub find_face : (s : Step) (m j : ℕ) → s.cut 0 ≤ j → j < s.cut m → (i : ℕ) × (i < m) × (s.cut i ≤ j) × (j < s.cut (suc i))
find_face s zero j a b = absurd (omega arith)
find_face s (suc m) j a b = elim (cases_lt j (s.cut m)) [
  | inl l ↦ let f = find_face s m j a l in (f.0, let less = f.1 in omega arith, f.2, f.3)
  | inr l ↦ (m, omega arith, l, b)
]

-- the vertex after u comes right behind it on the contour
pub record IsNextTo (g : Stage) (u : ℕ) : Type 0 where
  pub place : ℕ
  pub within : suc place < g.width
  pub here : g.vertex place ≡ u
  pub next : g.vertex (suc place) ≡ suc u

-- or they are apart
abbrev IsNextOrApart : Stage → Coordinates → ℕ → Type 0
IsNextOrApart g at u = IsNextTo g u ⊎ (at.one (suc u) < at.one u)

module _ (g : Stage) (s : Step) (at : Coordinates) (stage : IsStage g) (step : IsStep g s) (well : IsTurned g at s) (u : ℕ) (lu : suc u < g.count) (k : KeepsThird g at (suc u) u) where
  apart_after : at.one (suc u) < at.one u → (counts_after g s at).one (suc u) < (counts_after g s at).one u
  apart_after l = grind (arith, one_after-older, gain-le)

  turns_between : (h : IsNextTo g u) (i : ℕ) → i < s.faces → s.cut i ≤ h.place → h.place < s.cut (suc i) → (counts_after g s at).one (suc u) < (counts_after g s at).one u
  turns_between h i li lo hi =
      let j = h.place in
      let eu = ap at.one h.here in
      let en = ap at.one h.next in
      let tu = ap at.two h.here in
      let tn = ap at.two h.next in
      elim (cases_order j (s.turn i)) [
        | inl e ↦
            let gu = ap (two_gain s) (ap g.place (sym h.here) ∙ stage.own j (omega arith)) ∙ gain-first g s step i j li lo (omega arith) in
            let gn = ap (two_gain s) (ap g.place (sym h.next) ∙ stage.own (suc j) h.within) ∙ gain-second g s step i (suc j) li (omega arith) hi in
            let a = one_after-older g s at (suc u) lu in
            omega (arith, one_after-older g s at u (omega arith))
        | inr (inl before) ↦ let l = well.left i j li lo before in let l1 = l.one in let l2 = l.two in absurd (omega arith)
        | inr (inr behind) ↦ let l = well.right i j li behind hi in let l1 = l.one in let l2 = l.two in absurd (omega arith)
      ]

  next_after : IsNextTo g u → IsNextOrApart (after g s) (counts_after g s at) u
  next_after h =
      let j = h.place in
      elim (cases_lt j s.first) [
        | inl below ↦ inl record {
          place = j;
          within = omega arith;
          here = vertex_after-low g s j (omega arith) ∙ h.here;
          next = vertex_after-low g s (suc j) below ∙ h.next;
        }
        | inr high ↦ elim (cases_lt j s.last) [
          | inl under ↦ let f = find_face s s.faces j (omega arith) (omega arith) in inr (turns_between h f.0 f.1 f.2 f.3)
          | inr behind ↦
              let to : ℕ = j + s.first + s.vertices + 1 - s.last in
              inl record {
                place = to;
                within = omega arith;
                here = vertex_after-high g s to j (omega arith) (omega arith) ∙ h.here;
                next = vertex_after-high g s (suc to) (suc j) (omega arith) (omega arith) ∙ h.next;
              }
        ]
      ]

-- when they are new they are next to each other
next_made : (g : Stage) (s : Step) (u : ℕ) → IsStep g s → g.count ≤ u → suc u < g.count + s.vertices → IsNextTo (after g s) u
next_made g s u step a b =
    let j : ℕ = u + suc s.first - g.count in
    let x = vertex_after-new g s j (omega arith) (omega arith) in
    let y = vertex_after-new g s (suc j) (omega arith) (omega arith) in
    record { place = j; within = omega arith; here = omega arith; next = omega arith }

pub next_or_apart : (steps : ℕ → Step) (n k u : ℕ) → IsTurnedRun steps n → k < n → (stage_after steps k).count ≤ u → suc u < (stage_after steps (suc k)).count → IsNextOrApart (stage_after steps n) (face_counts steps n) u
next_or_apart steps n k u turned l a b =
    upward (λ z. IsNextOrApart (stage_after steps z) (face_counts steps z) u) (suc k) n l (inl (next_made (stage_after steps k) (steps k) u (turned.run k l) a b))
    (λ z low high h.
    let c = count-le steps (suc k) z low in
    let run = IsRun-less steps z n (omega arith) turned.run in
    let some = (turned.run k l).some_face in
    let kept = third_kept steps z (record { run = run; turned = λ y m. turned.turned y (omega arith) }) k 0 low some (suc u) u a (omega arith) b in
    elim h [
      | inl next ↦ next_after (stage_after steps z) (steps z) (face_counts steps z) (IsStage-run steps z run) (turned.run z high) (turned.turned z high) u (omega arith) kept next
      | inr apart ↦ inr (apart_after (stage_after steps z) (steps z) (face_counts steps z) (IsStage-run steps z run) (turned.run z high) (turned.turned z high) u (omega arith) kept apart)
    ])

-- in the end they are apart
pub new_apart : (steps : ℕ → Step) (n k u : ℕ) → IsWholeRun steps n → k < n → (stage_after steps k).count ≤ u → suc u < (stage_after steps (suc k)).count → (face_counts steps n).one (suc u) < (face_counts steps n).one u
new_apart steps n k u whole l a b =
    let at = face_counts steps n in
    let kept = third_kept steps n whole.turned k 0 l ((whole.turned.run k l).some_face) (suc u) u a (omega arith) b in
    elim (next_or_apart steps n k u whole.turned l a b) [
      | inr apart ↦ apart
      | inl next ↦ grind (arith, cases_lt)
    ]
