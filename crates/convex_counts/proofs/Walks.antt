-- The darts of a face along its walk.
use Rattle.std.proofs.Common.{◌≡◌, ◌⊎◌, ℕ, suc, ◌+◌, ◌-◌, ◌<◌, ◌≤◌, pos, ◌≤ℤ◌, leb, sym, ap, ◌∙◌, inl, inr, arith}
use Rattle.std.proofs.lemmas.Bool.{cases_lt, cond-true, cond-false, le-leb, lt-leb}
use Rattle.pg_plane.specs.Geometry.{area}
use Rattle.convex_counts.proofs.Areas.{as_named, turned_weak}
use Rattle.contour_runs.specs.Runs.{Stage}
use Rattle.contour_runs.specs.Laws.{IsStage}
use Rattle.contour_runs.specs.Wood.{Coordinates, point_of}
use Rattle.contour_runs.specs.FaceRuns.{Step, stage_after, IsStep, IsDartOf}
use Rattle.contour_runs.proofs.FaceRunsFaces.{face_length, face_vertex, one_place}
use Rattle.contour_runs.proofs.FaceRunsPlaces.{cut-next, cut-last}
use Rattle.contour_runs.proofs.FaceRunsStages.{IsStage-run, IsRun-less}
use Rattle.convex_counts.specs.Counts.{face_counts, IsTurnedRun}
use Rattle.convex_counts.proofs.Convex.{faces_convex}

-- the dart from x to y leaves the vertex r of a face, and the next vertex is r + 1, or the first one after the last
pub record IsInside (g : Stage) (s : Step) (i r x y : ℕ) : Type 0 where
  pub within : suc r < face_length s i
  pub tail : face_vertex g s i r ≡ x
  pub head : face_vertex g s i (suc r) ≡ y

pub record IsClosing (g : Stage) (s : Step) (i r x y : ℕ) : Type 0 where
  pub last : suc r ≡ face_length s i
  pub tail : face_vertex g s i r ≡ x
  pub head : face_vertex g s i 0 ≡ y

module _ (g : Stage) (s : Step) (i : ℕ) where
  vertex-old : (r : ℕ) → s.cut i + r ≤ s.cut (suc i) → face_vertex g s i r ≡ g.vertex (s.cut i + r)
  unfolding face_vertex
  vertex-old r l = cond-true (leb (s.cut i + r) (s.cut (suc i))) (g.vertex (s.cut i + r)) (g.count + face_length s i - suc r) (le-leb (s.cut i + r) (s.cut (suc i)) l)

  vertex-new : (r : ℕ) → s.cut (suc i) < s.cut i + r → r < face_length s i → face_vertex g s i r + suc r ≡ g.count + face_length s i
  unfolding face_vertex
  vertex-new r l m =
      let e = cond-false (leb (s.cut i + r) (s.cut (suc i))) (g.vertex (s.cut i + r)) (g.count + face_length s i - suc r) (lt-leb (s.cut i + r) (s.cut (suc i)) l) in
      omega (arith, e)

  module _ (stage : IsStage g) (step : IsStep g s) (li : i < s.faces) where
    -- where a dart of the face is
    dart_at : (x y : ℕ) → IsDartOf g s i x y → (r : ℕ) × (IsInside g s i r x y ⊎ IsClosing g s i r x y)
    dart_at x y d =
        let rise = cut-next g s step i li in
        elim d.dart [
          | inl a ↦
              let r : ℕ = a.place - s.cut i in
              let e : s.cut i + r ≡ a.place = omega arith in
              let f : s.cut i + suc r ≡ suc a.place = omega arith in
              (r, inl record { within = omega arith; tail = vertex-old r (omega arith) ∙ ap g.vertex e ∙ a.tail; head = vertex-old (suc r) (omega arith) ∙ ap g.vertex f ∙ a.head })
          | inr (inl a) ↦
              let r : ℕ = (s.cut (suc i) + 1 - s.cut i) - 1 in
              let e : s.cut i + r ≡ s.cut (suc i) = omega arith in
              let new = vertex-new (suc r) (omega arith) (omega arith) in
              (r, inl record { within = omega arith; tail = vertex-old r (omega arith) ∙ ap g.vertex e ∙ a.tail; head = omega arith })
          | inr (inr (inl a)) ↦
              let r : ℕ = g.count + face_length s i - suc x in
              let new = vertex-new r (omega arith) (omega arith) in
              let new' = vertex-new (suc r) (omega arith) (omega arith) in
              (r, inl record { within = omega arith; tail = omega arith; head = omega arith })
          | inr (inr (inr a)) ↦
              let r : ℕ = face_length s i - 1 in
              let e : s.cut i + 0 ≡ s.cut i = omega arith in
              let new = vertex-new r (omega arith) (omega arith) in
              (r, inr record { last = omega arith; tail = omega arith; head = vertex-old 0 (omega arith) ∙ ap g.vertex e ∙ a.head })
        ]

    -- each vertex is passed once
    passed_once : (r t : ℕ) → r < face_length s i → t < face_length s i → face_vertex g s i r ≡ face_vertex g s i t → r ≡ t
    passed_once r t l m e =
        let c = cut-last g s step (suc i) li in
        grind (arith, cases_lt, vertex-old, one_place, vertex-new)

    -- and at each corner the walk does not bend inwards, where the face does not
    module _ (at : Coordinates) (convex : (r r' r'' : ℕ) → r < r' → r' < r'' → r'' < face_length s i → pos 0 ≤ℤ area (point_of at (face_vertex g s i r)) (point_of at (face_vertex g s i r')) (point_of at (face_vertex g s i r''))) where
      abbrev vertex : ℕ → ℕ
      vertex r = face_vertex g s i r

      at_corner : (x y z : ℕ) → IsDartOf g s i x y → IsDartOf g s i y z → pos 0 ≤ℤ area (point_of at x) (point_of at y) (point_of at z)
      at_corner x y z d e =
          let rise = cut-next g s step i li in
          let some = step.some_vertex in
          let p = dart_at x y d in
          let q = dart_at y z e in
          elim p.1 [
            | inl a ↦
                let aw = a.within in
                elim q.1 [
                  | inl b ↦
                      let bw = b.within in
                      let same = passed_once (suc p.0) q.0 aw (omega arith) (a.head ∙ sym b.tail) in
                      let after : suc q.0 ≡ suc (suc p.0) = omega arith in
                      as_named at (vertex p.0) (vertex (suc p.0)) (vertex (suc (suc p.0))) x y z (sym a.tail) (sym a.head) (sym b.head ∙ ap vertex after) (convex p.0 (suc p.0) (suc (suc p.0)) (omega arith) (omega arith) (omega arith))
                  | inr b ↦
                      let bl = b.last in
                      let same = passed_once (suc p.0) q.0 aw (omega arith) (a.head ∙ sym b.tail) in
                      as_named at (vertex p.0) (vertex (suc p.0)) (vertex 0) x y z (sym a.tail) (sym a.head) (sym b.head) (turned_weak at (vertex p.0) (vertex (suc p.0)) (vertex 0) (turned_weak at (vertex (suc p.0)) (vertex 0) (vertex p.0) (convex 0 p.0 (suc p.0) (omega arith) (omega arith) (omega arith))))
                ]
            | inr a ↦
                let al = a.last in
                elim q.1 [
                  | inl b ↦
                      let bw = b.within in
                      let same = passed_once 0 q.0 (omega arith) (omega arith) (a.head ∙ sym b.tail) in
                      let after : suc q.0 ≡ 1 = omega arith in
                      as_named at (vertex p.0) (vertex 0) (vertex 1) x y z (sym a.tail) (sym a.head) (sym b.head ∙ ap vertex after) (turned_weak at (vertex p.0) (vertex 0) (vertex 1) (convex 0 1 p.0 (omega arith) (omega arith) (omega arith)))
                  | inr b ↦ let bl = b.last in let same = passed_once 0 q.0 (omega arith) (omega arith) (a.head ∙ sym b.tail) in absurd (omega arith)
                ]
          ]

pub corners_convex : (steps : ℕ → Step) (n k i x y z : ℕ) → IsTurnedRun steps n → k < n → IsDartOf (stage_after steps k) (steps k) i x y → IsDartOf (stage_after steps k) (steps k) i y z → pos 0 ≤ℤ area (point_of (face_counts steps n) x) (point_of (face_counts steps n) y) (point_of (face_counts steps n) z)
corners_convex steps n k i x y z turned lk d e =
    at_corner (stage_after steps k) (steps k) i (IsStage-run steps k (IsRun-less steps k n (omega arith) turned.run)) (turned.run k lk) d.within (face_counts steps n) (λ r r' r''. faces_convex steps n k i r r' r'' turned lk d.within) x y z d e
