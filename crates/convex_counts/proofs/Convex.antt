-- No face bends inwards.
use Rattle.std.proofs.Common.{◌≡◌, ◌⊎◌, ℕ, suc, ◌+◌, ◌-◌, ◌<◌, ◌≤◌, pos, ◌≤ℤ◌, leb, inl, inr, arith}
use Rattle.std.proofs.lemmas.Bool.{cases_lt, cond-true, cond-false, le-leb, lt-leb}
use Rattle.std.proofs.lemmas.Int.{ints}
use Rattle.pg_plane.specs.Geometry.{area}
use Rattle.contour_runs.specs.Runs.{Stage}
use Rattle.contour_runs.specs.Wood.{Coordinates, point_of}
use Rattle.contour_runs.proofs.Areas.{spread_area}
use Rattle.contour_runs.specs.FaceRuns.{Step, stage_after, IsStep}
use Rattle.contour_runs.proofs.FaceRunsFaces.{face_length, face_vertex}
use Rattle.contour_runs.proofs.FaceRunsPlaces.{cut-next}
use Rattle.convex_counts.specs.Counts.{face_counts, IsTurnedRun}
use Rattle.convex_counts.proofs.Areas.{as_named, turned_weak, first_weak, second_weak, third_weak}
use Rattle.convex_counts.proofs.FacePointsSides.{on_first, on_second, on_third, first_second, second_third, third_first, three_sides, step}

-- on which side the vertex r of a face is
pub record IsAtFirst (g : Stage) (s : Step) (i r : ℕ) : Type 0 where
  pub place : ℕ
  pub at : place ≡ s.cut i + r
  pub high : place ≤ s.turn i
  pub vertex : face_vertex g s i r ≡ g.vertex place

pub record IsAtSecond (g : Stage) (s : Step) (i r : ℕ) : Type 0 where
  pub place : ℕ
  pub at : place ≡ s.cut i + r
  pub low : s.turn i < place
  pub high : place ≤ s.cut (suc i)
  pub vertex : face_vertex g s i r ≡ g.vertex place

pub record IsAtThird (g : Stage) (s : Step) (i r : ℕ) : Type 0 where
  pub behind : s.cut (suc i) < s.cut i + r
  pub new : face_vertex g s i r + suc r ≡ g.count + face_length s i
  pub low : g.count ≤ face_vertex g s i r
  pub high : face_vertex g s i r < g.count + s.vertices

module _ (g : Stage) (s : Step) (h : IsStep g s) (i : ℕ) (l : i < s.faces) where
  cases_side : (r : ℕ) → r < face_length s i → IsAtFirst g s i r ⊎ (IsAtSecond g s i r ⊎ IsAtThird g s i r)
  unfolding face_vertex
  cases_side r b =
      elim (cases_lt (s.cut (suc i)) (s.cut i + r)) [
        | inr a ↦
            let e = cond-true (leb (s.cut i + r) (s.cut (suc i))) (g.vertex (s.cut i + r)) (g.count + face_length s i - suc r) (le-leb (s.cut i + r) (s.cut (suc i)) a) in
            elim (cases_lt (s.turn i) (s.cut i + r)) [
              | inr c ↦ inl record { place = s.cut i + r; at = omega arith; high = c; vertex = e }
              | inl c ↦ inr (inl record { place = s.cut i + r; at = omega arith; low = c; high = a; vertex = e })
            ]
        | inl a ↦
            let e = cond-false (leb (s.cut i + r) (s.cut (suc i))) (g.vertex (s.cut i + r)) (g.count + face_length s i - suc r) (lt-leb (s.cut i + r) (s.cut (suc i)) a) in
            inr (inr record { behind = a; new = omega (arith, e); low = omega (arith, e); high = omega (arith, e) })
      ]

module _ (steps : ℕ → Step) (n k i : ℕ) (turned : IsTurnedRun steps n) (lk : k < n) (li : i < (steps k).faces) where
  abbrev g : Stage
  g = stage_after steps k

  abbrev s : Step
  s = steps k

  abbrev at : Coordinates
  at = face_counts steps n

  abbrev vertex : ℕ → ℕ
  vertex r = face_vertex g s i r

  -- with two on the third side
  before_third : (x r' r'' : ℕ) → IsAtThird g s i r' → r' < r'' → r'' < face_length s i → at.one (vertex r') + at.two (vertex r') ≤ at.one x + at.two x → pos 0 ≤ℤ area (point_of at x) (point_of at (vertex r')) (point_of at (vertex r''))
  before_third x r' r'' y b c sum =
      let st = step steps n turned k i lk li in
      elim (cases_side g s st i li r'' c) [
        | inl z ↦ let z1 = z.at in let z2 = z.high in absurd (omega (arith, st.high i li))
        | inr (inl z) ↦ let z1 = z.at in let z2 = z.high in absurd (omega (arith, st.high i li))
        | inr (inr z) ↦
            let q = on_third steps n turned k i lk li (vertex r') (vertex r'') z.low (omega (arith, st.high i li)) y.high in
            turned_weak at _ _ _ (third_weak at _ _ _ q.sum q.one (omega (arith, st.high i li)))
      ]

  convex : (r r' r'' : ℕ) → r < r' → r' < r'' → r'' < face_length s i → pos 0 ≤ℤ area (point_of at (vertex r)) (point_of at (vertex r')) (point_of at (vertex r''))
  convex r r' r'' a b c =
      let st = step steps n turned k i lk li in
      let t = st.high i li in
      let sides = cases_side g s st i li in
      elim (sides r (omega arith)) [
        | inl x ↦
            let x2 = x.high in
            elim (sides r' (omega arith)) [
              | inl y ↦
                  let p = on_first steps n turned k i lk li x.place y.place (omega arith) (omega arith) y.high in
                  elim (sides r'' c) [
                    | inl z ↦
                        let q = on_first steps n turned k i lk li x.place z.place (omega arith) (omega arith) z.high in
                        as_named at (g.vertex x.place) (g.vertex y.place) (g.vertex z.place) _ _ _ x.vertex y.vertex z.vertex (first_weak at _ _ _ p.one (omega arith) (omega arith))
                    | inr (inl z) ↦
                        let q = first_second steps n turned k i lk li x.place z.place (omega arith) x2 z.low z.high in
                        as_named at (g.vertex x.place) (g.vertex y.place) (g.vertex z.place) _ _ _ x.vertex y.vertex z.vertex (first_weak at _ _ _ p.one (omega arith) (omega arith))
                    | inr (inr z) ↦
                        let q = third_first steps n turned k i lk li (vertex r'') x.place z.low z.high (omega arith) x2 in
                        as_named at (g.vertex x.place) (g.vertex y.place) (vertex r'') _ _ _ x.vertex y.vertex (same (vertex r'')) (first_weak at _ _ _ p.one (omega arith) (omega arith))
                  ]
              | inr (inl y) ↦
                  let p = first_second steps n turned k i lk li x.place y.place (omega arith) x2 y.low y.high in
                  elim (sides r'' c) [
                    | inl z ↦ let z1 = z.at in let z2 = z.high in let y2 = y.low in absurd (omega arith)
                    | inr (inl z) ↦
                        let q = on_second steps n turned k i lk li y.place z.place y.low (omega arith) z.high in
                        as_named at (g.vertex x.place) (g.vertex y.place) (g.vertex z.place) _ _ _ x.vertex y.vertex z.vertex (turned_weak at _ _ _ (second_weak at _ _ _ q.two (omega arith) (omega arith)))
                    | inr (inr z) ↦
                        let q = spread_area at _ _ _ (three_sides steps n turned k i lk li x.place y.place (vertex r'') (omega arith) x2 y.low y.high z.low z.high) in
                        as_named at (g.vertex x.place) (g.vertex y.place) (vertex r'') _ _ _ x.vertex y.vertex (same (vertex r'')) (omega (arith, ints))
                  ]
              | inr (inr y) ↦
                  let p = third_first steps n turned k i lk li (vertex r') x.place y.low y.high (omega arith) x2 in
                  as_named at (g.vertex x.place) (vertex r') (vertex r'') _ _ _ x.vertex (same (vertex r')) (same (vertex r'')) (before_third (g.vertex x.place) r' r'' y b c (omega arith))
            ]
        | inr (inl x) ↦ grind (arith, at, on_second, as_named, vertex, second_weak, second_third, before_third)
        | inr (inr x) ↦
            elim (sides r' (omega arith)) [
              | inl y ↦ let y1 = y.at in let y2 = y.high in absurd (omega arith)
              | inr (inl y) ↦ let y1 = y.at in let y2 = y.high in absurd (omega arith)
              | inr (inr y) ↦
                  elim (sides r'' c) [
                    | inl z ↦ let z1 = z.at in let z2 = z.high in absurd (omega arith)
                    | inr (inl z) ↦ let z1 = z.at in let z2 = z.high in absurd (omega arith)
                    | inr (inr z) ↦
                        let p = on_third steps n turned k i lk li (vertex r) (vertex r') y.low (omega arith) x.high in
                        let q = on_third steps n turned k i lk li (vertex r') (vertex r'') z.low (omega arith) y.high in
                        third_weak at _ _ _ p.sum p.one (omega arith)
                  ]
            ]
      ]
    where
      same : (v : ℕ) → v ≡ v
      same v = omega arith

pub faces_convex : (steps : ℕ → Step) (n k i r r' r'' : ℕ) → IsTurnedRun steps n → k < n → i < (steps k).faces → r < r' → r' < r'' → r'' < face_length (steps k) i → pos 0 ≤ℤ area (point_of (face_counts steps n) (face_vertex (stage_after steps k) (steps k) i r)) (point_of (face_counts steps n) (face_vertex (stage_after steps k) (steps k) i r')) (point_of (face_counts steps n) (face_vertex (stage_after steps k) (steps k) i r''))
faces_convex steps n k i r r' r'' turned lk li a b c = convex steps n k i turned lk li r r' r'' a b c
