-- The grid, its corners and the outer face of a whole run.
use Rattle.std.proofs.Common.{◌≡◌, ℕ, zero, suc, ◌+◌, ◌-◌, ◌*◌, ◌<◌, ◌≤◌, ℤ, pos, negsuc, neg_ℤ, ◌-ℤ◌, ◌*ℤ◌, ◌<ℤ◌, refl, sym, ap, ap₂, subst, ◌∙◌, arith}
use Rattle.std.proofs.lemmas.Bool.{cases_lt}
use Rattle.std.proofs.lemmas.Int.{ints}
use Rattle.pg_plane.specs.declared.grid_points.Point.{Point}
use Rattle.pg_plane.specs.Geometry.{area, IsOnSegment}
use Rattle.pg_plane.proofs.Ring.{sums, product_signs}
use Rattle.contour_runs.specs.Runs.{Stage}
use Rattle.contour_runs.specs.Laws.{IsStage}
use Rattle.contour_runs.specs.Wood.{Coordinates, point_of}
use Rattle.contour_runs.specs.FaceRuns.{Step, stage_after, IsRun, faces_made}
use Rattle.contour_runs.proofs.FaceRunsStages.{IsStage-run}
use Rattle.convex_counts.specs.Counts.{face_counts}
use Rattle.convex_counts.proofs.Middles.{thrice}
use Rattle.convex_counts.specs.Contours.{IsFalling}
use Rattle.convex_counts.specs.FacePointsLaws.{IsWholeRun}
use Rattle.convex_counts.proofs.Areas.{rising, level}
use Rattle.convex_counts.proofs.Steps.{IsFalling-run}
use Rattle.std.specs.Prelude.{◌⊎◌}

-- A whole run of m faces stands in the grid m by m: the first vertex at (m, 0), the second at (0, m) and the last at (0, 0), and all of the contour on the axes.
pub record IsCornered (steps : ℕ → Step) (n m : ℕ) : Type 0 where
  pub grid : (v : ℕ) → v < (stage_after steps n).count → ((face_counts steps n).one v ≤ m) × ((face_counts steps n).two v ≤ m)
  pub first : ((face_counts steps n).one 0 ≡ m) × ((face_counts steps n).two 0 ≡ 0)
  pub second : ((face_counts steps n).one 1 ≡ 0) × ((face_counts steps n).two 1 ≡ m)
  pub last : (v : ℕ) → suc v ≡ (stage_after steps n).count → ((face_counts steps n).one v ≡ 0) × ((face_counts steps n).two v ≡ 0)
  pub axes : (j : ℕ) → j < (stage_after steps n).width → ((face_counts steps n).two ((stage_after steps n).vertex j) ≡ 0) ⊎ ((face_counts steps n).one ((stage_after steps n).vertex j) ≡ 0)

-- Outside, a point below and to the left of all is strictly to the left of each edge of the contour, walked from the first vertex to the second, and strictly to the right of the base.
abbrev pub outside : Point
outside = record { x = negsuc 0; y = negsuc 0 }

-- The outer face of a whole run is a triangle with flat angles: its corners are the base and the last vertex e, and each vertex of the last contour is on the segment from the first to e or on that from e to the second.
pub record IsOuterTriangle (steps : ℕ → Step) (n e : ℕ) : Type 0 where
  pub corners : (let at = face_counts steps n in pos 0 <ℤ area (point_of at 0) (point_of at 1) (point_of at e))
  pub sides : (j : ℕ) → j < (stage_after steps n).width → (let at = face_counts steps n in let v = (stage_after steps n).vertex j in IsOnSegment (point_of at v) (point_of at 0) (point_of at e) ⊎ IsOnSegment (point_of at v) (point_of at e) (point_of at 1))

-- an area by four differences
differences : (u v p : Point) (x y z w : ℤ) → v.x -ℤ u.x ≡ x → v.y -ℤ u.y ≡ y → p.x -ℤ u.x ≡ z → p.y -ℤ u.y ≡ w → area u v p ≡ (x *ℤ w) -ℤ (z *ℤ y)
differences u v p x y z w ex ey ez ew = ap₂ (λ m n. m -ℤ n) (ap₂ (λ m n. m *ℤ n) ex ew) (ap₂ (λ m n. m *ℤ n) ez ey)

-- the outside point, left of an edge on the one axis and on the other
outside_right : (at : Coordinates) (u v : ℕ) → at.two u ≡ 0 → at.two v ≡ 0 → at.one v < at.one u → pos 0 <ℤ area (thrice at u) (thrice at v) outside
outside_right at u v e f l =
    let d : ℕ = 3 * (at.one u - at.one v) in
    subst (λ m. pos 0 <ℤ m)
    (sym (differences (thrice at u) (thrice at v) outside (neg_ℤ (pos d)) (pos 0) (negsuc 0 -ℤ pos (3 * at.one u)) (neg_ℤ (pos 1)) (omega (arith, ints)) (omega (arith, ints)) refl (omega (arith, ints)) ∙ level (pos d) (pos 1) (negsuc 0 -ℤ pos (3 * at.one u))))
    ((product_signs (pos d) (pos 1)).both_above (omega (arith, ints)) (omega (arith, ints)))

outside_left : (at : Coordinates) (u v : ℕ) → at.one u ≡ 0 → at.one v ≡ 0 → at.two u < at.two v → pos 0 <ℤ area (thrice at u) (thrice at v) outside
outside_left at u v e f l = grind (arith, at, pos, differences, thrice, outside, neg_ℤ, negsuc, ints, rising, product_signs)

-- and right of the base
outside_base : (at : Coordinates) (m : ℕ) → 0 < m → at.one 1 ≡ 0 → at.two 1 ≡ m → at.one 0 ≡ m → at.two 0 ≡ 0 → area (thrice at 1) (thrice at 0) outside <ℤ pos 0
outside_base at m some a b c d = grind (arith, at, differences, thrice, outside, pos, neg_ℤ, ints, product_signs, sums)

module _ (steps : ℕ → Step) (n : ℕ) (whole : IsWholeRun steps n) where
  abbrev g : Stage
  g = stage_after steps n

  abbrev at : Coordinates
  at = face_counts steps n

  fall : IsFalling g at (faces_made steps n)
  fall = IsFalling-run steps n whole.turned.run

  stage : IsStage g
  stage = IsStage-run steps n whole.turned.run

  -- up to the last vertex all is on the one axis, from it on all on the other
  on_first_axis : (j : ℕ) → j ≤ whole.top → at.two (g.vertex j) ≡ 0
  on_first_axis zero l = ap at.two stage.begin ∙ fall.first_two
  on_first_axis (suc j) l = (whole.right j l).two ∙ on_first_axis j (omega arith)

  on_second_axis : (d j : ℕ) → j + d + 1 ≡ g.width → whole.top ≤ j → at.one (g.vertex j) ≡ 0
  on_second_axis zero j e l = ap at.one (stage.end j (omega arith)) ∙ fall.second_one
  on_second_axis (suc d) j e l = sym (whole.left j l (omega arith)).one ∙ on_second_axis d (suc j) (omega arith) (omega arith)

  second_axis : (j : ℕ) → whole.top ≤ j → j < g.width → at.one (g.vertex j) ≡ 0
  second_axis j a b = on_second_axis (g.width - 1 - j) j (omega arith) a

  at_last : (v : ℕ) → suc v ≡ g.count → (at.one v ≡ 0) × (at.two v ≡ 0)
  at_last v e =
      let same : v ≡ g.vertex whole.top = omega arith in
      (ap at.one same ∙ second_axis whole.top (omega arith) whole.within, ap at.two same ∙ on_first_axis whole.top (omega arith))

  pub cornered : IsCornered steps n (faces_made steps n)
  cornered = grind (arith, fall, sums, at_last, cases_lt, on_first_axis, second_axis)

  outer_left : (j : ℕ) → suc j < g.width → pos 0 <ℤ area (thrice at (g.vertex j)) (thrice at (g.vertex (suc j))) outside
  outer_left j l = grind (arith, cases_lt, outside_right, at, on_first_axis, outside_left, second_axis)

pub some_faces : (steps : ℕ → Step) (n : ℕ) → IsRun steps n → 0 < n → 0 < faces_made steps n
some_faces steps zero run l = absurd (omega arith)
some_faces steps (suc n) run l = let s = (run n (omega arith)).some_face in omega arith

pub left_of_outer : (steps : ℕ → Step) (n j : ℕ) → IsWholeRun steps n → suc j < (stage_after steps n).width → pos 0 <ℤ area (thrice (face_counts steps n) ((stage_after steps n).vertex j)) (thrice (face_counts steps n) ((stage_after steps n).vertex (suc j))) outside
left_of_outer steps n j whole l = outer_left steps n whole j l

pub right_of_base : (steps : ℕ → Step) (n : ℕ) → IsWholeRun steps n → 0 < n → area (thrice (face_counts steps n) 1) (thrice (face_counts steps n) 0) outside <ℤ pos 0
right_of_base steps n whole some =
    let h = fall steps n whole in
    outside_base (face_counts steps n) (faces_made steps n) (some_faces steps n whole.turned.run some) h.second_one h.second_two h.first_one h.first_two
