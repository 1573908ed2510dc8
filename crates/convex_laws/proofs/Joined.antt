-- The middles of a run's faces are middles of the darts' faces.
use Rattle.std.proofs.Common.{◌≡◌, ◌≢◌, ℕ, zero, suc, ◌+◌, ◌-◌, ◌*◌, ◌<◌, ◌≤◌, ltb, if◌then◌else◌, ℤ, pos, ◌+ℤ◌, ◌<ℤ◌, refl, sym, ap, ap₂, subst, ◌∙◌, inl, inr, arith}
use Rattle.std.proofs.lemmas.Bool.{cond-true, cond-false, lt-ltb, le-ltb}
use Rattle.std.proofs.lemmas.Int.{ints}
use Rattle.pg_plane.specs.declared.grid_points.Point.{Point}
use Rattle.pg_plane.specs.Geometry.{area}
use Rattle.contour_runs.specs.Wood.{Coordinates, point_of}
use Rattle.contour_runs.specs.FaceRuns.{Step, stage_after, faces_made}
use Rattle.contour_runs.proofs.Upward.{upward}
use Rattle.convex_counts.specs.Counts.{face_counts}
use Rattle.convex_counts.specs.FacePointsLaws.{IsWholeRun}
use Rattle.convex_counts.proofs.Middles.{middle_within, thrice, middle}
use Rattle.convex_counts.proofs.Corners.{left_of_outer, right_of_base, outside}
use Rattle.convex_laws.specs.Middles.{IsMiddled, IsPlaneRound}
use Rattle.convex_laws.proofs.Plane.{middles_are_plane}
use Rattle.convex_laws.proofs.Larger.{larger_is_plane, larger}
use Rattle.std.specs.Prelude.{nat_lt}
use Rattle.classes.proofs.Orbits.{IsPermuting}
use Rattle.convex_laws.specs.FaceDrawings.{IsBaseDart, IsRunDart}

-- k darts, each of which leaves the vertex `tail` of the run and is on the face of that number: the twin is the dart the other way, the step goes on along the face on the left, and `back` the other way; one dart alone is the base.
pub record AreDartsOf (steps : ℕ → Step) (n k : ℕ) (twin step back tail face : ℕ → ℕ) (base : ℕ) : Type 0 where
  pub twins : IsPermuting twin k
  pub steps_on : IsPermuting step k
  pub twice : (i : ℕ) → i < k → twin (twin i) ≡ i
  pub back_in : (i : ℕ) → i < k → back i < k
  pub step_back : (i : ℕ) → i < k → step (back i) ≡ i
  pub tails : (i : ℕ) → i < k → tail (step i) ≡ tail (twin i)
  pub faces : (i : ℕ) → i < k → face (step i) ≡ face i
  pub on_face : (i : ℕ) → i < k → IsRunDart steps n (tail i) (tail (step i)) (face i)
  pub base_in : base < k
  pub base_dart : IsBaseDart steps n (tail base) (tail (step base)) (face base)
  pub one_base : (i : ℕ) → i < k → tail i ≡ 1 → tail (step i) ≡ 0 → i ≡ base

-- the middle of the face of a number, of the first n steps
unfoldable pub middle_of : (ℕ → Step) → Coordinates → ℕ → ℕ → Point
middle_of steps at zero m = outside
middle_of steps at (suc n) m = if nat_lt m (faces_made steps n) then middle_of steps at n m else if nat_lt m (faces_made steps (suc n)) then middle steps at n (m - faces_made steps n) else outside

module _ (steps : ℕ → Step) (at : Coordinates) where
  -- the middle by the number of a face
  middle_of-older : (n m : ℕ) → m < faces_made steps n → middle_of steps at (suc n) m ≡ middle_of steps at n m
  unfolding middle_of
  middle_of-older n m l = grind (arith, cond-true, ltb, faces_made, at, lt-ltb, Point, middle, outside)

  middle_of-new : (n i : ℕ) → i < (steps n).faces → middle_of steps at (suc n) (faces_made steps n + i) ≡ middle steps at n i
  unfolding middle_of
  middle_of-new n i l = grind (arith, faces_made, cond-false, ltb, at, le-ltb, cond-true, middle, outside, lt-ltb, Point)

  faces-le : (m n : ℕ) → m ≤ n → faces_made steps m ≤ faces_made steps n
  faces-le m n l = upward (λ k. faces_made steps m ≤ faces_made steps k) m n l (omega arith) (λ k a b c. omega arith)

  middle_of-made : (n k i : ℕ) → k < n → i < (steps k).faces → middle_of steps at n (faces_made steps k + i) ≡ middle steps at k i
  middle_of-made n k i l li =
      upward (λ z. middle_of steps at z (faces_made steps k + i) ≡ middle steps at k i) (suc k) n l (middle_of-new k i li)
      (λ z low high e. let f = faces-le (suc k) z low in middle_of-older z (faces_made steps k + i) (omega arith) ∙ e)

  middle_of-outside : (n m : ℕ) → faces_made steps n ≤ m → middle_of steps at n m ≡ outside
  unfolding middle_of
  middle_of-outside x0 m l = grind (arith, cond-false, ltb, faces_made, at, le-ltb, middle, outside, Point)

-- thrice is three times as large
thrice_larger : (at : Coordinates) (v : ℕ) → thrice at v ≡ larger (point_of at v)
thrice_larger at v = grind (arith, at, ap₂, Point, pos, ints)

module _ (steps : ℕ → Step) (n k : ℕ) (twin step back tail face : ℕ → ℕ) (base : ℕ) (whole : IsWholeRun steps n) (some : 0 < n) (d : AreDartsOf steps n k twin step back tail face base) where
  abbrev at : Coordinates
  at = face_counts steps n

  abbrev large : ℕ → Point
  large i = larger (point_of at (tail i))

  abbrev middles : ℕ → Point
  middles = middle_of steps at n

  as_large : (x y : ℕ) (p q : Point) → p ≡ q → pos 0 <ℤ area (thrice at x) (thrice at y) q → pos 0 <ℤ area (larger (point_of at x)) (larger (point_of at y)) p
  as_large x y p q e h =
      subst (λ z. pos 0 <ℤ area z (larger (point_of at y)) p) (thrice_larger at x)
      (subst (λ z. pos 0 <ℤ area (thrice at x) z p) (thrice_larger at y) (subst (λ z. pos 0 <ℤ area (thrice at x) (thrice at y) z) (sym e) h))

  inner : (i : ℕ) → i < k → i ≢ base → pos 0 <ℤ area (large i) (large (step i)) (middles (face i))
  inner i l ne = elim (d.on_face i l) [
    | inl m ↦
        as_large (tail i) (tail (step i)) (middles (face i)) (middle steps at m.step m.place) (ap middles m.number ∙ middle_of-made steps at n m.step m.place m.earlier m.dart.within)
        (middle_within steps n m.step m.place (tail i) (tail (step i)) whole m.earlier m.dart)
    | inr (inl o) ↦ grind (arith, as_large, middles, outside, middle_of-outside, at, faces_made, pos, area, thrice, stage_after, left_of_outer)
    | inr (inr b) ↦ absurd (ne (d.one_base i l b.tail b.head))
  ]

  outer : area (large base) (large (step base)) (middles (face base)) <ℤ pos 0
  outer =
      let e = ap middles d.base_dart.number ∙ middle_of-outside steps at n (faces_made steps n) (omega arith) in
      subst (λ z. area (large base) (large (step base)) z <ℤ pos 0) (sym e)
      (subst (λ z. area z (large (step base)) outside <ℤ pos 0) (thrice_larger at (tail base))
      (subst (λ z. area (thrice at (tail base)) z outside <ℤ pos 0) (thrice_larger at (tail (step base)))
      (subst (λ z. area (thrice at z) (thrice at (tail (step base))) outside <ℤ pos 0) (sym d.base_dart.tail)
      (subst (λ z. area (thrice at 1) (thrice at z) outside <ℤ pos 0) (sym d.base_dart.head) (right_of_base steps n whole some)))))

  middled : IsMiddled k twin step back large tail face middles base
  middled = grind (arith, larger, point_of, at, inner, outer)

  pub drawn : IsPlaneRound k twin step back (λ i. point_of at (tail i)) tail
  drawn = larger_is_plane k twin step back (λ i. point_of at (tail i)) tail (middles_are_plane k twin step back large tail face middles base middled)

-- Where darts are those of a whole run, the drawing by its counts is plane, and the darts round each vertex go clockwise just once round.
pub face_counts_draw : (steps : ℕ → Step) (n k : ℕ) (twin step back tail face : ℕ → ℕ) (base : ℕ) → IsWholeRun steps n → 0 < n → AreDartsOf steps n k twin step back tail face base → IsPlaneRound k twin step back (λ i. point_of (face_counts steps n) (tail i)) tail
face_counts_draw steps n k twin step back tail face base whole some d = drawn steps n k twin step back tail face base whole some d
