-- The face of a triangulation is a triangle, and its area is that of the triangle.
use Rattle.std.proofs.Common.{◌≡◌, ◌≢◌, ℕ, cond, eqb, List, ℤ, pos, ◌+ℤ◌, ◌<ℤ◌, refl, sym, ap, subst, ◌∙◌, inl, inr, arith, eq-eqb, ne_eqb}
use Rattle.std.proofs.lemmas.Bool.{cases_Bool, cond-true, cond-false, true≢false}
use Rattle.std.proofs.lemmas.Int.{ints}
use Rattle.map_lists.specs.Lists.{Lists}
use Rattle.map_theory.specs.Maps.{Dart, HasDart, follows, darts, dart_number}
use Rattle.map_theory.specs.Paths.{SameFace}
use Rattle.map_theory.proofs.DartLemmas.{dart_number-injective, HasDart-face_step}
use Rattle.plane_laws.specs.Triangulations.{IsTriangulation}
use Rattle.pg_plane.specs.declared.grid_points.Point.{Point}
use Rattle.pg_plane.specs.Geometry.{cross, area}
use Rattle.pg_plane.proofs.Ring.{ring, sums}
use Rattle.plane_drawings.specs.Drawing.{place, IsCounterclockwise}
use Rattle.drawings.specs.OuterFaces.{swept, face_sum, AreOthersPositive}
use Rattle.drawings.proofs.DartTotals.{total-add, total-darts, total-dart}
use Rattle.drawings.proofs.FacesJoined.{same_face, weight, weight-on, weight-off, face_sum-total}
use Rattle.drawings.proofs.FaceSteps.{thrice, same_step, same_itself, on_base}

-- three sides of a triangle
pub swept_triangle : (p q r : Point) → (cross p q +ℤ cross q r) +ℤ cross r p ≡ area p q r
swept_triangle p q r = simp ring (omega (arith, sums))

module _ (lists : Lists) (c : IsTriangulation lists) (points : List Point) (u v : ℕ) (has : HasDart lists u v) where
  abbrev w : ℕ
  w = follows lists v u

  has1 : HasDart lists v w
  has1 = HasDart-face_step lists (u, v) c.simple has

  back : follows lists w v ≡ u
  back = ap (λ (d : Dart). d.0) (thrice lists c (u, v) has)

  has2 : HasDart lists w u
  has2 = subst (λ (x : ℕ). HasDart lists w x) back (HasDart-face_step lists (v, w) c.simple has1)

  -- what a dart of the triangle weighs
  abbrev side : ℕ → ℕ → Dart → ℤ
  side x y e = cond (eqb (dart_number lists e) (dart_number lists (x, y))) (swept points (x, y)) (pos 0)

  side-here : (x y : ℕ) → side x y (x, y) ≡ swept points (x, y)
  side-here x y = cond-true (eqb (dart_number lists (x, y)) (dart_number lists (x, y))) (swept points (x, y)) (pos 0) (eq-eqb (dart_number lists (x, y)) (dart_number lists (x, y)) refl)

  side-other : (x y : ℕ) → HasDart lists x y → (e : Dart) → HasDart lists e.0 e.1 → e ≢ (x, y) → side x y e ≡ pos 0
  side-other x y has' e has_e ne =
      cond-false (eqb (dart_number lists e) (dart_number lists (x, y))) (swept points (x, y)) (pos 0)
      (ne_eqb (dart_number lists e) (dart_number lists (x, y)) (λ q. ne (dart_number-injective lists e (x, y) has_e has' q)))

  -- tails apart, darts apart
  apart : (x y s t : ℕ) → x ≢ s → ◌≢◌ {A = Dart} (x, y) (s, t)
  apart x y s t ne e = ne (ap (λ (d : Dart). d.0) e)

  abbrev three : Dart → ℤ
  three e = (side u v e +ℤ side v w e) +ℤ side w u e

  on_first : SameFace lists (u, v) (u, v)
  on_first = same_itself lists c (u, v)

  on_second : SameFace lists (u, v) (v, w)
  on_second = same_step lists c (u, v) (u, v) has on_first

  on_third : SameFace lists (u, v) (w, u)
  on_third = subst (λ (x : ℕ). SameFace lists (u, v) (w, x)) back (same_step lists c (u, v) (v, w) has1 on_second)

  u_v : u ≢ v
  u_v e = c.simple.no_loop u v has (sym e)

  v_w : v ≢ w
  v_w e = c.simple.no_loop v w has1 (sym e)

  w_u : w ≢ u
  w_u e = c.simple.no_loop w u has2 (sym e)

  weight_three : (x y : ℕ) → HasDart lists x y → weight lists points (u, v) (x, y) ≡ three (x, y)
  weight_three x y has' =
      elim (cases_Bool (same_face lists (u, v) (x, y))) [
        | inr off ↦ grind (arith, HasDart, SameFace, side, pos, side-other, true≢false, Dart, has2, on_third, weight-off, has1, on_second)
        | inl on ↦
            elim (on_base lists c (u, v) has (x, y) has' on) [
              | inl e ↦ subst (λ (d : Dart). weight lists points (u, v) d ≡ three d) (sym e) at_first
              | inr o ↦ elim o [
                | inl e ↦ subst (λ (d : Dart). weight lists points (u, v) d ≡ three d) (sym e) at_second
                | inr e ↦ subst (λ (d : Dart). weight lists points (u, v) d ≡ three d) (sym (e ∙ ap (λ (z : ℕ). (w, z)) back)) at_third
              ]
            ]
      ]
    where
      at_first : weight lists points (u, v) (u, v) ≡ three (u, v)
      at_first =
          let b = side-other v w has1 (u, v) has (apart u v v w u_v) in
          let d = side-other w u has2 (u, v) has (apart u v w u (λ q. w_u (sym q))) in
          omega (arith, side-here u v, weight-on lists points (u, v) (u, v) on_first, ints)

      at_second : weight lists points (u, v) (v, w) ≡ three (v, w)
      at_second =
          let b = side-here v w in
          let d = side-other w u has2 (v, w) has1 (apart v w w u v_w) in
          omega (arith, side-other u v has (v, w) has1 (apart v w u v (λ q. u_v (sym q))), weight-on lists points (u, v) (v, w) on_second, ints)

      at_third : weight lists points (u, v) (w, u) ≡ three (w, u)
      at_third =
          let b = side-other v w has1 (w, u) has2 (apart w u v w (λ q. v_w (sym q))) in
          let d = side-here w u in
          omega (arith, side-other u v has (w, u) has2 (apart w u u v w_u), weight-on lists points (u, v) (w, u) on_third, ints)

  -- the sum over the face
  pub triangle_sum : face_sum lists points (u, v) ≡ area (place points u) (place points v) (place points w)
  triangle_sum =
      let all = face_sum-total lists points (u, v) in
      let parts = total-darts lists c.simple (weight lists points (u, v)) three weight_three in
      let outer = total-add (λ (e : Dart). side u v e +ℤ side v w e) (side w u) (darts lists) in
      let inner = total-add (side u v) (side v w) (darts lists) in
      let a = total-dart lists c.simple u v has (swept points (u, v)) in
      let b = total-dart lists c.simple v w has1 (swept points (v, w)) in
      let d = total-dart lists c.simple w u has2 (swept points (w, u)) in
      let sum : face_sum lists points (u, v) ≡ (swept points (u, v) +ℤ swept points (v, w)) +ℤ swept points (w, u) = omega (arith, ints) in
      sum ∙ swept_triangle (place points u) (place points v) (place points w)

-- in a counterclockwise drawing of a triangulation each face but the base's has a positive area
pub AreOthersPositive-counterclockwise : (lists : Lists) → IsTriangulation lists → (points : List Point) (base : Dart) → IsCounterclockwise lists points base → AreOthersPositive lists points base
AreOthersPositive-counterclockwise lists c points base h v u has off =
    subst (λ (z : ℤ). pos 0 <ℤ z) (sym (triangle_sum lists c points v u has)) (h.inner v u has off)
