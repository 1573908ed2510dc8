-- Identities on areas.
use Rattle.std.proofs.Common.{◌≡◌, pos, neg_ℤ, ◌+ℤ◌, ◌*ℤ◌, ◌<ℤ◌, sym, ◌∙◌, arith}
use Rattle.std.proofs.lemmas.Int.{ints, by_lt_z}
use lib.Signed.{lt_z}
use borrow.Author.Differences.{true_is_lt, false_is_lt}
use Rattle.pg_plane.specs.declared.grid_points.Point.{Point}
use Rattle.pg_plane.specs.Geometry.{vector, cross, area}
use Rattle.pg_plane.proofs.Ring.{ring, sums}
use Rattle.pg_plane.proofs.Triangle.{IsLeftTurn}

-- the area of a triangle from another corner on
pub area_turned : (a b c : Point) → area b c a ≡ area a b c
area_turned a b c = simp ring (omega (arith, sums))

-- three vectors: each height times the area between the other two
pub heights : (u v w : Point) → (((cross v w) *ℤ u.y) +ℤ ((cross w u) *ℤ v.y)) +ℤ ((cross u v) *ℤ w.y) ≡ pos 0
heights u v w = simp ring (omega (arith, sums))

-- the areas of a point with the three sides add up to that of the triangle
pub area_parts : (p a b c : Point) → ((cross (vector p b) (vector p c)) +ℤ (cross (vector p c) (vector p a))) +ℤ (cross (vector p a) (vector p b)) ≡ area a b c
area_parts p a b c = simp ring (omega (arith, sums))

-- three corners at one height have no area
pub flat_area : (a b c : Point) → b.y ≡ a.y → c.y ≡ a.y → area a b c ≡ pos 0
flat_area a b c e f = rw (e, f) (simp ring (omega (arith, sums)))

pub cross_back : (u v : Point) → cross v u ≡ neg_ℤ (cross u v)
cross_back u v = omega (arith, sums)

-- a side seen from the other side
pub back_test : (u v : Point) → lt_z (pos 0) (cross v u) ≡ lt_z (cross u v) (pos 0)
back_test u v =
    rw (cross_back u v)
    (by_lt_z (cross u v) (pos 0)
    (λ l. sym (true_is_lt (pos 0) (neg_ℤ (cross u v)) (omega (arith, ints))) ∙ true_is_lt (cross u v) (pos 0) (omega (arith, ints)))
    (λ l. sym (false_is_lt (pos 0) (neg_ℤ (cross u v)) (omega (arith, ints))) ∙ false_is_lt (cross u v) (pos 0) (omega (arith, ints))))

-- a counterclockwise triangle, seen from a point
pub triangle_turn : (p a b c : Point) → pos 0 <ℤ area a b c → IsLeftTurn (vector p a).y (vector p b).y (vector p c).y (cross (vector p b) (vector p c)) (cross (vector p c) (vector p a)) (cross (vector p a) (vector p b))
triangle_turn p a b c positive = record {
  total = let e = area_parts p a b c in omega (arith, ints);
  balance = heights (vector p a) (vector p b) (vector p c);
  not_flat = λ e f.
      let g : b.y ≡ a.y = omega (arith, ints) in
      let h : c.y ≡ a.y = omega (arith, ints) in
      omega (arith, flat_area a b c g h, ints);
}
