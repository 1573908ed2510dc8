-- A point on a triangle that lies as far from a side as the third corner is that corner.
use Rattle.std.proofs.Common.{◌≡◌, ℤ, pos, neg_ℤ, ◌+ℤ◌, ◌-ℤ◌, ◌*ℤ◌, ◌≤ℤ◌, ◌<ℤ◌, refl, sym, ap, ◌∙◌, subst, inl, inr, arith}
use Rattle.std.proofs.lemmas.Int.{ints, by_lt_z}
use Rattle.pg_plane.specs.declared.grid_points.Point.{Point}
use Rattle.pg_plane.specs.Geometry.{vector, cross, area, IsBetween}
use Rattle.pg_plane.proofs.Ring.{ring, sums, mul_neg, neg_mul, product_not_negative, product_positive}
use Rattle.pg_plane.proofs.Identities.{heights, cross_back}
use Rattle.pg_plane.proofs.Segments.{IsOnSegment-back}
use Rattle.std.proofs.Math.IntN.{zero-*ℤ}
use Rattle.pg_plane.proofs.Near.{same_point}
use Rattle.drawings.specs.Corners.{IsOnTriangle}

-- the same for the widths of three vectors
widths : (u v w : Point) → (((cross v w) *ℤ u.x) +ℤ ((cross w u) *ℤ v.x)) +ℤ ((cross u v) *ℤ w.x) ≡ pos 0
widths u v w = simp ring (omega (arith, sums))

difference_of_products : (a g d e : ℤ) → ((g -ℤ a) *ℤ d) +ℤ (a *ℤ (d -ℤ e)) ≡ (g *ℤ d) -ℤ (a *ℤ e)
difference_of_products a g d e = simp ring (omega (arith, sums))

-- a part of a length that is a whole of it
whole_up : (a g d e : ℤ) → pos 0 <ℤ a → a ≤ℤ g → g *ℤ d ≡ a *ℤ e → pos 0 ≤ℤ e → e ≤ℤ d → e ≡ d
whole_up a g d e above more same from to = grind (arith, by_lt_z, product_not_negative, ints, product_positive, difference_of_products)

whole : (a g d e : ℤ) → pos 0 <ℤ a → a ≤ℤ g → g *ℤ d ≡ a *ℤ e → IsBetween (pos 0) d e → e ≡ d
whole a g d e above more same (inl h) = whole_up a g d e above more same h.0 h.1
whole a g d e above more same (inr h) =
    let turned : g *ℤ neg_ℤ d ≡ a *ℤ neg_ℤ e = mul_neg g d ∙ (ap neg_ℤ same ∙ sym (mul_neg a e)) in
    omega (arith, whole_up a g (neg_ℤ d) (neg_ℤ e) above more turned (omega (arith, ints)) (omega (arith, ints)), ints)

IsBetween-moved : (s t v : ℤ) → IsBetween s t v → IsBetween (pos 0) (t -ℤ s) (v -ℤ s)
IsBetween-moved s t v (inl h) = let l = h.0 in let m = h.1 in inl (omega (arith, ints), omega (arith, ints))
IsBetween-moved s t v (inr h) = let l = h.0 in let m = h.1 in inr (omega (arith, ints), omega (arith, ints))

-- where the first of three products is none
two_products : (c a g w s t : ℤ) → ((c *ℤ w) +ℤ (neg_ℤ a *ℤ s)) +ℤ (g *ℤ t) ≡ pos 0 → c ≡ pos 0 → g *ℤ t ≡ a *ℤ s
two_products c a g w s t sum none =
    omega (arith, neg_mul a s, ap (λ z. z *ℤ w) none ∙ zero-*ℤ w, ints)

-- vectors s and t on one line, s no longer than t and as far from the line of w: they are one
module _ (w s t : Point) (above : pos 0 <ℤ cross w t) (far : cross w t ≤ℤ cross w s) (flat : cross t s ≡ pos 0) where
  flat_back : cross s t ≡ pos 0
  flat_back = cross_back t s ∙ ap neg_ℤ flat

  x_is : IsBetween (pos 0) t.x s.x → s.x ≡ t.x
  x_is between =
      let sum = ap (λ z. ((cross s t *ℤ w.x) +ℤ (z *ℤ s.x)) +ℤ (cross w s *ℤ t.x)) (sym (cross_back w t)) ∙ widths w s t in
      whole (cross w t) (cross w s) t.x s.x above far (two_products (cross s t) (cross w t) (cross w s) w.x s.x t.x sum flat_back) between

  y_is : IsBetween (pos 0) t.y s.y → s.y ≡ t.y
  y_is between =
      let sum = ap (λ z. ((cross s t *ℤ w.y) +ℤ (z *ℤ s.y)) +ℤ (cross w s *ℤ t.y)) (sym (cross_back w t)) ∙ heights w s t in
      whole (cross w t) (cross w s) t.y s.y above far (two_products (cross s t) (cross w t) (cross w s) w.y s.y t.y sum flat_back) between

-- a point p on the segment from o to c, where o is on the line from a to b
at_third : (a b c p o : Point) → pos 0 <ℤ area a b c → area a b c ≤ℤ area a b p → cross (vector a b) (vector o c) ≡ area a b c → cross (vector a b) (vector o p) ≡ area a b p → cross (vector o c) (vector o p) ≡ pos 0 → IsBetween o.x c.x p.x → IsBetween o.y c.y p.y → p ≡ c
at_third a b c p o above far third here flat between_x between_y =
    let w = vector a b in
    let s = vector o p in
    let t = vector o c in
    let above' : pos 0 <ℤ cross w t = subst (λ z. pos 0 <ℤ z) (sym third) above in
    let far' : cross w t ≤ℤ cross w s = subst (λ z. z ≤ℤ cross w s) (sym third) (subst (λ z. area a b c ≤ℤ z) (sym here) far) in
    let x = x_is w s t above' far' flat (IsBetween-moved o.x c.x p.x between_x) in
    let y = y_is w s t above' far' flat (IsBetween-moved o.y c.y p.y between_y) in
    same_point p c (omega (arith, ints)) (omega (arith, ints))

moved_base : (a b p : Point) → cross (vector a b) (vector b p) ≡ area a b p
moved_base a b p = simp ring (omega (arith, sums))

side_back : (a c p : Point) → cross (vector a c) (vector a p) ≡ neg_ℤ (area c a p)
side_back a c p = simp ring (omega (arith, sums))

-- THE THIRD CORNER
pub third_is : (a b c p : Point) → pos 0 <ℤ area a b c → area a b c ≤ℤ area a b p → IsOnTriangle p a b c → p ≡ c
third_is a b c p above far (inl on) = let e = on.on_line in absurd (omega (arith, ints))
third_is a b c p above far (inr (inl on)) =
    at_third a b c p b above far (moved_base a b c) (moved_base a b p) on.on_line on.between_x on.between_y
third_is a b c p above far (inr (inr on)) =
    let back = IsOnSegment-back p c a on in
    at_third a b c p a above far refl refl (side_back a c p ∙ ap neg_ℤ on.on_line) back.between_x back.between_y
