-- A segment beside a wedge, seen from its apex, crosses none from the apex to a point of the wedge.
use Rattle.std.proofs.Common.{◌≡◌, ℤ, pos, ◌+ℤ◌, ◌-ℤ◌, ◌*ℤ◌, ◌≤ℤ◌, ◌<ℤ◌, sym, subst, arith}
use Rattle.std.proofs.lemmas.Int.{ints, by_lt_z}
use Rattle.pg_plane.specs.declared.grid_points.Point.{Point}
use Rattle.pg_plane.specs.Geometry.{area, DoCross}
use Rattle.pg_plane.proofs.Identities.{area_turned}
use Rattle.pg_plane.proofs.Ring.{ring, sums, product_signs}
use Rattle.draw_check.specs.Wedges.{IsInWedge, IsLeftOfBoth, IsRightOfBoth}
use Rattle.draw_check.proofs.SpanLemmas.{not_opposite_up, not_opposite_down, turned_down}

-- the products of four vectors
products_at : (ax ay bx by ux uy px py : ℤ) → ((ax *ℤ by) -ℤ (bx *ℤ ay)) *ℤ ((ux *ℤ py) -ℤ (px *ℤ uy)) ≡ (((ux *ℤ by) -ℤ (bx *ℤ uy)) *ℤ ((ax *ℤ py) -ℤ (px *ℤ ay))) +ℤ (((ax *ℤ uy) -ℤ (ux *ℤ ay)) *ℤ ((bx *ℤ py) -ℤ (px *ℤ by)))
products_at ax ay bx by ux uy px py = simp ring (omega (arith, sums))

-- four areas at one point
areas_at : (r a b u p : Point) → area r a b *ℤ area r u p ≡ (area r u b *ℤ area r a p) +ℤ (area r a u *ℤ area r b p)
areas_at r a b u p = products_at (a.x -ℤ r.x) (a.y -ℤ r.y) (b.x -ℤ r.x) (b.y -ℤ r.y) (u.x -ℤ r.x) (u.y -ℤ r.y) (p.x -ℤ r.x) (p.y -ℤ r.y)

-- a factor of a sum that is not negative is not negative where the other is positive
not_negative : (m n s : ℤ) → pos 0 <ℤ m → m *ℤ n ≡ s → pos 0 ≤ℤ s → pos 0 ≤ℤ n
not_negative m n s some e h = by_lt_z n (pos 0) (λ l. absurd (let down = (product_signs m n).above_below some l in omega (arith, ints, e))) (λ l. l)

not_positive : (m n s : ℤ) → pos 0 <ℤ m → m *ℤ n ≡ s → s ≤ℤ pos 0 → n ≤ℤ pos 0
not_positive m n s some e h = by_lt_z (pos 0) n (λ l. absurd (let up = (product_signs m n).both_above some l in omega (arith, ints, e))) (λ l. l)

sum_up : (a b c d : ℤ) → pos 0 ≤ℤ a → pos 0 ≤ℤ b → pos 0 ≤ℤ c → pos 0 ≤ℤ d → pos 0 ≤ℤ ((a *ℤ b) +ℤ (c *ℤ d))
sum_up a b c d p q r s = let x = (product_signs a b).both_up p q in let y = (product_signs c d).both_up r s in omega (arith, ints)

sum_down : (a b c d : ℤ) → pos 0 ≤ℤ a → b ≤ℤ pos 0 → pos 0 ≤ℤ c → d ≤ℤ pos 0 → ((a *ℤ b) +ℤ (c *ℤ d)) ≤ℤ pos 0
sum_down a b c d p q r s = let x = (product_signs a b).up_down p q in let y = (product_signs c d).up_down r s in omega (arith, ints)

module _ (r a b : Point) (turn : pos 0 <ℤ area r a b) where
  left_of : (u p : Point) → IsInWedge r a b u → IsLeftOfBoth r a b p → pos 0 ≤ℤ area r u p
  left_of u p held left =
      not_negative (area r a b) (area r u p) ((area r u b *ℤ area r a p) +ℤ (area r a u *ℤ area r b p)) turn (areas_at r a b u p)
      (sum_up (area r u b) (area r a p) (area r a u) (area r b p) held.left left.first held.right left.second)

  -- what is not to the right of the way to r is not to the left of that from r
  not_left : (k p : Point) → pos 0 ≤ℤ area k r p → area r k p ≤ℤ pos 0
  not_left k p h = turned_down r p k (subst (λ z. pos 0 ≤ℤ z) (sym (area_turned k r p)) h)

  right_of : (u p : Point) → IsInWedge r a b u → IsRightOfBoth r a b p → area r u p ≤ℤ pos 0
  right_of u p held right =
      not_positive (area r a b) (area r u p) ((area r u b *ℤ area r a p) +ℤ (area r a u *ℤ area r b p)) turn (areas_at r a b u p)
      (sum_down (area r u b) (area r a p) (area r a u) (area r b p) held.left (not_left a p right.first) held.right (not_left b p right.second))

  -- both ends are on the left of the wedge
  pub left_passed : (p q u : Point) → IsLeftOfBoth r a b p → IsLeftOfBoth r a b q → IsInWedge r a b u → ¬ DoCross p q r u
  left_passed p q u first second held h = not_opposite_up (area r u p) (area r u q) (left_of u p held first) (left_of u q held second) h.ends_of_first

  -- both are on its right
  pub right_passed : (p q u : Point) → IsRightOfBoth r a b p → IsRightOfBoth r a b q → IsInWedge r a b u → ¬ DoCross p q r u
  right_passed p q u first second held h = not_opposite_down (area r u p) (area r u q) (right_of u p held first) (right_of u q held second) h.ends_of_first
