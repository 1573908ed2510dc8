-- A drawing is plane where it is plane three times as large.
use Rattle.std.proofs.Common.{◌≡◌, ℕ, ℤ, pos, ◌+ℤ◌, ◌-ℤ◌, ◌*ℤ◌, ◌<ℤ◌, sym, ap, ap₂, subst, ◌∙◌, inl, inr, ⊎_elim, arith}
use Rattle.std.proofs.lemmas.Int.{ints}
use Rattle.pg_plane.specs.declared.grid_points.Point.{Point}
use Rattle.pg_plane.specs.Geometry.{vector, cross, area, IsBetween, IsOnSegment, AreOpposite, DoCross, IsFirstHalf, IsClockBefore}
use Rattle.pg_plane.specs.Law.{direction}
use Rattle.pg_plane.proofs.Ring.{ring, sums}
use Rattle.convex_laws.specs.Middles.{next, IsBreakAt, IsPlaneRound}

-- a point three times as far from (0, 0)
abbrev pub larger : Point → Point
larger p = record { x = (p.x +ℤ p.x) +ℤ p.x; y = (p.y +ℤ p.y) +ℤ p.y }

-- nine times a number
nine : ℤ → ℤ
nine z = (((z +ℤ z) +ℤ z) +ℤ ((z +ℤ z) +ℤ z)) +ℤ ((z +ℤ z) +ℤ z)

nine_products : (a b c d : ℤ) → (((a +ℤ a) +ℤ a) *ℤ ((b +ℤ b) +ℤ b)) -ℤ (((c +ℤ c) +ℤ c) *ℤ ((d +ℤ d) +ℤ d)) ≡ nine ((a *ℤ b) -ℤ (c *ℤ d))
unfolding nine
nine_products a b c d = simp ring (omega (arith, sums))

difference : (x y : ℤ) → ((x +ℤ x) +ℤ x) -ℤ ((y +ℤ y) +ℤ y) ≡ ((x -ℤ y) +ℤ (x -ℤ y)) +ℤ (x -ℤ y)
difference x y = omega (arith, ints)

larger_vector : (a b : Point) → vector (larger a) (larger b) ≡ larger (vector a b)
larger_vector a b = grind (arith, ap₂, difference, Point)

larger_cross : (u v : Point) → cross (larger u) (larger v) ≡ nine (cross u v)
larger_cross u v = nine_products u.x v.y v.x u.y

larger_area : (a b c : Point) → area (larger a) (larger b) (larger c) ≡ nine (area a b c)
larger_area a b c = ap₂ (λ u v. cross u v) (larger_vector a b) (larger_vector a c) ∙ larger_cross (vector a b) (vector a c)

nine_zero : (z : ℤ) → z ≡ pos 0 → nine z ≡ pos 0
unfolding nine
nine_zero z e = omega (arith, ints)

nine_up : (z : ℤ) → pos 0 <ℤ z → pos 0 <ℤ nine z
unfolding nine
nine_up z l = omega (arith, ints)

nine_down : (z : ℤ) → z <ℤ pos 0 → nine z <ℤ pos 0
unfolding nine
nine_down z l = omega (arith, ints)

nine_down_back : (z : ℤ) → nine z <ℤ pos 0 → z <ℤ pos 0
unfolding nine
nine_down_back z l = omega (arith, ints)

larger_between : (s t v : ℤ) → IsBetween s t v → IsBetween ((s +ℤ s) +ℤ s) ((t +ℤ t) +ℤ t) ((v +ℤ v) +ℤ v)
larger_between s t v h = ⊎_elim (λ l. let a = l.0 in let b = l.1 in inl (omega (arith, ints), omega (arith, ints))) (λ r. let a = r.0 in let b = r.1 in inr (omega (arith, ints), omega (arith, ints))) h

larger_on : (p a b : Point) → IsOnSegment p a b → IsOnSegment (larger p) (larger a) (larger b)
larger_on p a b h = record { on_line = larger_area a b p ∙ nine_zero (area a b p) h.on_line; between_x = larger_between a.x b.x p.x h.between_x; between_y = larger_between a.y b.y p.y h.between_y }

larger_opposite : (s t : ℤ) → AreOpposite s t → AreOpposite (nine s) (nine t)
larger_opposite s t h = ⊎_elim (λ l. inl (nine_down s l.0, nine_up t l.1)) (λ r. inr (nine_up s r.0, nine_down t r.1)) h

larger_cross_segments : (a b c d : Point) → DoCross a b c d → DoCross (larger a) (larger b) (larger c) (larger d)
larger_cross_segments a b c d h = record {
  ends_of_second = subst (λ z. AreOpposite z (area (larger a) (larger b) (larger d))) (sym (larger_area a b c)) (subst (λ z. AreOpposite (nine (area a b c)) z) (sym (larger_area a b d)) (larger_opposite (area a b c) (area a b d) h.ends_of_second));
  ends_of_first = subst (λ z. AreOpposite z (area (larger c) (larger d) (larger b))) (sym (larger_area c d a)) (subst (λ z. AreOpposite (nine (area c d a)) z) (sym (larger_area c d b)) (larger_opposite (area c d a) (area c d b) h.ends_of_first));
}

-- halves and the clockwise order, both ways
half_larger : (u : Point) → IsFirstHalf u → IsFirstHalf (larger u)
half_larger u h = ⊎_elim (λ l. inl (omega (arith, ints))) (λ r. let a = r.0 in let b = r.1 in inr (omega (arith, ints), omega (arith, ints))) h

half_smaller : (u : Point) → IsFirstHalf (larger u) → IsFirstHalf u
half_smaller u h = ⊎_elim (λ l. inl (omega (arith, ints))) (λ r. let a = r.0 in let b = r.1 in inr (omega (arith, ints), omega (arith, ints))) h

clock_larger : (u v : Point) → IsClockBefore u v → IsClockBefore (larger u) (larger v)
clock_larger u v h = grind (arith, half_larger, half_smaller, pos, larger_cross, nine_down, cross)

clock_smaller : (u v : Point) → IsClockBefore (larger u) (larger v) → IsClockBefore u v
clock_smaller u v h = grind (arith, half_smaller, half_larger, nine_down_back, cross, pos, larger_cross)

module _ (k : ℕ) (twin step back : ℕ → ℕ) (at : ℕ → Point) (tail : ℕ → ℕ) where
  way_larger : (i : ℕ) → direction step (λ j. larger (at j)) i ≡ larger (direction step at i)
  way_larger i = larger_vector (at i) (at (step i))

  break_larger : (i : ℕ) → IsBreakAt twin step back at i → IsBreakAt twin step back (λ j. larger (at j)) i
  break_larger i b = λ x. b (clock_smaller (direction step at (next twin back i)) (direction step at i)
      (subst (λ z. IsClockBefore z (larger (direction step at i))) (way_larger (next twin back i)) (subst (λ z. IsClockBefore (direction step (λ j. larger (at j)) (next twin back i)) z) (way_larger i) x)))

  break_smaller : (i : ℕ) → IsBreakAt twin step back (λ j. larger (at j)) i → IsBreakAt twin step back at i
  break_smaller i b = λ x. b (subst (λ z. IsClockBefore z (direction step (λ j. larger (at j)) i)) (sym (way_larger (next twin back i)))
      (subst (λ z. IsClockBefore (larger (direction step at (next twin back i))) z) (sym (way_larger i)) (clock_larger (direction step at (next twin back i)) (direction step at i) x)))

  -- A drawing is plane where it is plane three times as large.
  pub larger_is_plane : IsPlaneRound k twin step back (λ i. larger (at i)) tail → IsPlaneRound k twin step back at tail
  larger_is_plane p = record {
    apart = λ i j li lj e. p.apart i j li lj (ap larger e);
    off_edges = λ i m li lm ne ne' on. p.off_edges i m li lm ne ne' (larger_on (at m) (at i) (at (step i)) on);
    no_crossing = λ i j li lj x. p.no_crossing i j li lj (larger_cross_segments (at i) (at (step i)) (at j) (at (step j)) x);
    some_break = λ o lo. let b = p.some_break o lo in (b.0, b.1, b.2, break_smaller b.0 b.3);
    one_break = λ i j li lj same a b. p.one_break i j li lj same (break_larger i a) (break_larger j b);
  }
