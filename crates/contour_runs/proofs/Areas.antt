-- The area of three vertices that are spread.
use Rattle.std.proofs.Common.{◌≡◌, ℕ, ◌+◌, ◌-◌, ◌<◌, ℤ, pos, neg_ℤ, ◌+ℤ◌, ◌-ℤ◌, ◌*ℤ◌, ◌<ℤ◌, sym, subst, ap₂, ◌∙◌, inl, inr, arith}
use Rattle.std.proofs.lemmas.Bool.{cases_lt}
use Rattle.std.proofs.lemmas.Int.{ints}
use Rattle.std.proofs.lemmas.Nat.{mul-le}
use Rattle.pg_plane.specs.Geometry.{area}
use Rattle.pg_plane.proofs.Ring.{ring, sums}
use Rattle.contour_runs.specs.Wood.{Coordinates, point_of}
use Rattle.contour_runs.specs.Spread.{IsSpread}

-- b stands u to the left of a and d more above it, c stands e to the left of a, and its sum is t below that of a
steep : (u d e t : ℤ) → (neg_ℤ u *ℤ (e -ℤ t)) -ℤ (neg_ℤ e *ℤ (u +ℤ d)) ≡ ((u *ℤ t) +ℤ (e *ℤ d))
steep u d e t = simp ring (omega (arith, sums))

-- b stands w above a and d more to the left of it, c stands k below b, and its sum is t below that of b
flat : (w d k t : ℤ) → (neg_ℤ (w +ℤ d) *ℤ (w -ℤ k)) -ℤ (((k -ℤ (w +ℤ d)) -ℤ t) *ℤ w) ≡ ((d *ℤ k) +ℤ (w *ℤ t))
flat w d k t = simp ring (omega (arith, sums))

sum_positive : (a b c d : ℕ) → 0 < a → 0 < b → pos 0 <ℤ ((pos a *ℤ pos b) +ℤ (pos c *ℤ pos d))
sum_positive a b c d p q = let m = mul-le 1 1 a b p q in omega (arith, ints)

-- the area by four differences
by_differences : (at : Coordinates) (a b c : ℕ) (x y z w s : ℤ) → pos (at.one b) -ℤ pos (at.one a) ≡ x → pos (at.two b) -ℤ pos (at.two a) ≡ y → pos (at.one c) -ℤ pos (at.one a) ≡ z → pos (at.two c) -ℤ pos (at.two a) ≡ w → (x *ℤ w) -ℤ (z *ℤ y) ≡ s → pos 0 <ℤ s → pos 0 <ℤ area (point_of at a) (point_of at b) (point_of at c)
by_differences at a b c x y z w s ex ey ez ew e p =
    subst (λ m. pos 0 <ℤ m) (sym (ap₂ (λ m n. m -ℤ n) (ap₂ (λ m n. m *ℤ n) ex ew) (ap₂ (λ m n. m *ℤ n) ez ey) ∙ e)) p

pub spread_area : (at : Coordinates) (a b c : ℕ) → IsSpread at a b c → pos 0 <ℤ area (point_of at a) (point_of at b) (point_of at c)
spread_area at a b c h =
    let u : ℕ = at.one a - at.one b in
    let w : ℕ = at.two b - at.two a in
    elim (cases_lt w u) [
      | inr l ↦
          let d : ℕ = w - u in
          let e : ℕ = at.one a - at.one c in
          let t : ℕ = at.one a + at.two a - (at.one c + at.two c) in
          by_differences at a b c (neg_ℤ (pos u)) (pos u +ℤ pos d) (neg_ℤ (pos e)) (pos e -ℤ pos t) _ (omega (arith, ints)) (omega (arith, ints)) (omega (arith, ints)) (omega (arith, ints)) (steep (pos u) (pos d) (pos e) (pos t)) (sum_positive u t e d (omega arith) (omega arith))
      | inl l ↦
          let d : ℕ = u - w in
          let k : ℕ = at.two b - at.two c in
          let t : ℕ = at.one b + at.two b - (at.one c + at.two c) in
          by_differences at a b c (neg_ℤ (pos w +ℤ pos d)) (pos w) ((pos k -ℤ (pos w +ℤ pos d)) -ℤ pos t) (pos w -ℤ pos k) _ (omega (arith, ints)) (omega (arith, ints)) (omega (arith, ints)) (omega (arith, ints)) (flat (pos w) (pos d) (pos k) (pos t)) (sum_positive d k w t (omega arith) (omega arith))
    ]
