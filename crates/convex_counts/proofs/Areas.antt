-- Areas of three vertices, where two of them are on one side.
use Rattle.std.proofs.Common.{◌≡◌, ℕ, ◌+◌, ◌-◌, ◌<◌, ◌≤◌, ℤ, pos, neg_ℤ, ◌-ℤ◌, ◌*ℤ◌, ◌<ℤ◌, ◌≤ℤ◌, sym, subst, ap₂, ◌∙◌, arith}
use Rattle.std.proofs.lemmas.Int.{ints}
use Rattle.pg_plane.specs.Geometry.{area}
use Rattle.pg_plane.proofs.Identities.{area_turned}
use Rattle.pg_plane.proofs.Ring.{ring, sums, neg_mul, mul_neg, product_signs}
use Rattle.contour_runs.specs.Wood.{Coordinates, point_of}

-- an area by four differences
differences : (at : Coordinates) (a b c : ℕ) (x y z w : ℤ) → pos (at.one b) -ℤ pos (at.one a) ≡ x → pos (at.two b) -ℤ pos (at.two a) ≡ y → pos (at.one c) -ℤ pos (at.one a) ≡ z → pos (at.two c) -ℤ pos (at.two a) ≡ w → area (point_of at a) (point_of at b) (point_of at c) ≡ (x *ℤ w) -ℤ (z *ℤ y)
differences at a b c x y z w ex ey ez ew = ap₂ (λ m n. m -ℤ n) (ap₂ (λ m n. m *ℤ n) ex ew) (ap₂ (λ m n. m *ℤ n) ez ey)

-- one step up
pub rising : (e d w : ℤ) → (pos 0 *ℤ w) -ℤ (neg_ℤ e *ℤ d) ≡ e *ℤ d
rising e d w = let a = neg_mul e d in let b = neg_mul (pos 0) w in omega (arith, sums)

-- one to the left
pub level : (e d z : ℤ) → (neg_ℤ e *ℤ neg_ℤ d) -ℤ (z *ℤ pos 0) ≡ e *ℤ d
level e d z = let a = neg_mul e (neg_ℤ d) in let b = mul_neg e d in let c = mul_neg z (pos 0) in omega (arith, sums)

-- one to the right and down as far
falling : (e d z : ℤ) → (e *ℤ (d -ℤ z)) -ℤ (z *ℤ neg_ℤ e) ≡ e *ℤ d
falling e d z = simp ring (omega (arith, sums))

-- three vertices by other names
pub as_named : (at : Coordinates) (a b c x y z : ℕ) → x ≡ a → y ≡ b → z ≡ c → pos 0 ≤ℤ area (point_of at a) (point_of at b) (point_of at c) → pos 0 ≤ℤ area (point_of at x) (point_of at y) (point_of at z)
as_named at a b c x y z e f d h =
    subst (λ x. pos 0 ≤ℤ area (point_of at x) (point_of at y) (point_of at z)) (sym e) (subst (λ y. pos 0 ≤ℤ area (point_of at a) (point_of at y) (point_of at z)) (sym f) (subst (λ z. pos 0 ≤ℤ area (point_of at a) (point_of at b) (point_of at z)) (sym d) h))

module _ (at : Coordinates) (a b c : ℕ) where
  -- the same three, from the next one on
  pub turned_weak : pos 0 ≤ℤ area (point_of at b) (point_of at c) (point_of at a) → pos 0 ≤ℤ area (point_of at a) (point_of at b) (point_of at c)
  turned_weak h = subst (λ z. pos 0 ≤ℤ z) (area_turned (point_of at a) (point_of at b) (point_of at c)) h

  abbrev here : ℤ
  here = area (point_of at a) (point_of at b) (point_of at c)

  first_area : at.one b ≡ at.one a → at.two a ≤ at.two b → at.one c ≤ at.one a → here ≡ pos (at.one a - at.one c) *ℤ pos (at.two b - at.two a)
  first_area e l m =
      differences at a b c (pos 0) (pos (at.two b - at.two a)) (neg_ℤ (pos (at.one a - at.one c))) (pos (at.two c) -ℤ pos (at.two a)) (omega (arith, ints)) (omega (arith, ints)) (omega (arith, ints)) (omega (arith, ints))
      ∙ rising (pos (at.one a - at.one c)) (pos (at.two b - at.two a)) (pos (at.two c) -ℤ pos (at.two a))

  -- a and b on the first side
  pub first_weak : at.one b ≡ at.one a → at.two a ≤ at.two b → at.one c ≤ at.one a → pos 0 ≤ℤ here
  first_weak e l m = subst (λ n. pos 0 ≤ℤ n) (sym (first_area e l m)) ((product_signs (pos (at.one a - at.one c)) (pos (at.two b - at.two a))).both_up (omega (arith, ints)) (omega (arith, ints)))

  pub first_strict : at.one b ≡ at.one a → at.two a < at.two b → at.one c < at.one a → pos 0 <ℤ here
  first_strict e l m = subst (λ n. pos 0 <ℤ n) (sym (first_area e (omega arith) (omega arith))) ((product_signs (pos (at.one a - at.one c)) (pos (at.two b - at.two a))).both_above (omega (arith, ints)) (omega (arith, ints)))

  second_area : at.two b ≡ at.two a → at.one b ≤ at.one a → at.two c ≤ at.two a → here ≡ pos (at.one a - at.one b) *ℤ pos (at.two a - at.two c)
  second_area e l m =
      differences at a b c (neg_ℤ (pos (at.one a - at.one b))) (pos 0) (pos (at.one c) -ℤ pos (at.one a)) (neg_ℤ (pos (at.two a - at.two c))) (omega (arith, ints)) (omega (arith, ints)) (omega (arith, ints)) (omega (arith, ints))
      ∙ level (pos (at.one a - at.one b)) (pos (at.two a - at.two c)) (pos (at.one c) -ℤ pos (at.one a))

  -- on the second
  pub second_weak : at.two b ≡ at.two a → at.one b ≤ at.one a → at.two c ≤ at.two a → pos 0 ≤ℤ here
  second_weak e l m = subst (λ n. pos 0 ≤ℤ n) (sym (second_area e l m)) ((product_signs (pos (at.one a - at.one b)) (pos (at.two a - at.two c))).both_up (omega (arith, ints)) (omega (arith, ints)))

  pub second_strict : at.two b ≡ at.two a → at.one b < at.one a → at.two c < at.two a → pos 0 <ℤ here
  second_strict e l m = subst (λ n. pos 0 <ℤ n) (sym (second_area e (omega arith) (omega arith))) ((product_signs (pos (at.one a - at.one b)) (pos (at.two a - at.two c))).both_above (omega (arith, ints)) (omega (arith, ints)))

  third_area : at.one b + at.two b ≡ at.one a + at.two a → at.one a ≤ at.one b → at.one a + at.two a ≤ at.one c + at.two c → here ≡ pos (at.one b - at.one a) *ℤ pos (at.one c + at.two c - (at.one a + at.two a))
  third_area e l m =
      differences at a b c (pos (at.one b - at.one a)) (neg_ℤ (pos (at.one b - at.one a))) (pos (at.one c) -ℤ pos (at.one a)) (pos (at.one c + at.two c - (at.one a + at.two a)) -ℤ (pos (at.one c) -ℤ pos (at.one a))) (omega (arith, ints)) (omega (arith, ints)) (omega (arith, ints)) (omega (arith, ints))
      ∙ falling (pos (at.one b - at.one a)) (pos (at.one c + at.two c - (at.one a + at.two a))) (pos (at.one c) -ℤ pos (at.one a))

  -- on the third
  pub third_weak : at.one b + at.two b ≡ at.one a + at.two a → at.one a ≤ at.one b → at.one a + at.two a ≤ at.one c + at.two c → pos 0 ≤ℤ here
  third_weak e l m = subst (λ n. pos 0 ≤ℤ n) (sym (third_area e l m)) ((product_signs (pos (at.one b - at.one a)) (pos (at.one c + at.two c - (at.one a + at.two a)))).both_up (omega (arith, ints)) (omega (arith, ints)))

  pub third_strict : at.one b + at.two b ≡ at.one a + at.two a → at.one a < at.one b → at.one a + at.two a < at.one c + at.two c → pos 0 <ℤ here
  third_strict e l m = subst (λ n. pos 0 <ℤ n) (sym (third_area e (omega arith) (omega arith))) ((product_signs (pos (at.one b - at.one a)) (pos (at.one c + at.two c - (at.one a + at.two a)))).both_above (omega (arith, ints)) (omega (arith, ints)))
