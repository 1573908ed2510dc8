-- The clockwise order of directions from west: it can be decided, no two directions come before each other, and it chains.
use Rattle.std.proofs.Common.{◌≡◌, ◌⊎◌, ℤ, pos, ◌*ℤ◌, ◌<ℤ◌, ◌≤ℤ◌, ap, ◌∙◌, inl, inr, ⊎_elim, arith}
use Rattle.std.proofs.lemmas.Int.{ints, by_lt_z}
use Rattle.pg_plane.specs.declared.grid_points.Point.{Point}
use Rattle.pg_plane.specs.Geometry.{cross, IsFirstHalf, IsClockBefore}
use Rattle.pg_plane.proofs.Ring.{sums, mul_neg, product_signs}
use Rattle.pg_plane.proofs.Identities.{heights, cross_back}

-- a direction is of the first half or not
half_cases : (d : Point) → IsFirstHalf d ⊎ ¬ IsFirstHalf d
half_cases d = grind (arith, by_lt_z, pos, ints)

-- a direction comes before another or not
pub clock_cases : (d e : Point) → IsClockBefore d e ⊎ ¬ IsClockBefore d e
clock_cases d e = grind (arith, half_cases, by_lt_z, cross, pos, ints)

turns_back : (d e : Point) → cross d e <ℤ pos 0 → cross e d <ℤ pos 0 → ⊥
turns_back d e l l' = let back = cross_back d e in omega (arith, sums)

-- no two directions come before each other
pub clock_apart : (d e : Point) → IsClockBefore d e → ¬ IsClockBefore e d
clock_apart d e b b' = grind (arith, turns_back)

pub zero_product : (a b : ℤ) → b ≡ pos 0 → a *ℤ b ≡ pos 0
zero_product a b e = let n = mul_neg a (pos 0) in ap (λ z. a *ℤ z) e ∙ omega (arith, sums)

-- in the upper half a turn to the right after a turn to the right is one
upper_turns : (u v w : Point) → pos 0 ≤ℤ u.y → pos 0 ≤ℤ v.y → pos 0 ≤ℤ w.y → (w.y ≡ pos 0 → w.x <ℤ pos 0) → cross u v <ℤ pos 0 → cross v w <ℤ pos 0 → cross u w <ℤ pos 0
upper_turns u v w hu hv hw west uv vw =
    by_lt_z (cross u w) (pos 0) (λ l. l)
    (λ l.
    let h = heights u v w in
    let one = product_signs (cross v w) u.y in
    let two = (product_signs (cross w u) v.y).down_up (omega (arith, sums)) hv in
    by_lt_z (pos 0) w.y
    (λ up. let x = (product_signs (cross u v) w.y).below_above uv up in let y = one.down_up (omega (arith, ints)) hu in absurd (omega (arith, sums)))
    (λ down.
    let level : w.y ≡ pos 0 = omega (arith, ints) in
    let none = zero_product v.x w.y level in
    absurd (omega (arith, (product_signs w.x v.y).down_up (let left = west level in omega (arith, ints)) hv, sums))))

-- and in the lower half
lower_turns : (u v w : Point) → u.y ≤ℤ pos 0 → v.y ≤ℤ pos 0 → w.y ≤ℤ pos 0 → (w.y ≡ pos 0 → pos 0 ≤ℤ w.x) → cross u v <ℤ pos 0 → cross v w <ℤ pos 0 → cross u w <ℤ pos 0
lower_turns u v w hu hv hw east uv vw =
    by_lt_z (cross u w) (pos 0) (λ l. l)
    (λ l.
    let h = heights u v w in
    let one = product_signs (cross v w) u.y in
    let two = (product_signs (cross w u) v.y).both_down (omega (arith, sums)) hv in
    let three = product_signs (cross u v) w.y in
    by_lt_z w.y (pos 0)
    (λ down. let x = three.both_below uv down in let y = one.both_down (omega (arith, ints)) hu in absurd (omega (arith, sums)))
    (λ up.
    let level : w.y ≡ pos 0 = omega (arith, ints) in
    absurd (omega (arith, (product_signs w.x v.y).up_down (east level) hv, zero_product v.x w.y level, sums))))

-- heights of the first half
first_up : (d : Point) → IsFirstHalf d → pos 0 ≤ℤ d.y
first_up d f = ⊎_elim (λ l. omega (arith, ints)) (λ r. let level = r.0 in omega (arith, ints)) f

first_west : (d : Point) → IsFirstHalf d → d.y ≡ pos 0 → d.x <ℤ pos 0
first_west d f e = ⊎_elim (λ l. absurd (omega (arith, ints))) (λ r. r.1) f

second_down : (d : Point) → ¬ IsFirstHalf d → d.y ≤ℤ pos 0
second_down d n = by_lt_z (pos 0) d.y (λ l. absurd (n (inl l))) (λ l. l)

second_east : (d : Point) → ¬ IsFirstHalf d → d.y ≡ pos 0 → pos 0 ≤ℤ d.x
second_east d n e = by_lt_z d.x (pos 0) (λ l. absurd (n (inr (e, l)))) (λ l. l)

-- the order chains
pub clock_chained : (d e f : Point) → IsClockBefore d e → IsClockBefore e f → IsClockBefore d f
clock_chained d e f b b' =
    ⊎_elim (λ x. ⊎_elim (λ y. absurd (x.1 y.0)) (λ y. ⊎_elim (λ z. absurd (x.1 z.0)) (λ z. inl (x.0, z.1)) y) b')
    (λ x. ⊎_elim
    (λ p. ⊎_elim (λ y. inl (p.0, y.1)) (λ y. ⊎_elim
    (λ z. inr (inl (p.0, z.1, upper_turns d e f (first_up d p.0) (first_up e p.1) (first_up f z.1) (first_west f z.1) p.2 z.2)))
    (λ z. absurd (z.0 p.1)) y) b')
    (λ s. ⊎_elim (λ y. absurd (s.1 y.0)) (λ y. ⊎_elim
    (λ z. absurd (s.1 z.0))
    (λ z. inr (inr (s.0, z.1, lower_turns d e f (second_down d s.0) (second_down e s.1) (second_down f z.1) (second_east f z.1) s.2 z.2))) y) b')
    x) b
