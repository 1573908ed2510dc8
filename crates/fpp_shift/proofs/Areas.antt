-- The area of a face that was opened.
use Rattle.std.proofs.Common.{◌≡◌, ℕ, ◌+◌, ◌*◌, ◌<◌, ℤ, pos, ◌+ℤ◌, ◌-ℤ◌, ◌*ℤ◌, ◌<ℤ◌, ap₂, ◌∙◌, arith}
use Rattle.std.proofs.lemmas.Int.{ints}
use Rattle.pg_plane.specs.Geometry.{area}
use Rattle.pg_plane.proofs.Ring.{ring, sums}
use Rattle.fpp_shift.specs.Shift.{Places, point_of}
use Rattle.fpp_shift.specs.Opened.{IsOpened}

-- twice a determinant, by the sums and differences of its rows
by_diagonals : (x y z w : ℤ) → ((x *ℤ w) -ℤ (z *ℤ y)) +ℤ ((x *ℤ w) -ℤ (z *ℤ y)) ≡ ((x -ℤ y) *ℤ (z +ℤ w)) -ℤ ((z -ℤ w) *ℤ (x +ℤ y))
by_diagonals x y z w = simp ring (omega (arith, sums))

-- the same where the diagonals are known
opened : (w l e t g h : ℤ) → ((w +ℤ (g +ℤ h)) *ℤ (l +ℤ (t +ℤ g))) -ℤ ((g -ℤ e) *ℤ (l +ℤ (g +ℤ h))) ≡ ((w *ℤ t) +ℤ ((w *ℤ l) +ℤ (e *ℤ l))) +ℤ ((w *ℤ g) +ℤ (((g +ℤ h) *ℤ t) +ℤ ((h *ℤ l) +ℤ (e *ℤ (g +ℤ h)))))
opened w l e t g h = simp ring (omega (arith, sums))

half_positive : (a s : ℤ) → a +ℤ a ≡ s → pos 0 <ℤ s → pos 0 <ℤ a
half_positive a s e p = omega (arith, ints)

sum_positive : (w l e t g h : ℕ) → 0 < w * t + w * l + e * l → pos 0 <ℤ (((pos w *ℤ pos t) +ℤ ((pos w *ℤ pos l) +ℤ (pos e *ℤ pos l))) +ℤ ((pos w *ℤ pos g) +ℤ (((pos g +ℤ pos h) *ℤ pos t) +ℤ ((pos h *ℤ pos l) +ℤ (pos e *ℤ (pos g +ℤ pos h))))))
sum_positive w l e t g h p = omega (arith, ints)

pub opened_area : (at : Places) (a b v : ℕ) → IsOpened at a b v → pos 0 <ℤ area (point_of at a) (point_of at b) (point_of at v)
opened_area at a b v o =
    let x : ℤ = pos (at.x b) -ℤ pos (at.x a) in
    let y : ℤ = pos (at.y b) -ℤ pos (at.y a) in
    let z : ℤ = pos (at.x v) -ℤ pos (at.x a) in
    let u : ℤ = pos (at.y v) -ℤ pos (at.y a) in
    let e1 : x -ℤ y ≡ pos o.wide +ℤ (pos o.more +ℤ pos o.most) = let f = o.b_across in omega (arith, ints) in
    let e2 : x +ℤ y ≡ pos o.long +ℤ (pos o.more +ℤ pos o.most) = let f = o.b_along in omega (arith, ints) in
    let e3 : z -ℤ u ≡ pos o.more -ℤ pos o.left = let f = o.v_across in omega (arith, ints) in
    let e4 : z +ℤ u ≡ pos o.long +ℤ (pos o.tall +ℤ pos o.more) = let f = o.v_along in omega (arith, ints) in
    let e = by_diagonals x y z u ∙ ap₂ (λ r s. r -ℤ s) (ap₂ (λ r s. r *ℤ s) e1 e4) (ap₂ (λ r s. r *ℤ s) e3 e2) ∙ opened (pos o.wide) (pos o.long) (pos o.left) (pos o.tall) (pos o.more) (pos o.most) in
    half_positive (area (point_of at a) (point_of at b) (point_of at v)) _ e (sum_positive o.wide o.long o.left o.tall o.more o.most o.positive)
