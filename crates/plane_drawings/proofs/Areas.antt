-- Points over and under two segments, and segments that do not cross, by signs of areas.
use Rattle.std.proofs.Common.{◌≡◌, ℤ, pos, neg_ℤ, ◌+ℤ◌, ◌-ℤ◌, ◌*ℤ◌, ◌≤ℤ◌, ◌<ℤ◌, ◌⊎◌, inl, inr, sym, ap, arith}
use Rattle.std.proofs.lemmas.Int.{ints, by_lt_z}
use Rattle.pg_plane.specs.declared.grid_points.Point.{Point}
use Rattle.pg_plane.specs.Geometry.{vector, cross, area, AreOpposite, IsOnSegment, DoCross}
use Rattle.pg_plane.proofs.Ring.{ring, sums, mul_neg, neg_mul, product_signs}
use Rattle.pg_plane.proofs.Crossing.{one_crossing, one_weight, flat_last, flat_ends}
use Rattle.plane_drawings.specs.PlaneSweepLines.{IsBefore}

-- three vectors: each width times the area between the other two
pub widths : (u p q : Point) → (((cross p q) *ℤ u.x) +ℤ (neg_ℤ (cross u q) *ℤ p.x)) +ℤ ((cross u p) *ℤ q.x) ≡ pos 0
widths u p q = simp ring (omega (arith, sums))

-- an area seen from another point
area_from : (a b c w : Point) → area a b c ≡ area a b w +ℤ cross (vector a b) (vector w c)
area_from a b c w = simp ring (omega (arith, sums))

area_of_last : (c d w : Point) → area c d w ≡ cross (vector w c) (vector w d)
area_of_last c d w = simp ring (omega (arith, sums))

parts : (s x y z u p q : ℤ) → ((z *ℤ u) +ℤ (neg_ℤ y *ℤ p)) +ℤ (x *ℤ q) ≡ pos 0 → (q -ℤ p) *ℤ s ≡ ((q *ℤ (s +ℤ x)) +ℤ (neg_ℤ p *ℤ (s +ℤ y))) +ℤ (u *ℤ z)
parts s x y z u p q e = let f = simp ring at e in simp ring (omega (arith, sums))

parts_named : (s x y z u p q n m c d : ℤ) → n ≡ q -ℤ p → m ≡ neg_ℤ p → c ≡ s +ℤ x → d ≡ s +ℤ y → ((z *ℤ u) +ℤ (neg_ℤ y *ℤ p)) +ℤ (x *ℤ q) ≡ pos 0 → n *ℤ s ≡ ((q *ℤ c) +ℤ (m *ℤ d)) +ℤ (u *ℤ z)
parts_named s x y z u p q n m c d is_n is_m is_c is_d e = rw (is_n, is_m, is_c, is_d) (parts s x y z u p q e)

-- How far w is above ab, by how far the ends of a segment cd are, and by how far w is above cd.
pub by_segment : (a b c d w : Point) → (d.x -ℤ c.x) *ℤ area a b w ≡ (((d.x -ℤ w.x) *ℤ area a b c) +ℤ ((w.x -ℤ c.x) *ℤ area a b d)) +ℤ ((b.x -ℤ a.x) *ℤ area c d w)
by_segment a b c d w =
    let u = vector a b in
    let p = vector w c in
    let q = vector w d in
    parts_named (area a b w) (cross u p) (cross u q) (area c d w) u.x p.x q.x (d.x -ℤ c.x) (w.x -ℤ c.x) (area a b c) (area a b d) (omega (arith, ints)) (omega (arith, ints)) (area_from a b c w) (area_from a b d w)
    (rw (area_of_last c d w) (widths u p q))

-- signs in a sum of three products
first_positive : (s a t b u c v d : ℤ) → s *ℤ a ≡ ((t *ℤ b) +ℤ (u *ℤ c)) +ℤ (v *ℤ d) → pos 0 <ℤ s → pos 0 <ℤ a → pos 0 ≤ℤ t → b ≤ℤ pos 0 → pos 0 ≤ℤ u → c ≤ℤ pos 0 → pos 0 ≤ℤ v → pos 0 <ℤ d
first_positive s a t b u c v d e ps pa pt nb pu nc pv =
    by_lt_z (pos 0) d
    (λ h. h)
    (λ h.
    let z = (product_signs u c).up_down pu nc in
    let w = (product_signs v d).up_down pv h in
    absurd (omega (arith, (product_signs t b).up_down pt nb, (product_signs s a).both_above ps pa, sums)))

sum_positive : (s a t b u c v d : ℤ) → s *ℤ a ≡ ((t *ℤ b) +ℤ (u *ℤ c)) +ℤ (v *ℤ d) → pos 0 <ℤ s → pos 0 ≤ℤ t → pos 0 ≤ℤ b → pos 0 ≤ℤ u → pos 0 ≤ℤ c → pos 0 <ℤ v → pos 0 <ℤ d → pos 0 <ℤ a
sum_positive s a t b u c v d e ps pt pb pu pc pv pd =
    by_lt_z (pos 0) a
    (λ h. h)
    (λ h.
    let y = (product_signs t b).both_up pt pb in
    let z = (product_signs u c).both_up pu pc in
    let w = (product_signs v d).both_above pv pd in
    absurd (omega (arith, (product_signs s a).up_down (omega (arith, ints)) h, sums)))

negated : (s a t b u c v d : ℤ) → s *ℤ a ≡ ((t *ℤ b) +ℤ (u *ℤ c)) +ℤ (v *ℤ d) → s *ℤ neg_ℤ a ≡ ((t *ℤ neg_ℤ b) +ℤ (u *ℤ neg_ℤ c)) +ℤ (v *ℤ neg_ℤ d)
negated s a t b u c v d e = rw (mul_neg s a, mul_neg t b, mul_neg u c, mul_neg v d) (omega (arith, sums))

-- two points at one width: how far the one is higher above the segment is how far it is higher
upright : (c d k w : Point) → w.x ≡ k.x → area c d w -ℤ area c d k ≡ (d.x -ℤ c.x) *ℤ (w.y -ℤ k.y)
upright c d k w e = rw e (simp ring (omega (arith, sums)))

-- m and k are not below ab and not above cd, and both segments reach from m to k; w is between m and k
pub record IsBetweenLines (a b c d m k w : Point) : Type 0 where
  pub first_low : a.x ≤ℤ m.x
  pub second_low : c.x ≤ℤ m.x
  pub first_high : k.x ≤ℤ b.x
  pub second_high : k.x ≤ℤ d.x
  pub low_above : pos 0 ≤ℤ area a b m
  pub low_below : area c d m ≤ℤ pos 0
  pub high_above : pos 0 ≤ℤ area a b k
  pub high_below : area c d k ≤ℤ pos 0
  pub after : IsBefore m w
  pub before : IsBefore w k ⊎ (w ≡ k)

module _ (a b c d m k w : Point) (h : IsBetweenLines a b c d m k w) where
  late : w.x ≤ℤ k.x
  late = elim h.before [ inl n ↦ elim n [ inl l ↦ omega (arith, ints) | inr e ↦ (let f = e.0 in omega (arith, ints)) ] | inr e ↦ (let f = ap (λ (p : Point). p.x) e in omega (arith, ints)) ]

  early : m.x ≤ℤ w.x
  early = elim h.after [ inl l ↦ omega (arith, ints) | inr e ↦ (let f = e.0 in omega (arith, ints)) ]

  -- where m and k have one width, w is between them in height
  level : k.x ≤ℤ m.x → (w.x ≡ k.x) × (w.x ≡ m.x) × (w.y ≤ℤ k.y) × (m.y ≤ℤ w.y)
  level l = grind (arith, late, early, ints, Point)

  -- What is strictly above the upper segment is strictly above the lower one.
  pub over_both : pos 0 <ℤ area c d w → pos 0 <ℤ area a b w
  over_both up =
      let x = late in
      let y = early in
      by_lt_z m.x k.x
      (λ l.
      let over : pos 0 <ℤ area m k w =
      first_positive (k.x -ℤ m.x) (area c d w) (k.x -ℤ w.x) (area c d m) (w.x -ℤ m.x) (area c d k) (d.x -ℤ c.x) (area m k w) (by_segment c d m k w) (omega (arith, ints)) up (omega (arith, ints)) h.low_below (omega (arith, ints)) h.high_below (omega (arith, ints)) in
      sum_positive (k.x -ℤ m.x) (area a b w) (k.x -ℤ w.x) (area a b m) (w.x -ℤ m.x) (area a b k) (b.x -ℤ a.x) (area m k w) (by_segment a b m k w) (omega (arith, ints)) (omega (arith, ints)) h.low_above (omega (arith, ints)) h.high_above (omega (arith, ints)) over)
      (λ l.
      let v = level l in
      let g = (product_signs (d.x -ℤ c.x) (w.y -ℤ k.y)).up_down (omega (arith, ints)) (let z = v.2 in omega (arith, ints)) in
      absurd (omega (arith, upright c d k w v.0, sums)))

  -- What is strictly below the lower segment is strictly below the upper one.
  pub under_both : area a b w <ℤ pos 0 → area c d w <ℤ pos 0
  under_both down =
      let x = late in
      let y = early in
      let first = negated (k.x -ℤ m.x) (area a b w) (k.x -ℤ w.x) (area a b m) (w.x -ℤ m.x) (area a b k) (b.x -ℤ a.x) (area m k w) (by_segment a b m k w) in
      let second = negated (k.x -ℤ m.x) (area c d w) (k.x -ℤ w.x) (area c d m) (w.x -ℤ m.x) (area c d k) (d.x -ℤ c.x) (area m k w) (by_segment c d m k w) in
      by_lt_z m.x k.x
      (λ l.
      let over : pos 0 <ℤ neg_ℤ (area m k w) =
      first_positive (k.x -ℤ m.x) (neg_ℤ (area a b w)) (k.x -ℤ w.x) (neg_ℤ (area a b m)) (w.x -ℤ m.x) (neg_ℤ (area a b k)) (b.x -ℤ a.x) (neg_ℤ (area m k w)) first (omega (arith, ints)) (omega (arith, ints)) (omega (arith, ints)) (omega (arith, ints)) (omega (arith, ints)) (omega (arith, ints)) (omega (arith, ints)) in
      let z : pos 0 <ℤ neg_ℤ (area c d w) =
      sum_positive (k.x -ℤ m.x) (neg_ℤ (area c d w)) (k.x -ℤ w.x) (neg_ℤ (area c d m)) (w.x -ℤ m.x) (neg_ℤ (area c d k)) (d.x -ℤ c.x) (neg_ℤ (area m k w)) second (omega (arith, ints)) (omega (arith, ints)) (omega (arith, ints)) (omega (arith, ints)) (omega (arith, ints)) (omega (arith, ints)) over in
      omega (arith, ints))
      (λ l.
      let v = level l in
      let g = (product_signs (b.x -ℤ a.x) (w.y -ℤ m.y)).both_up (omega (arith, ints)) (let z = v.3 in omega (arith, ints)) in
      absurd (omega (arith, upright a b m w v.1, sums)))

-- two segments of which the second is above the first where they begin and where they end
pub stays_up : (a b c d : Point) → (pos 0 ≤ℤ area a b c) ⊎ (area c d a ≤ℤ pos 0) → (pos 0 ≤ℤ area a b d) ⊎ (area c d b ≤ℤ pos 0) → ¬ DoCross a b c d
stays_up a b c d begin end h = by_signs (area a b c) (area a b d) (area c d a) (area c d b) (one_weight a b c d) begin end h.ends_of_second h.ends_of_first
  where
    by_signs : (p q r s : ℤ) → s +ℤ neg_ℤ r ≡ neg_ℤ q +ℤ p → (pos 0 ≤ℤ p) ⊎ (r ≤ℤ pos 0) → (pos 0 ≤ℤ q) ⊎ (s ≤ℤ pos 0) → AreOpposite p q → AreOpposite r s → ⊥
    by_signs p q r s e x y (inl f) (inl g) = elim x [ inl z ↦ omega (arith, ints) | inr z ↦ omega (arith, ints) ]
    by_signs p q r s e x y (inl f) (inr g) = elim x [ inl z ↦ omega (arith, ints) | inr z ↦ omega (arith, ints) ]
    by_signs p q r s e x y (inr f) (inl g) = elim y [ inl z ↦ omega (arith, ints) | inr z ↦ omega (arith, ints) ]
    by_signs p q r s e x y (inr f) (inr g) = elim y [ inl z ↦ omega (arith, ints) | inr z ↦ omega (arith, ints) ]

-- three points of one width have no area
flat : (a b c : Point) → a.x ≡ b.x → c.x ≡ b.x → area a b c ≡ pos 0
flat a b c e f = rw (e, f) (simp ring (omega (arith, sums)))

-- a crossing as a weighted mean of both pairs of ends, seen from an end
from_end : (p q r s a b c d : ℤ) → s +ℤ neg_ℤ r ≡ neg_ℤ q +ℤ p → (s *ℤ a) +ℤ (neg_ℤ r *ℤ b) ≡ (neg_ℤ q *ℤ c) +ℤ (p *ℤ d) → s *ℤ (a -ℤ b) ≡ (neg_ℤ q *ℤ (c -ℤ b)) +ℤ (p *ℤ (d -ℤ b))
from_end p q r s a b c d e f =
    let h = simp ring at (ap (λ z. z *ℤ b) e) in
    let i = simp ring at f in
    simp ring (omega (arith, sums))

-- two ends with positive weights, not to the right, and two with such weights, not to the left, have a common mean only where all are one
one_mean : (s t u a c d : ℤ) → s *ℤ a ≡ (t *ℤ c) +ℤ (u *ℤ d) → pos 0 <ℤ s → pos 0 <ℤ t → pos 0 ≤ℤ u → a ≤ℤ pos 0 → pos 0 ≤ℤ c → pos 0 ≤ℤ d → (a ≡ pos 0) × (c ≡ pos 0)
one_mean s t u a c d e ps pt pu na pc pd =
    let z = (product_signs u d).both_up pu pd in
    let x = (product_signs s a).up_down (omega (arith, ints)) na in
    let y = (product_signs t c).both_up (omega (arith, ints)) pc in (
      by_lt_z a (pos 0) (λ l. absurd (let n = (product_signs s a).above_below ps l in omega (arith, sums))) (λ l. omega (arith, ints)),
      by_lt_z (pos 0) c (λ l. absurd (let n = (product_signs t c).both_above pt l in omega (arith, sums))) (λ l. omega (arith, ints)),
    )

one_width : (p q r s a b c d : ℤ) → s +ℤ neg_ℤ r ≡ neg_ℤ q +ℤ p → (s *ℤ a) +ℤ (neg_ℤ r *ℤ b) ≡ (neg_ℤ q *ℤ c) +ℤ (p *ℤ d) → AreOpposite p q → AreOpposite r s → a ≤ℤ b → b ≤ℤ c → c ≤ℤ d → (a -ℤ b ≡ pos 0) × (c -ℤ b ≡ pos 0)
one_width p q r s a b c d e f (inl x) y l m n =
    let g = from_end p q r s a b c d e f in
    let h : neg_ℤ s *ℤ (a -ℤ b) ≡ (q *ℤ (c -ℤ b)) +ℤ (neg_ℤ p *ℤ (d -ℤ b)) = let i = simp (neg_mul) at g in rw (neg_mul s (a -ℤ b), neg_mul p (d -ℤ b)) (omega (arith, sums)) in
    one_mean (neg_ℤ s) q (neg_ℤ p) (a -ℤ b) (c -ℤ b) (d -ℤ b) h (omega (arith, ints)) (omega (arith, ints)) (omega (arith, ints)) (omega (arith, ints)) (omega (arith, ints)) (omega (arith, ints))
one_width p q r s a b c d e f (inr x) y l m n =
    let g = from_end p q r s a b c d e f in
    let up : pos 0 <ℤ s = elim y [ inl o ↦ omega (arith, ints) | inr o ↦ omega (arith, ints) ] in
    one_mean s (neg_ℤ q) p (a -ℤ b) (c -ℤ b) (d -ℤ b) g up (omega (arith, ints)) (omega (arith, ints)) (omega (arith, ints)) (omega (arith, ints)) (omega (arith, ints))

-- Two segments of which the one ends before the other begins do not cross.
pub disjoint : (a b c d : Point) → a.x ≤ℤ b.x → b.x ≤ℤ c.x → c.x ≤ℤ d.x → ¬ DoCross a b c d
disjoint a b c d l m n h =
    let one = one_width (area a b c) (area a b d) (area c d a) (area c d b) a.x b.x c.x d.x (one_weight a b c d) (ap (λ (p : Point). p.x) (one_crossing a b c d)) h.ends_of_second h.ends_of_first l m n in
    let z = flat a b c (omega (arith, ints)) (omega (arith, ints)) in
    elim h.ends_of_second [ inl o ↦ omega (arith, ints) | inr o ↦ omega (arith, ints) ]

-- what comes before a segment is not on it
pub early_off : (p a b : Point) → IsBefore p a → IsBefore a b → ¬ IsOnSegment p a b
early_off p a b (inl l) s h =
    elim s [
      | inl m ↦ elim h.between_x [ inl v ↦ (let w = v.0 in omega (arith, ints)) | inr v ↦ (let w = v.0 in omega (arith, ints)) ]
      | inr m ↦ (let e = m.0 in elim h.between_x [ inl v ↦ (let w = v.0 in omega (arith, ints)) | inr v ↦ (let w = v.0 in omega (arith, ints)) ])
    ]
early_off p a b (inr l) s h =
    elim s [
      | inl m ↦ (let e = upright a b a p l.0 in
          omega (arith, (product_signs (b.x -ℤ a.x) (p.y -ℤ a.y)).above_below (omega (arith, ints)) (omega (arith, ints)), flat_ends a b, sums))
      | inr m ↦ (let up = m.1 in elim h.between_y [ inl v ↦ (let w = v.0 in omega (arith, ints)) | inr v ↦ (let w = v.0 in omega (arith, ints)) ])
    ]

-- nor is what comes after it
pub late_off : (p a b : Point) → IsBefore a b → IsBefore b p → ¬ IsOnSegment p a b
late_off p a b s (inl l) h =
    elim s [
      | inl m ↦ elim h.between_x [ inl v ↦ (let w = v.1 in omega (arith, ints)) | inr v ↦ (let w = v.1 in omega (arith, ints)) ]
      | inr m ↦ (let e = m.0 in elim h.between_x [ inl v ↦ (let w = v.1 in omega (arith, ints)) | inr v ↦ (let w = v.1 in omega (arith, ints)) ])
    ]
late_off p a b s (inr l) h =
    elim s [
      | inl m ↦ (let e = upright a b b p (sym l.0) in
          omega (arith, (product_signs (b.x -ℤ a.x) (p.y -ℤ b.y)).both_above (omega (arith, ints)) (omega (arith, ints)), sums))
      | inr m ↦ (let up = m.1 in elim h.between_y [ inl v ↦ (let w = v.1 in omega (arith, ints)) | inr v ↦ (let w = v.1 in omega (arith, ints)) ])
    ]
