-- Segments that lie on two sides of a line do not cross: one between a point and a box, and one apart from both; and points beside them.
use Rattle.std.proofs.Common.{◌≡◌, ◌⊎◌, Bool, true, false, cond, ℤ, pos, neg_ℤ, ◌-ℤ◌, ◌*ℤ◌, ◌≤ℤ◌, ◌<ℤ◌, sym, subst, inl, inr, arith}
use Rattle.std.specs.Int.{int_min, int_max}
use Rattle.std.proofs.lemmas.Int.{ints, by_lt_z}
use Rattle.pg_plane.specs.declared.grid_points.Point.{Point}
use Rattle.pg_plane.specs.Geometry.{area, AreOpposite, IsBetween, IsOnSegment, DoCross}
use Rattle.pg_plane.specs.Range.{IsWithin}
use Rattle.pg_plane.proofs.Ring.{ring, sums, product_signs}
use Rattle.pg_plane.proofs.Identities.{area_turned}
use Rattle.pg_plane.proofs.Crossing.{area_back}
use Rattle.pg_plane.proofs.Segments.{IsOnSegment-back, DoCross-first_back, DoCross-second_back, DoCross-exchanged}
use Rattle.plane_drawings.proofs.Areas.{disjoint}
use Rattle.draw_check.specs.declared.bounding_boxes.BoundingBox.{BoundingBox}
use Rattle.draw_check.specs.Spans.{IsIn, IsApart, IsLeftOf, IsStrictlyLeftOf, MissesStar, MissesFan}

or_less : (s t : ℤ) → (s ≤ℤ t) ⊎ (t ≤ℤ s)
or_less s t = by_lt_z s t (λ h. inl (omega (arith, ints))) (λ h. inr h)

-- the one to the left of the other
left_uncrossed : (a b c d : Point) → a.x ≤ℤ c.x → a.x ≤ℤ d.x → b.x ≤ℤ c.x → b.x ≤ℤ d.x → ¬ DoCross a b c d
left_uncrossed a b c d ac ad bc bd h =
    elim (or_less a.x b.x) [
      | inl l ↦ elim (or_less c.x d.x) [ inl m ↦ disjoint a b c d l bc m h | inr m ↦ disjoint a b d c l bd m (DoCross-second_back a b c d h) ]
      | inr l ↦ (let back = DoCross-first_back a b c d h in elim (or_less c.x d.x) [ inl m ↦ disjoint b a c d l ac m back | inr m ↦ disjoint b a d c l ad m (DoCross-second_back b a c d back) ])
    ]

-- a point with its coordinates exchanged
abbrev turned : Point → Point
turned p = record { x = p.y; y = p.x }

area_exchanged : (s t u v w z : ℤ) → area (record { x = t; y = s }) (record { x = v; y = u }) (record { x = z; y = w }) ≡ neg_ℤ (area (record { x = s; y = t }) (record { x = u; y = v }) (record { x = w; y = z }))
area_exchanged s t u v w z = simp ring (omega (arith, sums))

area-turned : (a b c : Point) → area (turned a) (turned b) (turned c) ≡ neg_ℤ (area a b c)
area-turned a b c = area_exchanged a.x a.y b.x b.y c.x c.y

opposite_turned : (s t : ℤ) → AreOpposite s t → AreOpposite (neg_ℤ s) (neg_ℤ t)
opposite_turned s t (inl l) = inr (let low = l.0 in omega (arith, ints), let high = l.1 in omega (arith, ints))
opposite_turned s t (inr r) = inl (let low = r.0 in omega (arith, ints), let high = r.1 in omega (arith, ints))

DoCross-turned : (a b c d : Point) → DoCross a b c d → DoCross (turned a) (turned b) (turned c) (turned d)
DoCross-turned a b c d h = record {
  ends_of_second = rw (area-turned a b c, area-turned a b d) (opposite_turned (area a b c) (area a b d) h.ends_of_second);
  ends_of_first = rw (area-turned c d a, area-turned c d b) (opposite_turned (area c d a) (area c d b) h.ends_of_first);
}

-- the one below the other
low_uncrossed : (a b c d : Point) → a.y ≤ℤ c.y → a.y ≤ℤ d.y → b.y ≤ℤ c.y → b.y ≤ℤ d.y → ¬ DoCross a b c d
low_uncrossed a b c d ac ad bc bd h = left_uncrossed (turned a) (turned b) (turned c) (turned d) ac ad bc bd (DoCross-turned a b c d h)

-- A segment on one side of a box crosses none in the box.
pub apart_uncrossed : (span : BoundingBox) (a b c d : Point) → IsApart span a b → IsIn span c → IsIn span d → ¬ DoCross a b c d
apart_uncrossed span a b c d apart p q h =
    let back = DoCross-exchanged a b c d h in
    elim apart [
      | inl (u, v) ↦ left_uncrossed a b c d (omega (arith, ints)) (omega (arith, ints)) (omega (arith, ints)) (omega (arith, ints)) h
      | inr other ↦ elim other [
        | inl (u, v) ↦ left_uncrossed c d a b (omega (arith, ints)) (omega (arith, ints)) (omega (arith, ints)) (omega (arith, ints)) back
        | inr other ↦ elim other [
          | inl (u, v) ↦ low_uncrossed a b c d (omega (arith, ints)) (omega (arith, ints)) (omega (arith, ints)) (omega (arith, ints)) h
          | inr (u, v) ↦ low_uncrossed c d a b (omega (arith, ints)) (omega (arith, ints)) (omega (arith, ints)) (omega (arith, ints)) back
        ]
      ]
    ]

within_either : (c : Bool) (n a b : ℤ) → IsWithin n a → IsWithin n b → IsWithin n (cond c a b)
within_either true n a b x y = x
within_either false n a b x y = y

-- the lesser and the greater of two numbers within a range
pub within-min : (n a b : ℤ) → IsWithin n a → IsWithin n b → IsWithin n (int_min a b)
within-min n a b x y = within_either _ n b a y x

pub within-max : (n a b : ℤ) → IsWithin n a → IsWithin n b → IsWithin n (int_max a b)
within-max n a b x y = within_either _ n a b x y

-- how an area changes with its last point
area_from : (p q k u : Point) → area p q u -ℤ area p q k ≡ ((q.x -ℤ p.x) *ℤ (u.y -ℤ k.y)) -ℤ ((u.x -ℤ k.x) *ℤ (q.y -ℤ p.y))
area_from p q k u = simp ring (omega (arith, sums))

grows : (d e f g : ℤ) → pos 0 ≤ℤ (d *ℤ e) → (f *ℤ g) ≤ℤ pos 0 → pos 0 ≤ℤ ((d *ℤ e) -ℤ (f *ℤ g))
grows d e f g up down = omega (arith, ints)

grown : (a b c : ℤ) → b -ℤ a ≡ c → pos 0 ≤ℤ c → a ≤ℤ b
grown a b c e h = omega (arith, ints, e)

-- a point that is higher where the way leads to the right, or lower where it leads back, and more to the left where it leads up, or more to the right where it leads down, is no less to the left of the way
pub area-le : (p q k u : Point) → ((p.x ≤ℤ q.x) × (k.y ≤ℤ u.y)) ⊎ ((q.x ≤ℤ p.x) × (u.y ≤ℤ k.y)) → ((p.y ≤ℤ q.y) × (u.x ≤ℤ k.x)) ⊎ ((q.y ≤ℤ p.y) × (k.x ≤ℤ u.x)) → area p q k ≤ℤ area p q u
area-le p q k u over beside =
    grown (area p q k) (area p q u) (((q.x -ℤ p.x) *ℤ (u.y -ℤ k.y)) -ℤ ((u.x -ℤ k.x) *ℤ (q.y -ℤ p.y))) (area_from p q k u)
    (grows (q.x -ℤ p.x) (u.y -ℤ k.y) (u.x -ℤ k.x) (q.y -ℤ p.y)
    (elim over [
      | inl h ↦ (let a = h.0 in let b = h.1 in (product_signs (q.x -ℤ p.x) (u.y -ℤ k.y)).both_up (omega (arith, ints)) (omega (arith, ints)))
      | inr h ↦ (let a = h.0 in let b = h.1 in (product_signs (q.x -ℤ p.x) (u.y -ℤ k.y)).both_down (omega (arith, ints)) (omega (arith, ints)))
    ])
    (elim beside [
      | inl h ↦ (let a = h.0 in let b = h.1 in (product_signs (u.x -ℤ k.x) (q.y -ℤ p.y)).down_up (omega (arith, ints)) (omega (arith, ints)))
      | inr h ↦ (let a = h.0 in let b = h.1 in (product_signs (u.x -ℤ k.x) (q.y -ℤ p.y)).up_down (omega (arith, ints)) (omega (arith, ints)))
    ]))

pub not_opposite_up : (s t : ℤ) → pos 0 ≤ℤ s → pos 0 ≤ℤ t → ¬ AreOpposite s t
not_opposite_up s t a b (inl h) = let k = h.0 in omega (arith, ints)
not_opposite_up s t a b (inr h) = let k = h.1 in omega (arith, ints)

pub not_opposite_down : (s t : ℤ) → s ≤ℤ pos 0 → t ≤ℤ pos 0 → ¬ AreOpposite s t
not_opposite_down s t a b (inl h) = let k = h.1 in omega (arith, ints)
not_opposite_down s t a b (inr h) = let k = h.0 in omega (arith, ints)

-- Neither the box nor the point is to the right of the segment's line.
pub past_missed : (span : BoundingBox) (r p q : Point) → pos 0 ≤ℤ area p q r → IsLeftOf span p q → MissesStar span r p q
past_missed span r p q point box u inside h = not_opposite_up (area p q r) (area p q u) point (box u inside) h.ends_of_second

-- Seen from r both ends are to the left of the box.
pub left_missed : (span : BoundingBox) (r p q : Point) → IsLeftOf span p r → IsLeftOf span q r → MissesStar span r p q
left_missed span r p q first second u inside h =
    not_opposite_up (area r u p) (area r u q) (subst (λ a. pos 0 ≤ℤ a) (sym (area_turned p r u)) (first u inside)) (subst (λ a. pos 0 ≤ℤ a) (sym (area_turned q r u)) (second u inside)) h.ends_of_first

-- no more to the left seen from the other end
pub turned_down : (r p u : Point) → pos 0 ≤ℤ area r p u → area r u p ≤ℤ pos 0
turned_down r p u h = let back = area_back p r u in let turn = area_turned p r u in omega (arith, ints, back, turn)

-- Seen from r both ends are to the right of the box.
pub right_missed : (span : BoundingBox) (r p q : Point) → IsLeftOf span r p → IsLeftOf span r q → MissesStar span r p q
right_missed span r p q first second u inside h =
    not_opposite_down (area r u p) (area r u q) (turned_down r p u (first u inside)) (turned_down r q u (second u inside)) h.ends_of_first

-- the segment the other way round
pub missed_back : (span : BoundingBox) (r p q : Point) → MissesStar span r q p → MissesStar span r p q
missed_back span r p q missed u inside h = missed u inside (DoCross-first_back p q r u h)

-- Seen from r the point is to the right of the box.
right_off : (span : BoundingBox) (r p : Point) → ((u : Point) → IsIn span u → pos 0 <ℤ area r p u) → MissesFan span r p
right_off span r p box u inside on = let up = box u inside in let line = on.on_line in let back = area_back p r u in let turn = area_turned p r u in omega (arith, ints, back, turn)

-- Seen from r the point is to the left of the box.
left_off : (span : BoundingBox) (r p : Point) → ((u : Point) → IsIn span u → pos 0 <ℤ area p r u) → MissesFan span r p
left_off span r p box u inside on = let up = box u inside in let line = on.on_line in let turn = area_turned p r u in omega (arith, ints, turn)

-- a point in a box that reaches from one corner of another to the opposite one
pub in_joined : (span other : BoundingBox) (low high u : Point) → low.x ≡ other.left → low.y ≡ other.bottom → high.x ≡ other.right → high.y ≡ other.top → IsIn span low → IsIn span high → IsIn other u → IsIn span u
in_joined span other low high u left bottom right top first last inside = grind (arith, ints)

-- the corners of a box
pub record AreCorners (span : BoundingBox) (low_left low_right high_left high_right : Point) : Type 0 where
  pub low_left_x : low_left.x ≡ span.left
  pub low_left_y : low_left.y ≡ span.bottom
  pub low_right_x : low_right.x ≡ span.right
  pub low_right_y : low_right.y ≡ span.bottom
  pub high_left_x : high_left.x ≡ span.left
  pub high_left_y : high_left.y ≡ span.top
  pub high_right_x : high_right.x ≡ span.right
  pub high_right_y : high_right.y ≡ span.top

-- what is to the left of a way by four corners is so by any point of their box
pub corners_left : (span : BoundingBox) (a b c d : Point) (r u : Point) → AreCorners span a b c d → pos 0 <ℤ area r u a → pos 0 <ℤ area r u b → pos 0 <ℤ area r u c → pos 0 <ℤ area r u d → (p : Point) → IsIn span p → pos 0 <ℤ area r u p
corners_left span a b c d r u at la lb lc ld p inside =
    let after : (k : Point) → pos 0 <ℤ area r u k → area r u k ≤ℤ area r u p → pos 0 <ℤ area r u p = λ k here more. omega (arith, ints, here, more) in
    elim (or_less r.x u.x) [
      | inl over ↦ elim (or_less r.y u.y) [
        | inl up ↦ after b lb (area-le r u b p (inl (over, omega (arith, ints, at.low_right_y))) (inl (up, omega (arith, ints, at.low_right_x))))
        | inr down ↦ after a la (area-le r u a p (inl (over, omega (arith, ints, at.low_left_y))) (inr (down, omega (arith, ints, at.low_left_x))))
      ]
      | inr back ↦ elim (or_less r.y u.y) [
        | inl up ↦ after d ld (area-le r u d p (inr (back, omega (arith, ints, at.high_right_y))) (inl (up, omega (arith, ints, at.high_right_x))))
        | inr down ↦ after c lc (area-le r u c p (inr (back, omega (arith, ints, at.high_left_y))) (inr (down, omega (arith, ints, at.high_left_x))))
      ]
    ]

-- so of ways from r to points of a box
ways_left : (span other : BoundingBox) (a b c d : Point) (r : Point) → AreCorners other a b c d → IsStrictlyLeftOf span r a → IsStrictlyLeftOf span r b → IsStrictlyLeftOf span r c → IsStrictlyLeftOf span r d → (p : Point) → IsIn other p → IsStrictlyLeftOf span r p
ways_left span other a b c d r at la lb lc ld p inside u held =
    let turn : (k : Point) → pos 0 <ℤ area r k u → pos 0 <ℤ area u r k = λ k h. subst (λ z. pos 0 <ℤ z) (area_turned u r k) h in
    subst (λ z. pos 0 <ℤ z) (sym (area_turned u r p)) (corners_left other a b c d u r at (turn a (la u held)) (turn b (lb u held)) (turn c (lc u held)) (turn d (ld u held)) p inside)

-- and of ways to r
ways_left_back : (span other : BoundingBox) (a b c d : Point) (r : Point) → AreCorners other a b c d → IsStrictlyLeftOf span a r → IsStrictlyLeftOf span b r → IsStrictlyLeftOf span c r → IsStrictlyLeftOf span d r → (p : Point) → IsIn other p → IsStrictlyLeftOf span p r
ways_left_back span other a b c d r at la lb lc ld p inside u held =
    let turn : (k : Point) → pos 0 <ℤ area k r u → pos 0 <ℤ area r u k = λ k h. subst (λ z. pos 0 <ℤ z) (sym (area_turned k r u)) h in
    subst (λ z. pos 0 <ℤ z) (area_turned p r u) (corners_left other a b c d r u at (turn a (la u held)) (turn b (lb u held)) (turn c (lc u held)) (turn d (ld u held)) p inside)

-- what is to the left of a way is not to its right
not_right : (span : BoundingBox) (p q : Point) → IsStrictlyLeftOf span p q → IsLeftOf span p q
not_right span p q left u inside = let h = left u inside in omega (arith, ints)

-- a point on one side of a box that holds both ends is on no segment between them
apart_off : (s t v l h : ℤ) → l ≤ℤ s → s ≤ℤ h → l ≤ℤ t → t ≤ℤ h → IsBetween s t v → (v <ℤ l) ⊎ (h <ℤ v) → ⊥
apart_off s t v l h ls sh lt th between out =
    elim out [ inl x ↦ omega (arith, ints) | inr x ↦ omega (arith, ints) ]

-- a point on one side of a box is on no segment in it
pub apart_missed : (span : BoundingBox) (r u p : Point) → IsIn span r → IsIn span u → IsApart span p p → ¬ IsOnSegment p r u
apart_missed span r u p here there apart on = elim apart [
  | inl (x, y) ↦ apart_off r.x u.x p.x span.left span.right here.left here.right there.left there.right on.between_x (inl x)
  | inr other ↦ elim other [
    | inl (x, y) ↦ apart_off r.x u.x p.x span.left span.right here.left here.right there.left there.right on.between_x (inr x)
    | inr other ↦ elim other [
      | inl (x, y) ↦ apart_off r.y u.y p.y span.bottom span.top here.bottom here.top there.bottom there.top on.between_y (inl x)
      | inr (x, y) ↦ apart_off r.y u.y p.y span.bottom span.top here.bottom here.top there.bottom there.top on.between_y (inr x)
    ]
  ]
]

-- between two numbers on one side of a third there are none on the other
between_off : (s t v l : ℤ) → (s <ℤ l) × (t <ℤ l) → IsBetween s t v → l ≤ℤ v → ⊥
between_off s t v l (a, b) (inl (x, y)) h = omega (arith, ints)
between_off s t v l (a, b) (inr (x, y)) h = omega (arith, ints)

between_off_above : (s t v h : ℤ) → (h <ℤ s) × (h <ℤ t) → IsBetween s t v → v ≤ℤ h → ⊥
between_off_above s t v h (a, b) (inl (x, y)) l = omega (arith, ints)
between_off_above s t v h (a, b) (inr (x, y)) l = omega (arith, ints)

-- no point of a box is on a segment on one side of it
pub apart_segment : (span : BoundingBox) (p q u : Point) → IsApart span p q → IsIn span u → ¬ IsOnSegment u p q
apart_segment span p q u apart inside on = elim apart [
  | inl left ↦ between_off p.x q.x u.x span.left left on.between_x inside.left
  | inr other ↦ elim other [
    | inl right ↦ between_off_above p.x q.x u.x span.right right on.between_x inside.right
    | inr other ↦ elim other [
      | inl low ↦ between_off p.y q.y u.y span.bottom low on.between_y inside.bottom
      | inr high ↦ between_off_above p.y q.y u.y span.top high on.between_y inside.top
    ]
  ]
]

-- no point to the left of a way is on it, in either direction
pub left_segment : (span : BoundingBox) (p q u : Point) → IsStrictlyLeftOf span p q → IsIn span u → ¬ IsOnSegment u p q
left_segment span p q u left inside on = let up = left u inside in let line = on.on_line in omega (arith, ints)

pub right_segment : (span : BoundingBox) (p q u : Point) → IsStrictlyLeftOf span q p → IsIn span u → ¬ IsOnSegment u p q
right_segment span p q u left inside on = left_segment span q p u left inside (IsOnSegment-back u p q on)

-- Seen from r all corners of a box are on one side of another: no segment in the box crosses one from r into the other, and no point of it is on one.
pub ways_missed : (span other : BoundingBox) (a b c d : Point) (r : Point) → AreCorners other a b c d → IsStrictlyLeftOf span r a → IsStrictlyLeftOf span r b → IsStrictlyLeftOf span r c → IsStrictlyLeftOf span r d → ((p q : Point) → IsIn other p → IsIn other q → MissesStar span r p q) × ((p : Point) → IsIn other p → MissesFan span r p)
ways_missed span other a b c d r at la lb lc ld =
    let left = ways_left span other a b c d r at la lb lc ld in
    ((λ p q first second. right_missed span r p q (not_right span r p (left p first)) (not_right span r q (left q second))), λ p first. right_off span r p (left p first))

pub ways_missed_back : (span other : BoundingBox) (a b c d : Point) (r : Point) → AreCorners other a b c d → IsStrictlyLeftOf span a r → IsStrictlyLeftOf span b r → IsStrictlyLeftOf span c r → IsStrictlyLeftOf span d r → ((p q : Point) → IsIn other p → IsIn other q → MissesStar span r p q) × ((p : Point) → IsIn other p → MissesFan span r p)
ways_missed_back span other a b c d r at la lb lc ld =
    let left = ways_left_back span other a b c d r at la lb lc ld in
    ((λ p q first second. left_missed span r p q (not_right span p r (left p first)) (not_right span q r (left q second))), λ p first. left_off span r p (left p first))
