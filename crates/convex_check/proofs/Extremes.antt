-- The first and the last of points on a triangle are corners.
use Rattle.std.proofs.Common.{◌≡◌, ◌≢◌, ◌⊎◌, pos, ◌<ℤ◌, List, Contains, sym, ap, ◌∙◌, subst, inl, inr, arith}
use Rattle.std.proofs.lemmas.Int.{ints, by_lt_z}
use Rattle.pg_plane.specs.declared.grid_points.Point.{Point}
use Rattle.pg_plane.specs.Geometry.{area, IsOnSegment}
use Rattle.pg_plane.proofs.Identities.{area_turned}
use Rattle.pg_plane.proofs.Crossing.{flat_first, area_back}
use Rattle.pg_plane.proofs.Near.{same_point}
use Rattle.pg_plane.proofs.Segments.{IsOnSegment-back}
use Rattle.plane_drawings.specs.PlaneSweepLines.{IsBefore}
use Rattle.plane_drawings.proofs.Areas.{early_off, late_off}
use Rattle.drawings.specs.Corners.{IsOnTriangle, AreCorners, HasCorners}

-- one of two points comes before the other, or they are one
pub cases_before : (p q : Point) → IsBefore p q ⊎ ((p ≡ q) ⊎ IsBefore q p)
cases_before p q = grind (arith, by_lt_z, ints, same_point)

-- the one point of a segment from a point to itself
on_point : (p a : Point) → IsOnSegment p a a → p ≡ a
on_point p a on =
    let x : p.x ≡ a.x = elim on.between_x [ inl h ↦ (let l = h.0 in let m = h.1 in omega (arith, ints)) | inr h ↦ (let l = h.0 in let m = h.1 in omega (arith, ints)) ] in
    let y : p.y ≡ a.y = elim on.between_y [ inl h ↦ (let l = h.0 in let m = h.1 in omega (arith, ints)) | inr h ↦ (let l = h.0 in let m = h.1 in omega (arith, ints)) ] in
    same_point p a x y

-- a point of a segment that no end comes before is an end
first_on : (p a b : Point) → IsOnSegment p a b → ¬ IsBefore a p → ¬ IsBefore b p → (p ≡ a) ⊎ (p ≡ b)
first_on p a b on not_a not_b =
    elim (cases_before a b) [
      | inl l ↦ elim (cases_before p a) [
        | inl m ↦ absurd (early_off p a b m l on)
        | inr h ↦ elim h [ inl e ↦ inl e | inr m ↦ absurd (not_a m) ]
      ]
      | inr h ↦ elim h [
        | inl e ↦ inl (on_point p a (subst (IsOnSegment p a) (sym e) on))
        | inr l ↦ elim (cases_before p b) [
          | inl m ↦ absurd (early_off p b a m l (IsOnSegment-back p a b on))
          | inr h' ↦ elim h' [ inl e ↦ inr e | inr m ↦ absurd (not_b m) ]
        ]
      ]
    ]

-- and so is one that comes before no end
last_on : (p a b : Point) → IsOnSegment p a b → ¬ IsBefore p a → ¬ IsBefore p b → (p ≡ a) ⊎ (p ≡ b)
last_on p a b on not_a not_b =
    elim (cases_before a b) [
      | inl l ↦ elim (cases_before b p) [
        | inl m ↦ absurd (late_off p a b l m on)
        | inr h ↦ elim h [ inl e ↦ inr (sym e) | inr m ↦ absurd (not_b m) ]
      ]
      | inr h ↦ elim h [
        | inl e ↦ inl (on_point p a (subst (IsOnSegment p a) (sym e) on))
        | inr l ↦ elim (cases_before a p) [
          | inl m ↦ absurd (late_off p b a l m (IsOnSegment-back p a b on))
          | inr h' ↦ elim h' [ inl e ↦ inl (sym e) | inr m ↦ absurd (not_a m) ]
        ]
      ]
    ]

-- ---- corners in another order
IsOnTriangle-turned : (p a b c : Point) → IsOnTriangle p a b c → IsOnTriangle p b c a
IsOnTriangle-turned p a b c (inl h) = inr (inr h)
IsOnTriangle-turned p a b c (inr (inl h)) = inl h
IsOnTriangle-turned p a b c (inr (inr h)) = inr (inl h)

IsOnTriangle-back : (p a b c : Point) → IsOnTriangle p a b c → IsOnTriangle p b a c
IsOnTriangle-back p a b c (inl h) = inl (IsOnSegment-back p a b h)
IsOnTriangle-back p a b c (inr (inl h)) = inr (inr (IsOnSegment-back p b c h))
IsOnTriangle-back p a b c (inr (inr h)) = inr (inl (IsOnSegment-back p c a h))

-- corners counterclockwise
pub record AreLeftCorners (points : List Point) (a b c : Point) : Type 0 where
  pub corners : AreCorners points a b c
  pub left : pos 0 <ℤ area a b c

AreLeftCorners-turned : (points : List Point) (a b c : Point) → AreLeftCorners points a b c → AreLeftCorners points b c a
AreLeftCorners-turned points a b c h =
    let k = h.corners in
    let e = area_turned a b c in
    record {
      corners = record { first = k.second; second = k.third; third = k.first; apart = λ z. k.apart (sym e ∙ z); all = λ p on. IsOnTriangle-turned p a b c (k.all p on) };
      left = subst (λ z. pos 0 <ℤ z) (sym e) h.left;
    }

left_corners : (points : List Point) (a b c : Point) → AreCorners points a b c → AreLeftCorners points a b c ⊎ AreLeftCorners points b a c
left_corners points a b c h =
    by_lt_z (pos 0) (area a b c) (λ l. inl (record { corners = h; left = l })) (λ l.
    let e = area_back a b c in
    by_lt_z (area a b c) (pos 0)
    (λ m. inr (record {
      corners = record { first = h.second; second = h.first; third = h.third; apart = λ z. h.apart (omega (arith, ints)); all = λ p on. IsOnTriangle-back p a b c (h.all p on) };
      left = omega (arith, ints);
    }))
    (λ m. absurd (h.apart (omega (arith, ints)))))

-- ---- the ends
module _ (points : List Point) (p q : Point) (on_p : Contains points p) (on_q : Contains points q) (first : (r : Point) → Contains points r → ¬ IsBefore r p) (last : (r : Point) → Contains points r → ¬ IsBefore q r) where
  module _ (a b c : Point) (h : AreLeftCorners points a b c) where
    abbrev k : AreCorners points a b c
    k = h.corners

    first_is : (p ≡ a) ⊎ ((p ≡ b) ⊎ (p ≡ c))
    first_is =
        elim (k.all p on_p) [
          | inl on ↦ elim (first_on p a b on (first a k.first) (first b k.second)) [ inl e ↦ inl e | inr e ↦ inr (inl e) ]
          | inr on ↦ elim on [
            | inl on' ↦ elim (first_on p b c on' (first b k.second) (first c k.third)) [ inl e ↦ inr (inl e) | inr e ↦ inr (inr e) ]
            | inr on' ↦ elim (first_on p c a on' (first c k.third) (first a k.first)) [ inl e ↦ inr (inr e) | inr e ↦ inl e ]
          ]
        ]

    last_is : (q ≡ a) ⊎ ((q ≡ b) ⊎ (q ≡ c))
    last_is =
        elim (k.all q on_q) [
          | inl on ↦ elim (last_on q a b on (last a k.first) (last b k.second)) [ inl e ↦ inl e | inr e ↦ inr (inl e) ]
          | inr on ↦ elim on [
            | inl on' ↦ elim (last_on q b c on' (last b k.second) (last c k.third)) [ inl e ↦ inr (inl e) | inr e ↦ inr (inr e) ]
            | inr on' ↦ elim (last_on q c a on' (last c k.third) (last a k.first)) [ inl e ↦ inr (inr e) | inr e ↦ inl e ]
          ]
        ]

  -- corners that begin with the first point
  from_first : (a b c : Point) → AreLeftCorners points a b c → (s : Point) × (t : Point) × AreLeftCorners points p s t
  from_first a b c h =
      elim (first_is a b c h) [
        | inl e ↦ (b, c, subst (λ z. AreLeftCorners points z b c) (sym e) h)
        | inr o ↦
            let turned = AreLeftCorners-turned points a b c h in
            elim o [
              | inl e ↦ (c, a, subst (λ z. AreLeftCorners points z c a) (sym e) turned)
              | inr e ↦ (a, b, subst (λ z. AreLeftCorners points z a b) (sym e) (AreLeftCorners-turned points b c a turned))
            ]
      ]

  -- the first is not the last
  not_one : (s t : Point) → AreLeftCorners points p s t → q ≢ p
  not_one s t h e =
      let same : s ≡ p = elim (cases_before s p) [
        | inl l ↦ absurd (first s h.corners.second l)
        | inr o ↦ elim o [ inl f ↦ f | inr l ↦ absurd (last s h.corners.second (subst (λ z. IsBefore z s) (sym e) l)) ]
      ] in
      h.corners.apart (ap (λ z. area p z t) same ∙ flat_first p t)

  -- So the two are corners, in the one order or the other.
  pub ends_are_corners : HasCorners points → ((c : Point) × AreLeftCorners points p q c) ⊎ ((c : Point) × AreLeftCorners points q p c)
  ends_are_corners found =
      elim (left_corners points found.0 found.1 found.2 found.3) [
        | inl h ↦ from_corners (from_first found.0 found.1 found.2 h)
        | inr h ↦ from_corners (from_first found.1 found.0 found.2 h)
      ]
    where
      from_corners : (s : Point) × (t : Point) × AreLeftCorners points p s t → ((c : Point) × AreLeftCorners points p q c) ⊎ ((c : Point) × AreLeftCorners points q p c)
      from_corners h =
          let s = h.0 in
          let t = h.1 in
          elim (last_is p s t h.2) [
            | inl e ↦ absurd (not_one s t h.2 e)
            | inr o ↦ elim o [
              | inl e ↦ inl (t, subst (λ z. AreLeftCorners points p z t) (sym e) h.2)
              | inr e ↦ inr (s, subst (λ z. AreLeftCorners points z p s) (sym e) (AreLeftCorners-turned points s t p (AreLeftCorners-turned points p s t h.2)))
            ]
          ]
