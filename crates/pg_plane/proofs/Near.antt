-- Places near a point of an edge, in the drawing made larger: on the left of the edge they are held by its left face.
use Rattle.std.proofs.Common.{◌≡◌, ℕ, ◌+◌, ◌*◌, ◌<◌, ◌≤◌, ℤ, pos, negsuc, neg_ℤ, ◌-ℤ◌, ◌+ℤ◌, ◌*ℤ◌, ◌<ℤ◌, ap, ap₂, ◌∙◌, inl, arith}
use Rattle.std.proofs.lemmas.Int.{ints}
use Rattle.std.specs.Int.RustNames.{unsigned_abs}
use Rattle.std.proofs.lemmas.Nat.{mul-le}
use Rattle.pg_plane.specs.declared.grid_points.Point.{Point}
use Rattle.pg_plane.specs.Geometry.{vector, cross, area}
use Rattle.pg_plane.specs.Faced.{IsFaced, in_base}
use Rattle.pg_plane.proofs.Identities.{cross_back}
use Rattle.pg_plane.proofs.Ring.{sums, ring, product_positive, product_signs}
use Rattle.std.specs.Prelude.{◌⊎◌, true, false}

-- j is one of the three darts of the face of i
abbrev pub IsOnFace : (ℕ → ℕ) → ℕ → ℕ → Type 0
IsOnFace step i j = (j ≡ i) ⊎ ((j ≡ step i) ⊎ (j ≡ step (step i)))

-- The place p is held by the face of the dart i: strictly inside its triangle, or for the face of the base strictly to the left of one of its sides.
pub record IsHeld (step : ℕ → ℕ) (at : ℕ → Point) (base : ℕ) (p : Point) (i : ℕ) : Type 0 where
  pub inner : in_base step base i ≡ false → (pos 0 <ℤ area p (at i) (at (step i))) × (pos 0 <ℤ area p (at (step i)) (at (step (step i)))) × (pos 0 <ℤ area p (at (step (step i))) (at i))
  pub outer : in_base step base i ≡ true → (pos 0 <ℤ area p (at i) (at (step i))) ⊎ ((pos 0 <ℤ area p (at (step i)) (at (step (step i)))) ⊎ (pos 0 <ℤ area p (at (step (step i))) (at i)))

-- no edge is level
abbrev pub NoneLevel : ℕ → (ℕ → ℕ) → (ℕ → Point) → Type 0
NoneLevel k step at = (i : ℕ) → i < k → (at (step i)).y ≡ (at i).y → ⊥

-- a point, or a vector, made larger
abbrev pub scaled : ℤ → Point → Point
scaled n a = record { x = n *ℤ a.x; y = n *ℤ a.y }

-- a point moved by a vector
abbrev pub moved : Point → Point → Point
moved a v = record { x = a.x +ℤ v.x; y = a.y +ℤ v.y }

pub area_scaled : (n : ℤ) (a b c : Point) → area (scaled n a) (scaled n b) (scaled n c) ≡ n *ℤ (n *ℤ area a b c)
area_scaled n a b c = simp ring (omega (arith, sums))

-- the drawing made larger has the same faces
pub IsFaced-scaled : (k : ℕ) (twin step : ℕ → ℕ) (at : ℕ → Point) (base : ℕ) (n : ℤ) → pos 0 <ℤ n → IsFaced k twin step at base → IsFaced k twin step (λ i. scaled n (at i)) base
IsFaced-scaled k twin step at base n positive d = record {
  twins = d.twins;
  steps = d.steps;
  back = d.back;
  thrice = d.thrice;
  head = λ i l. ap (scaled n) (d.head i l);
  base_in = d.base_in;
  inner = λ i l e. rw area_scaled (product_positive n (n *ℤ area (at i) (at (step i)) (at (step (step i)))) positive (product_positive n (area (at i) (at (step i)) (at (step (step i)))) positive (d.inner i l e)));
  outer = rw area_scaled ((product_signs n (n *ℤ area (at base) (at (step base)) (at (step (step base))))).above_below positive ((product_signs n (area (at base) (at (step base)) (at (step (step base))))).above_below positive d.outer));
}

-- a multiple wins over a constant
pub large : (c s : ℤ) (n : ℕ) → unsigned_abs c < n → pos 0 <ℤ s → pos 0 <ℤ ((pos n *ℤ s) -ℤ c)
large c (pos s) n l p =
    omega (arith, mul-le n 1 n s (omega arith) (omega (arith, ints)), ints)
large c (negsuc s) n l p = absurd (omega (arith, ints))

-- a multiple of u less v
abbrev pub less : ℤ → Point → Point → Point
less m u v = record { x = (m *ℤ u.x) -ℤ v.x; y = (m *ℤ u.y) -ℤ v.y }

abbrev pub point : ℤ → ℤ → Point
point x y = record { x = x; y = y }

pub same_point : (p q : Point) → p.x ≡ q.x → p.y ≡ q.y → p ≡ q
same_point p q e f = ap₂ (λ (x y : ℤ). point x y) e f

pub cross_less : (m n : ℤ) (u v : Point) → cross (less m u v) (less n u v) ≡ (n -ℤ m) *ℤ cross u v
cross_less m n u v = simp ring (omega (arith, sums))

pub cross_less_two : (m n : ℤ) (u y v : Point) → cross (less m u v) (less n y v) ≡ ((m *ℤ n) *ℤ cross u y) -ℤ ((m *ℤ cross u v) +ℤ (n *ℤ cross v y))
cross_less_two m n u y v = simp ring (omega (arith, sums))

scale_parts : (K s t z : ℤ) → ((K *ℤ s) -ℤ neg_ℤ (K *ℤ t)) *ℤ z ≡ K *ℤ ((s +ℤ t) *ℤ z)
scale_parts K s t z = simp ring (omega (arith, sums))

second_parts : (K s g x z : ℤ) → (((K *ℤ s) *ℤ K) *ℤ g) -ℤ (((K *ℤ s) *ℤ x) +ℤ (K *ℤ z)) ≡ K *ℤ ((K *ℤ (s *ℤ g)) -ℤ ((s *ℤ x) +ℤ z))
second_parts K s g x z = simp ring (omega (arith, sums))

third_parts : (K t g x z : ℤ) → ((K *ℤ neg_ℤ (K *ℤ t)) *ℤ neg_ℤ g) -ℤ ((K *ℤ x) +ℤ (neg_ℤ (K *ℤ t) *ℤ z)) ≡ K *ℤ ((K *ℤ (t *ℤ g)) -ℤ (x -ℤ (t *ℤ z)))
third_parts K t g x z = simp ring (omega (arith, sums))

module _ (a b c v : Point) (s t K : ℤ) where
  abbrev X : Point
  X = moved (scaled s a) (scaled t b)

  abbrev W : ℤ
  W = s +ℤ t

  abbrev P : Point
  P = moved (scaled K X) v

  abbrev y : Point
  y = vector X (scaled W c)

  to_first : vector P (scaled (K *ℤ W) a) ≡ less (neg_ℤ (K *ℤ t)) (vector a b) v
  to_first = same_point _ _ (simp ring (omega (arith, sums))) (simp ring (omega (arith, sums)))

  to_second : vector P (scaled (K *ℤ W) b) ≡ less (K *ℤ s) (vector a b) v
  to_second = same_point _ _ (simp ring (omega (arith, sums))) (simp ring (omega (arith, sums)))

  to_third : vector P (scaled (K *ℤ W) c) ≡ less K y v
  to_third = same_point _ _ (simp ring (omega (arith, sums))) (simp ring (omega (arith, sums)))

  cross_y : cross (vector a b) y ≡ W *ℤ area a b c
  cross_y = simp ring (omega (arith, sums))

  -- the three areas of the place with the sides, as multiples of K
  near_first : area P (scaled (K *ℤ W) a) (scaled (K *ℤ W) b) ≡ K *ℤ (W *ℤ cross (vector a b) v)
  near_first = ap₂ cross to_first to_second ∙ cross_less (neg_ℤ (K *ℤ t)) (K *ℤ s) (vector a b) v ∙ scale_parts K s t (cross (vector a b) v)

  near_second : area P (scaled (K *ℤ W) b) (scaled (K *ℤ W) c) ≡ K *ℤ ((K *ℤ (s *ℤ (W *ℤ area a b c))) -ℤ ((s *ℤ cross (vector a b) v) +ℤ cross v y))
  near_second =
      ap₂ cross to_second to_third ∙ cross_less_two (K *ℤ s) K (vector a b) y v
      ∙ ap (λ z. (((K *ℤ s) *ℤ K) *ℤ z) -ℤ (((K *ℤ s) *ℤ cross (vector a b) v) +ℤ (K *ℤ cross v y))) cross_y
      ∙ second_parts K s (W *ℤ area a b c) (cross (vector a b) v) (cross v y)

  near_third : area P (scaled (K *ℤ W) c) (scaled (K *ℤ W) a) ≡ K *ℤ ((K *ℤ (t *ℤ (W *ℤ area a b c))) -ℤ (cross y v -ℤ (t *ℤ cross v (vector a b))))
  near_third =
      ap₂ cross to_third to_first ∙ cross_less_two K (neg_ℤ (K *ℤ t)) y (vector a b) v
      ∙ ap (λ z. ((K *ℤ neg_ℤ (K *ℤ t)) *ℤ z) -ℤ ((K *ℤ cross y v) +ℤ (neg_ℤ (K *ℤ t) *ℤ cross v (vector a b)))) (cross_back (vector a b) y ∙ ap neg_ℤ cross_y)
      ∙ third_parts K t (W *ℤ area a b c) (cross y v) (cross v (vector a b))

-- Where v leads to the left of the edge of i, the places near X and towards v are held by the face of i.
pub near_held : (k : ℕ) (twin step : ℕ → ℕ) (at : ℕ → Point) (base : ℕ) → IsFaced k twin step at base → (i : ℕ) → i < k → (s t : ℤ) (v : Point) → pos 0 <ℤ s → pos 0 <ℤ t → pos 0 <ℤ cross (vector (at i) (at (step i))) v → (n : ℕ) × ((m : ℕ) → n < m → IsHeld step (λ j. scaled (pos m *ℤ (s +ℤ t)) (at j)) base (moved (scaled (pos m) (moved (scaled s (at i)) (scaled t (at (step i))))) v) i)
near_held k twin step at base d i l s t v ps pt left =
    let a = at i in
    let b = at (step i) in
    let c = at (step (step i)) in
    let w : pos 0 <ℤ (s +ℤ t) = omega (arith, ints) in
    let c2 = (s *ℤ cross (vector a b) v) +ℤ cross v (y a b c v s t (pos 0)) in
    let c3 = cross (y a b c v s t (pos 0)) v -ℤ (t *ℤ cross v (vector a b)) in (
      unsigned_abs c2 + unsigned_abs c3,
      λ m more.
          let K : pos 0 <ℤ pos m = omega (arith, ints) in
          let first : pos 0 <ℤ area (P a b c v s t (pos m)) (scaled (pos m *ℤ (s +ℤ t)) a) (scaled (pos m *ℤ (s +ℤ t)) b) =
          rw (near_first a b c v s t (pos m)) (product_positive (pos m) ((s +ℤ t) *ℤ cross (vector a b) v) K (product_positive (s +ℤ t) (cross (vector a b) v) w left)) in
          record {
            inner = λ e.
                let g = product_positive (s +ℤ t) (area a b c) w (d.inner i l e) in (
                  first,
                  rw (near_second a b c v s t (pos m)) (product_positive (pos m) ((pos m *ℤ (s *ℤ ((s +ℤ t) *ℤ area a b c))) -ℤ c2) K (large c2 (s *ℤ ((s +ℤ t) *ℤ area a b c)) m (omega arith) (product_positive s ((s +ℤ t) *ℤ area a b c) ps g))),
                  rw (near_third a b c v s t (pos m)) (product_positive (pos m) ((pos m *ℤ (t *ℤ ((s +ℤ t) *ℤ area a b c))) -ℤ c3) K (large c3 (t *ℤ ((s +ℤ t) *ℤ area a b c)) m (omega arith) (product_positive t ((s +ℤ t) *ℤ area a b c) pt g))),
                );
            outer = λ e. inl first;
          },
    )
