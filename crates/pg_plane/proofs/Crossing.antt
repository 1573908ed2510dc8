-- No two edges cross: where they did, the left face of the one would be the left face of the other and the right face of the first.
use Rattle.std.proofs.Common.{◌≡◌, ℕ, ◌+◌, ◌<◌, ℤ, pos, neg_ℤ, ◌-ℤ◌, ◌+ℤ◌, ◌*ℤ◌, ◌<ℤ◌, sym, ap, ap₂, subst, ◌∙◌, inl, inr, arith}
use Rattle.std.proofs.lemmas.Int.{ints}
use Rattle.std.proofs.lemmas.Bool.{cases_Bool}
use Rattle.pg_plane.specs.declared.grid_points.Point.{Point}
use Rattle.pg_plane.specs.Geometry.{vector, cross, area, DoCross}
use Rattle.pg_plane.specs.Faced.{in_base, IsFaced}
use Rattle.pg_plane.proofs.Faces.{face_back, face_then}
use Rattle.pg_plane.proofs.Ring.{sums, ring, product_positive}
use Rattle.pg_plane.proofs.Clash.{no_clash, base_area}
use Rattle.pg_plane.proofs.Near.{scaled, moved, same_point, IsFaced-scaled, near_held, IsOnFace, IsHeld}

-- the crossing of two segments, by the one and by the other
abbrev on_first : Point → Point → Point → Point → Point
on_first a b c d = moved (scaled (area c d b) a) (scaled (neg_ℤ (area c d a)) b)

abbrev on_second : Point → Point → Point → Point → Point
on_second a b c d = moved (scaled (neg_ℤ (area a b d)) c) (scaled (area a b c) d)

pub one_crossing : (a b c d : Point) → on_first a b c d ≡ on_second a b c d
one_crossing a b c d = same_point (on_first a b c d) (on_second a b c d) (simp ring (omega (arith, sums))) (simp ring (omega (arith, sums)))

pub one_weight : (a b c d : Point) → area c d b +ℤ neg_ℤ (area c d a) ≡ neg_ℤ (area a b d) +ℤ area a b c
one_weight a b c d = simp ring (omega (arith, sums))

pub flat_last : (a b : Point) → area a b b ≡ pos 0
flat_last a b = simp ring (omega (arith, sums))

pub flat_ends : (a b : Point) → area a b a ≡ pos 0
flat_ends a b = simp ring (omega (arith, sums))

pub flat_first : (a c : Point) → area a a c ≡ pos 0
flat_first a c = simp ring (omega (arith, sums))

module _ (k : ℕ) (twin step : ℕ → ℕ) (at : ℕ → Point) (base : ℕ) (d : IsFaced k twin step at base) where
  -- a face has an area
  pub some_area : (i : ℕ) → i < k → area (at i) (at (step i)) (at (step (step i))) ≡ pos 0 → ⊥
  some_area i l e =
      elim (cases_Bool (in_base step base i)) [
        | inl b ↦ (let n = base_area k twin step at base d (at i) i b in omega (arith, ints))
        | inr b ↦ (let n = d.inner i l b in omega (arith, ints))
      ]

  -- the twin leads back
  pub twin_place : (i : ℕ) → i < k → at (twin i) ≡ at (step i)
  twin_place i l = sym (d.head i l)

  pub twin_head : (i : ℕ) → i < k → at (step (twin i)) ≡ at i
  twin_head i l = d.head (twin i) (d.twins.within i l) ∙ ap at (d.back i l)

  -- the two faces of an edge differ
  pub twin_apart : (i : ℕ) → i < k → IsOnFace step i (twin i) → ⊥
  twin_apart i l (inl e) = some_area i l (ap (λ x. area (at i) x (at (step (step i)))) (d.head i l ∙ ap at e) ∙ flat_first (at i) (at (step (step i))))
  twin_apart i l (inr (inl e)) = some_area i l (ap (λ x. area (at i) (at (step i)) x) (sym (ap (λ x. at (step x)) e) ∙ twin_head i l) ∙ flat_ends (at i) (at (step i)))
  twin_apart i l (inr (inr e)) = some_area i l (ap (λ x. area (at i) (at (step i)) x) (sym (ap at e) ∙ twin_place i l) ∙ flat_last (at i) (at (step i)))

  -- the places near an edge of i, by its twin
  pub near_right : (i : ℕ) → i < k → (s t : ℤ) (v : Point) → pos 0 <ℤ s → pos 0 <ℤ t → pos 0 <ℤ cross (vector (at (step i)) (at i)) v → (n : ℕ) × ((m : ℕ) → n < m → IsHeld step (λ j. scaled (pos m *ℤ (s +ℤ t)) (at j)) base (moved (scaled (pos m) (moved (scaled s (at i)) (scaled t (at (step i))))) v) (twin i))
  near_right i l s t v ps pt right =
      let place = twin_place i l in
      let head = twin_head i l in
      let h = near_held k twin step at base d (twin i) (d.twins.within i l) t s v pt ps (rw (place, head) right) in
      let w : t +ℤ s ≡ s +ℤ t = omega (arith, ints) in
      let x : moved (scaled t (at (twin i))) (scaled s (at (step (twin i)))) ≡ moved (scaled s (at i)) (scaled t (at (step i))) =
      ap₂ (λ p q. moved (scaled t p) (scaled s q)) place head ∙ same_point _ _ (omega (arith, sums)) (omega (arith, sums)) in (
        h.0,
        λ m more. subst (λ z. IsHeld step (λ j. scaled (pos m *ℤ z) (at j)) base (moved (scaled (pos m) (moved (scaled s (at i)) (scaled t (at (step i))))) v) (twin i)) w
            (subst (λ X. IsHeld step (λ j. scaled (pos m *ℤ (t +ℤ s)) (at j)) base (moved (scaled (pos m) X) v) (twin i)) x (h.1 m more)),
      )

to_left_one : (a b c d : Point) → cross (vector a b) (moved (vector a b) (vector d c)) ≡ area a b c -ℤ area a b d
to_left_one a b c d = simp ring (omega (arith, sums))

to_left_two : (a b c d : Point) → cross (vector c d) (moved (vector a b) (vector d c)) ≡ area a b c -ℤ area a b d
to_left_two a b c d = simp ring (omega (arith, sums))

to_right_one : (a b c d : Point) → cross (vector b a) (moved (vector a b) (vector c d)) ≡ area a b c -ℤ area a b d
to_right_one a b c d = simp ring (omega (arith, sums))

to_right_two : (a b c d : Point) → cross (vector c d) (moved (vector a b) (vector c d)) ≡ area a b c -ℤ area a b d
to_right_two a b c d = simp ring (omega (arith, sums))

module _ (k : ℕ) (twin step : ℕ → ℕ) (at : ℕ → Point) (base : ℕ) (drawn : IsFaced k twin step at base) (i j : ℕ) (li : i < k) (lj : j < k) where
  abbrev a : Point
  a = at i

  abbrev b : Point
  b = at (step i)

  abbrev c : Point
  c = at j

  abbrev d : Point
  d = at (step j)

  -- the edge of j leads from the left of the edge of i to its right
  module _ (left : pos 0 <ℤ area a b c) (right : area a b d <ℤ pos 0) (behind : area c d a <ℤ pos 0) (ahead : pos 0 <ℤ area c d b) where
    abbrev s : ℤ
    s = area c d b

    abbrev t : ℤ
    t = neg_ℤ (area c d a)

    weight : pos 0 <ℤ (area a b c -ℤ area a b d)
    weight = omega (arith, ints)

    ps : pos 0 <ℤ s
    ps = ahead

    pt : pos 0 <ℤ t
    pt = omega (arith, ints)

    -- the places near the crossing are held by the face of the dart g
    abbrev IsNear : Point → ℕ → ℕ → Type 0
    IsNear v m g = IsHeld step (λ q. scaled (pos m *ℤ (s +ℤ t)) (at q)) base (moved (scaled (pos m) (on_first a b c d)) v) g

    near_second : (v : Point) → pos 0 <ℤ cross (vector c d) v → (n : ℕ) × ((m : ℕ) → n < m → IsNear v m j)
    near_second v l =
        let h = near_held k twin step at base drawn j lj (neg_ℤ (area a b d)) (area a b c) v (omega (arith, ints)) left l in (
          h.0,
          λ m more. subst (λ w. IsHeld step (λ q. scaled (pos m *ℤ w) (at q)) base (moved (scaled (pos m) (on_first a b c d)) v) j) (sym (one_weight a b c d))
              (subst (λ X. IsHeld step (λ q. scaled (pos m *ℤ (neg_ℤ (area a b d) +ℤ area a b c)) (at q)) base (moved (scaled (pos m) X) v) j) (sym (one_crossing a b c d)) (h.1 m more)),
        )

    one_face : (v : Point) (g : ℕ) → g < k → (n : ℕ) × ((m : ℕ) → n < m → IsNear v m g) → (n : ℕ) × ((m : ℕ) → n < m → IsNear v m j) → IsOnFace step g j
    one_face v g lg h h' =
        let m = h.0 + h'.0 + 1 in
        let positive : pos 0 <ℤ (pos m *ℤ (s +ℤ t)) = product_positive (pos m) (s +ℤ t) (omega (arith, ints)) (omega (arith, ints)) in
        no_clash k twin step (λ q. scaled (pos m *ℤ (s +ℤ t)) (at q)) base (IsFaced-scaled k twin step at base (pos m *ℤ (s +ℤ t)) positive drawn)
        (moved (scaled (pos m) (on_first a b c d)) v) g j lg lj (h.1 m (omega arith)) (h'.1 m (omega arith))

    no_left_crossing : ⊥
    no_left_crossing =
        let v = moved (vector a b) (vector d c) in
        let v' = moved (vector a b) (vector c d) in
        let left_face : IsOnFace step i j = one_face v i li (near_held k twin step at base drawn i li s t v ps pt (rw (to_left_one a b c d) weight)) (near_second v (rw (to_left_two a b c d) weight)) in
        let right_face : IsOnFace step (twin i) j =
        one_face v' (twin i) (drawn.twins.within i li) (near_right k twin step at base drawn i li s t v' ps pt (rw (to_right_one a b c d) weight)) (near_second v' (rw (to_right_two a b c d) weight)) in
        twin_apart k twin step at base drawn i li
        (face_then k step drawn.thrice i j (twin i) li left_face (face_back k step drawn.thrice (twin i) j (drawn.twins.within i li) right_face))

pub area_back : (c d x : Point) → area d c x ≡ neg_ℤ (area c d x)
area_back c d x = simp ring (omega (arith, sums))

-- no two edges cross
pub no_crossing : (k : ℕ) (twin step : ℕ → ℕ) (at : ℕ → Point) (base : ℕ) → IsFaced k twin step at base → (i j : ℕ) → i < k → j < k → ¬ DoCross (at i) (at (step i)) (at j) (at (step j))
no_crossing k twin step at base drawn i j li lj x =
    let weight = one_weight (at i) (at (step i)) (at j) (at (step j)) in
    elim x.ends_of_second [
      | inr s ↦
          elim x.ends_of_first [
            | inl f ↦ no_left_crossing k twin step at base drawn i j li lj s.0 s.1 f.0 f.1
            | inr f ↦ (let f0 = f.0 in let f1 = f.1 in absurd (omega (arith, ints)))
          ]
      | inl s ↦
          elim x.ends_of_first [
            | inl f ↦ (let f0 = f.0 in let f1 = f.1 in absurd (omega (arith, ints)))
            | inr f ↦
                let one = area_back (at j) (at (step j)) (at i) in
                let two = area_back (at j) (at (step j)) (at (step i)) in
                let place = twin_place k twin step at base drawn j lj in
                let head = twin_head k twin step at base drawn j lj in
                no_left_crossing k twin step at base drawn i (twin j) li (drawn.twins.within j lj)
                (rw place s.1) (rw head s.0) (rw (place, head) (omega (arith, ints))) (rw (place, head) (omega (arith, ints)))
          ]
    ]
