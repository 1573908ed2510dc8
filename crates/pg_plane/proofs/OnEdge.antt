-- No vertex stands on an edge of which it is no end: a face at the vertex would be a face of the edge, with its third corner in line.
use Rattle.std.proofs.Common.{◌≡◌, ◌≢◌, ℕ, ◌+◌, ◌<◌, false, ℤ, pos, neg_ℤ, ◌-ℤ◌, ◌+ℤ◌, ◌*ℤ◌, ◌<ℤ◌, ◌≤ℤ◌, refl, sym, ap, ap₂, subst, ◌∙◌, inl, inr, arith}
use Rattle.std.proofs.lemmas.Int.{ints, by_lt_z}
use Rattle.std.proofs.lemmas.Bool.{cases_Bool, true≢false}
use Rattle.std.specs.Int.RustNames.{unsigned_abs}
use Rattle.std.proofs.Math.IntN.{*ℤ-zero, zero-*ℤ}
use Rattle.pg_plane.specs.declared.grid_points.Point.{Point}
use Rattle.pg_plane.specs.Geometry.{vector, cross, area, IsBetween, IsOnSegment}
use Rattle.pg_plane.specs.Faced.{in_base, IsFaced, IsTailed, turn}
use Rattle.pg_plane.proofs.Faces.{face_back, face_then}
use Rattle.pg_plane.proofs.Ring.{sums, ring, mul_assoc, add_mul, product_positive, product_signs}
use Rattle.pg_plane.proofs.Identities.{cross_back, heights}
use Rattle.pg_plane.proofs.Clash.{no_clash, base_cases}
use Rattle.pg_plane.proofs.Near.{scaled, moved, less, cross_less, cross_less_two, large, same_point, IsFaced-scaled, near_held, IsOnFace, IsHeld}
use Rattle.pg_plane.proofs.Crossing.{area_back, some_area, near_right, twin_place, twin_head, flat_first, flat_ends, flat_last}
use Rattle.pg_plane.proofs.Round.{turn_place, turn_head, turn_tail}
use Rattle.pg_plane.proofs.Tilted.{vertices_apart}
use Rattle.pg_plane.proofs.Segments.{IsBetween-back}

-- how far v is from t, against how far s is
between_end : (s t v : ℤ) → IsBetween s t v → (pos 0 ≤ℤ ((t -ℤ v) *ℤ (t -ℤ s))) × (((t -ℤ v) *ℤ (t -ℤ s)) ≤ℤ pos 0 → v ≡ t)
between_end s t v b =
    elim b [
      | inl h ↦
          let h1 = h.1 in (
            (product_signs (t -ℤ v) (t -ℤ s)).both_up (omega (arith, ints)) (omega (arith, ints)),
            λ z. by_lt_z v t (λ l. let p = (product_signs (t -ℤ v) (t -ℤ s)).both_above (omega (arith, ints)) (omega (arith, ints)) in absurd (omega (arith, sums))) (λ l. omega (arith, ints)),
          )
      | inr h ↦
          let h1 = h.1 in (
            (product_signs (t -ℤ v) (t -ℤ s)).both_down (omega (arith, ints)) (omega (arith, ints)),
            λ z. by_lt_z t v (λ l. let p = (product_signs (t -ℤ v) (t -ℤ s)).both_below (omega (arith, ints)) (omega (arith, ints)) in absurd (omega (arith, sums))) (λ l. omega (arith, ints)),
          )
    ]

-- how far p is from b along the way from a to b
abbrev along : Point → Point → Point → ℤ
along p a b = ((b.x -ℤ p.x) *ℤ (b.x -ℤ a.x)) +ℤ ((b.y -ℤ p.y) *ℤ (b.y -ℤ a.y))

along_positive : (p a b : Point) → IsBetween a.x b.x p.x → IsBetween a.y b.y p.y → p ≢ b → pos 0 <ℤ along p a b
along_positive p a b bx by apart =
    let x = between_end a.x b.x p.x bx in
    let y = between_end a.y b.y p.y by in
    by_lt_z (pos 0) (along p a b) (λ l. l)
    (λ l. absurd (apart (same_point p b (x.1 (let x0 = x.0 in let y0 = y.0 in omega (arith, sums))) (y.1 (let x0 = x.0 in let y0 = y.0 in omega (arith, sums))))))

-- two vectors from a point on a line to others on it, by how far these are
weighed_x : (g h : Point) → ((h.x *ℤ (h.x -ℤ g.x)) +ℤ (h.y *ℤ (h.y -ℤ g.y))) *ℤ g.x +ℤ ((g.x *ℤ (g.x -ℤ h.x)) +ℤ (g.y *ℤ (g.y -ℤ h.y))) *ℤ h.x ≡ (h.y -ℤ g.y) *ℤ cross g h
weighed_x g h = simp ring (omega (arith, sums))

weighed_y : (g h : Point) → ((h.x *ℤ (h.x -ℤ g.x)) +ℤ (h.y *ℤ (h.y -ℤ g.y))) *ℤ g.y +ℤ ((g.x *ℤ (g.x -ℤ h.x)) +ℤ (g.y *ℤ (g.y -ℤ h.y))) *ℤ h.y ≡ (g.x -ℤ h.x) *ℤ cross g h
weighed_y g h = simp ring (omega (arith, sums))

area_from : (p a b : Point) → area a b p ≡ cross (vector p a) (vector p b)
area_from p a b = simp ring (omega (arith, sums))

-- how far one is from the other, seen from the point
seen : (p a b : Point) → along p a b ≡ ((vector p b).x *ℤ ((vector p b).x -ℤ (vector p a).x)) +ℤ ((vector p b).y *ℤ ((vector p b).y -ℤ (vector p a).y))
seen p a b =
    let x : b.x -ℤ a.x ≡ (b.x -ℤ p.x) -ℤ (a.x -ℤ p.x) = omega (arith, sums) in
    let y : b.y -ℤ a.y ≡ (b.y -ℤ p.y) -ℤ (a.y -ℤ p.y) = omega (arith, sums) in
    ap₂ (λ m n. ((b.x -ℤ p.x) *ℤ m) +ℤ ((b.y -ℤ p.y) *ℤ n)) x y

weighed : (s t p a b : ℤ) → s *ℤ (a -ℤ p) +ℤ t *ℤ (b -ℤ p) ≡ pos 0 → (s *ℤ a) +ℤ (t *ℤ b) ≡ (s +ℤ t) *ℤ p
weighed s t p a b e = simp ring (let e' = simp ring at e in omega (arith, sums))

on_line : (p a b : Point) → area a b p ≡ pos 0 → moved (scaled (along p a b) a) (scaled (along p b a) b) ≡ scaled (along p a b +ℤ along p b a) p
on_line p a b e =
    let zero : (n : ℤ) → n *ℤ cross (vector p a) (vector p b) ≡ pos 0 = λ n. ap (λ z. n *ℤ z) (sym (area_from p a b) ∙ e) ∙ *ℤ-zero n in
    let x = weighed_x (vector p a) (vector p b) ∙ zero ((vector p b).y -ℤ (vector p a).y) in
    let y = weighed_y (vector p a) (vector p b) ∙ zero ((vector p a).x -ℤ (vector p b).x) in
    same_point _ _
    (weighed (along p a b) (along p b a) p.x a.x b.x (ap₂ (λ m n. m *ℤ (a.x -ℤ p.x) +ℤ n *ℤ (b.x -ℤ p.x)) (seen p a b) (seen p b a) ∙ x))
    (weighed (along p a b) (along p b a) p.y a.y b.y (ap₂ (λ m n. m *ℤ (a.y -ℤ p.y) +ℤ n *ℤ (b.y -ℤ p.y)) (seen p a b) (seen p b a) ∙ y))

into_second : (g h : ℤ) (y z : Point) → cross y (moved (scaled g y) (scaled h z)) ≡ h *ℤ cross y z
into_second g h y z = simp ring (omega (arith, sums))

into_third : (g h : ℤ) (y z : Point) → cross (moved (scaled g y) (scaled h z)) z ≡ g *ℤ cross y z
into_third g h y z = simp ring (omega (arith, sums))

into_back : (g h : ℤ) (y z : Point) → cross z (moved (scaled g y) (scaled h z)) ≡ neg_ℤ (g *ℤ cross y z)
into_back g h y z = simp ring (omega (arith, sums))

first_scale : (n c : ℤ) → (n -ℤ pos 0) *ℤ c ≡ n *ℤ c
first_scale n c = simp ring (let z = *ℤ-zero c in omega (arith, sums))

second_scale : (n c g h : ℤ) → ((n *ℤ n) *ℤ c) -ℤ ((n *ℤ (h *ℤ c)) +ℤ (n *ℤ (g *ℤ c))) ≡ n *ℤ ((n *ℤ c) -ℤ ((h +ℤ g) *ℤ c))
second_scale n c g h = simp ring (omega (arith, sums))

third_scale : (n c : ℤ) → (pos 0 -ℤ n) *ℤ neg_ℤ c ≡ n *ℤ c
third_scale n c = simp ring (let z = *ℤ-zero c in omega (arith, sums))

-- a place near the corner p of a triangle, in the drawing made larger
module _ (p q r : Point) (g h n : ℤ) where
  abbrev into : Point
  into = moved (scaled g (vector p q)) (scaled h (vector p r))

  abbrev here : Point
  here = moved (scaled n p) into

  from_here : (z : Point) → vector here (scaled n z) ≡ less n (vector p z) into
  from_here z = same_point _ _ (simp ring (omega (arith, sums))) (simp ring (omega (arith, sums)))

  from_corner : (z : Point) → vector here (scaled n p) ≡ less (pos 0) z into
  from_corner z = same_point _ _ (let e = zero-*ℤ z.x in omega (arith, sums)) (let e = zero-*ℤ z.y in omega (arith, sums))

  wedge_first : area here (scaled n p) (scaled n q) ≡ n *ℤ (h *ℤ area p q r)
  wedge_first =
      ap₂ cross (from_corner (vector p q)) (from_here q) ∙ cross_less (pos 0) n (vector p q) into ∙ first_scale n (cross (vector p q) into)
      ∙ ap (λ z. n *ℤ z) (into_second g h (vector p q) (vector p r))

  wedge_second : area here (scaled n q) (scaled n r) ≡ n *ℤ ((n *ℤ area p q r) -ℤ ((h +ℤ g) *ℤ area p q r))
  wedge_second =
      ap₂ cross (from_here q) (from_here r) ∙ cross_less_two n n (vector p q) (vector p r) into
      ∙ ap₂ (λ y z. ((n *ℤ n) *ℤ area p q r) -ℤ ((n *ℤ y) +ℤ (n *ℤ z))) (into_second g h (vector p q) (vector p r)) (into_third g h (vector p q) (vector p r))
      ∙ second_scale n (area p q r) g h

  wedge_third : area here (scaled n r) (scaled n p) ≡ n *ℤ (g *ℤ area p q r)
  wedge_third =
      ap₂ cross (from_here r) (from_corner (vector p r)) ∙ cross_less n (pos 0) (vector p r) into
      ∙ ap (λ z. (pos 0 -ℤ n) *ℤ z) (into_back g h (vector p q) (vector p r)) ∙ third_scale n (g *ℤ area p q r)

twice_scaled : (m w : ℤ) (p v : Point) → moved (scaled (m *ℤ w) p) v ≡ moved (scaled m (scaled w p)) v
twice_scaled m w p v = same_point _ _ (ap (λ z. z +ℤ v.x) (mul_assoc m w p.x)) (ap (λ z. z +ℤ v.y) (mul_assoc m w p.y))

-- the places near a vertex and towards the corner of an inner face are held by that face
wedge_held : (k : ℕ) (twin step : ℕ → ℕ) (at : ℕ → Point) (base : ℕ) → IsFaced k twin step at base → (m : ℕ) → m < k → in_base step base m ≡ false → (w g h : ℤ) → pos 0 <ℤ w → pos 0 <ℤ g → pos 0 <ℤ h → (n : ℕ) × ((f : ℕ) → n < f → IsHeld step (λ j. scaled (pos f *ℤ w) (at j)) base (moved (scaled (pos f) (scaled w (at m))) (into (at m) (at (step m)) (at (step (step m))) g h (pos 0))) m)
wedge_held k twin step at base d m l e w g h pw pg ph =
    let p = at m in
    let q = at (step m) in
    let r = at (step (step m)) in
    let c = area p q r in
    let positive = d.inner m l e in
    let few = (h +ℤ g) *ℤ c in (
      unsigned_abs few,
      λ f more.
          let n = pos f *ℤ w in
          let pn : pos 0 <ℤ n = product_positive (pos f) w (omega (arith, ints)) pw in
          let second : pos 0 <ℤ ((n *ℤ c) -ℤ few) = rw (mul_assoc (pos f) w c) (large few (w *ℤ c) f more (product_positive w c pw positive)) in
          record {
            inner = λ e'. subst (λ z. (pos 0 <ℤ area z (scaled n p) (scaled n q)) × (pos 0 <ℤ area z (scaled n q) (scaled n r)) × (pos 0 <ℤ area z (scaled n r) (scaled n p))) (twice_scaled (pos f) w p (into p q r g h (pos 0))) (
              rw (wedge_first p q r g h n) (product_positive n (h *ℤ c) pn (product_positive h c ph positive)),
              rw (wedge_second p q r g h n) (product_positive n ((n *ℤ c) -ℤ few) pn second),
              rw (wedge_third p q r g h n) (product_positive n (g *ℤ c) pn (product_positive g c pg positive)),
            );
            outer = λ e'. absurd (true≢false (sym e' ∙ e));
          },
    )

widths : (u v w : Point) → (((cross v w) *ℤ u.x) +ℤ ((cross w u) *ℤ v.x)) +ℤ ((cross u v) *ℤ w.x) ≡ pos 0
widths u v w = simp ring (omega (arith, sums))

factor_zero : (a b : ℤ) → ¬ (a ≡ pos 0) → a *ℤ b ≡ pos 0 → b ≡ pos 0
factor_zero a b apart e =
    let p = product_signs a b in
    by_lt_z (pos 0) a
    (λ pa. by_lt_z (pos 0) b (λ pb. let x = p.both_above pa pb in absurd (omega (arith, sums))) (λ nb. by_lt_z b (pos 0) (λ mb. let x = p.above_below pa mb in absurd (omega (arith, sums))) (λ z. omega (arith, ints))))
    (λ na. by_lt_z a (pos 0)
    (λ ma. by_lt_z (pos 0) b (λ pb. let x = p.below_above ma pb in absurd (omega (arith, sums))) (λ nb. by_lt_z b (pos 0) (λ mb. let x = p.both_below ma mb in absurd (omega (arith, sums))) (λ z. omega (arith, ints))))
    (λ z. absurd (apart (omega (arith, ints)))))

times_one : (n : ℤ) → pos 1 *ℤ n ≡ n
times_one n = omega (arith, ints)

from_other : (a b w : Point) → cross (vector b a) w ≡ neg_ℤ (cross (vector a b) w)
from_other a b w = simp ring (omega (arith, sums))

split_into : (g h : ℤ) (u y z : Point) → cross u (moved (scaled g y) (scaled h z)) ≡ (g *ℤ cross u y) +ℤ (h *ℤ cross u z)
split_into g h u y z = simp ring (omega (arith, sums))

-- a turn that is seen by two directions of a corner is that of nothing
parallel : (u y z : Point) → cross u y ≡ pos 0 → cross u z ≡ pos 0 → ¬ (cross y z ≡ pos 0) → (u.x ≡ pos 0) × (u.y ≡ pos 0)
parallel u y z e f apart =
    let by_zero : (n : ℤ) → pos 0 *ℤ n ≡ pos 0 = zero-*ℤ in
    let zu : cross z u ≡ pos 0 = (cross_back u z) ∙ ap neg_ℤ f in (
      factor_zero (cross y z) u.x apart (let a = ap (λ n. n *ℤ y.x) zu ∙ by_zero y.x in let b = ap (λ n. n *ℤ z.x) e ∙ by_zero z.x in omega (arith, widths u y z, sums)),
      factor_zero (cross y z) u.y apart (let a = ap (λ n. n *ℤ y.y) zu ∙ by_zero y.y in let b = ap (λ n. n *ℤ z.y) e ∙ by_zero z.y in omega (arith, heights u y z, sums)),
    )

module _ (k : ℕ) (twin step : ℕ → ℕ) (at : ℕ → Point) (base : ℕ) (d : IsFaced k twin step at base) (tail : ℕ → ℕ) (r : IsTailed k twin step at tail) where
  -- some dart of each vertex is of an inner face
  inner_dart : (m : ℕ) → m < k → (n : ℕ) × (n < k) × (tail n ≡ tail m) × (in_base step base n ≡ false)
  inner_dart m l =
      elim (cases_Bool (in_base step base m)) [
        | inr e ↦ (m, l, refl, e)
        | inl e ↦
            let n = turn twin step m in
            let ln : n < k = d.twins.within (step (step m)) (d.steps.within (step m) (d.steps.within m l)) in
            elim (cases_Bool (in_base step base n)) [
              | inr f ↦ (n, ln, turn_tail k twin step at base d tail r m l, f)
              | inl f ↦
                  let on : IsOnFace step m n = face_then k step d.thrice m base n l (face_back k step d.thrice base m d.base_in (base_cases k twin step at base d (at m) m e)) (base_cases k twin step at base d (at m) n f) in
                  let place = turn_place k twin step at base d m l in
                  let head = turn_head k twin step at base d m l in
                  absurd (elim on [
                    | inl g ↦ some_area k twin step at base d m l (ap (λ x. area (at m) (at (step m)) x) (sym head ∙ ap (λ x. at (step x)) g) ∙ flat_last (at m) (at (step m)))
                    | inr on' ↦ elim on' [
                      | inl g ↦ some_area k twin step at base d m l (ap (λ x. area (at m) x (at (step (step m)))) (sym (ap at g) ∙ place) ∙ flat_first (at m) (at (step (step m))))
                      | inr g ↦ some_area k twin step at base d m l (ap (λ x. area (at m) (at (step m)) x) (sym (ap at g) ∙ place) ∙ flat_ends (at m) (at (step m)))
                    ]
                  ])
            ]
      ]

  module _ (i : ℕ) (li : i < k) (m : ℕ) (lm : m < k) (inner : in_base step base m ≡ false) (on : IsOnSegment (at m) (at i) (at (step i))) (not_tail : tail m ≢ tail i) (not_head : tail m ≢ tail (step i)) where
    p : Point
    p = at m

    s : ℤ
    s = along (at m) (at i) (at (step i))

    t : ℤ
    t = along (at m) (at (step i)) (at i)

    off_tail : at m ≢ at i
    off_tail e = not_tail (vertices_apart k twin step at base d tail r m i lm li e)

    off_head : at m ≢ at (step i)
    off_head e = not_head (vertices_apart k twin step at base d tail r m (step i) lm (d.steps.within i li) e)

    ps : pos 0 <ℤ s
    unfolding s
    ps = along_positive (at m) (at i) (at (step i)) on.between_x on.between_y off_head

    pt : pos 0 <ℤ t
    unfolding t
    pt = along_positive (at m) (at (step i)) (at i) (IsBetween-back _ _ _ on.between_x) (IsBetween-back _ _ _ on.between_y) off_tail

    weighed_place : moved (scaled s (at i)) (scaled t (at (step i))) ≡ scaled (s +ℤ t) (at m)
    unfolding s t
    weighed_place = on_line (at m) (at i) (at (step i)) on.on_line

    -- a direction into the corner of the inner face at the vertex
    abbrev v : ℤ → Point
    v g = into (at m) (at (step m)) (at (step (step m))) g (pos 1) (pos 0)

    one_face : (g : ℤ) (j : ℕ) → j < k → pos 0 <ℤ g → (n : ℕ) × ((f : ℕ) → n < f → IsHeld step (λ q. scaled (pos f *ℤ (s +ℤ t)) (at q)) base (moved (scaled (pos f) (moved (scaled s (at i)) (scaled t (at (step i))))) (v g)) j) → IsOnFace step j m
    one_face g j lj pg h =
        let w : pos 0 <ℤ (s +ℤ t) = let a = ps in let b = pt in omega (arith, ints) in
        let h' = wedge_held k twin step at base d m lm inner (s +ℤ t) g (pos 1) w pg (omega (arith, ints)) in
        let f = h.0 + h'.0 + 1 in
        let positive : pos 0 <ℤ (pos f *ℤ (s +ℤ t)) = product_positive (pos f) (s +ℤ t) (omega (arith, ints)) w in
        no_clash k twin step (λ q. scaled (pos f *ℤ (s +ℤ t)) (at q)) base (IsFaced-scaled k twin step at base (pos f *ℤ (s +ℤ t)) positive d)
        (moved (scaled (pos f) (scaled (s +ℤ t) (at m))) (v g)) j m lj lm
        (subst (λ X. IsHeld step (λ q. scaled (pos f *ℤ (s +ℤ t)) (at q)) base (moved (scaled (pos f) X) (v g)) j) weighed_place (h.1 f (omega arith)))
        (h'.1 f (omega arith))

    -- whichever side the direction leads to, the vertex is no corner of that face
    not_left : (g : ℤ) → pos 0 <ℤ g → pos 0 <ℤ cross (vector (at i) (at (step i))) (v g) → ⊥
    not_left g pg l =
        elim (one_face g i li pg (near_held k twin step at base d i li s t (v g) ps pt l)) [
          | inl e ↦ not_tail (ap tail e)
          | inr o ↦ elim o [
            | inl e ↦ not_head (ap tail e)
            | inr e ↦ some_area k twin step at base d i li (ap (λ x. area (at i) (at (step i)) x) (sym (ap at e)) ∙ on.on_line)
          ]
        ]

    not_right : (g : ℤ) → pos 0 <ℤ g → pos 0 <ℤ cross (vector (at (step i)) (at i)) (v g) → ⊥
    not_right g pg l =
        let lt = d.twins.within i li in
        elim (one_face g (twin i) lt pg (near_right k twin step at base d i li s t (v g) ps pt l)) [
          | inl e ↦ not_head (ap tail e ∙ sym (r.tails i li))
          | inr o ↦ elim o [
            | inl e ↦ not_tail (ap tail e ∙ r.tails (twin i) lt ∙ ap tail (d.back i li))
            | inr e ↦ some_area k twin step at base d (twin i) lt (ap₂ (λ x y. area x y (at (step (step (twin i))))) (twin_place k twin step at base d i li) (twin_head k twin step at base d i li) ∙ ap (λ x. area (at (step i)) (at i) x) (sym (ap at e)) ∙ area_back (at i) (at (step i)) (at m) ∙ ap neg_ℤ on.on_line)
          ]
        ]

    none_here : ⊥
    none_here =
        let u = vector (at i) (at (step i)) in
        let y = vector (at m) (at (step m)) in
        let z = vector (at m) (at (step (step m))) in
        let one = split_into (pos 1) (pos 1) u y z in
        let two = split_into (pos 2) (pos 1) u y z in
        let by_one : (n : ℤ) → pos 1 *ℤ n ≡ n = times_one in
        let by_two : (n : ℤ) → pos 2 *ℤ n ≡ n +ℤ n = λ n. add_mul (pos 1) (pos 1) n ∙ ap₂ (λ a b. a +ℤ b) (by_one n) (by_one n) in
        let y1 = by_one (cross u y) in
        let z1 = by_one (cross u z) in
        let y2 = by_two (cross u y) in
        let back : (g : ℤ) → cross (vector (at (step i)) (at i)) (v g) ≡ neg_ℤ (cross u (v g)) = λ g. from_other (at i) (at (step i)) (v g) in
        let b1 = back (pos 1) in
        let b2 = back (pos 2) in
        by_lt_z (pos 0) (cross u (v (pos 1))) (not_left (pos 1) (omega (arith, ints)))
        (λ n1. by_lt_z (cross u (v (pos 1))) (pos 0) (λ l. not_right (pos 1) (omega (arith, ints)) (omega (arith, sums)))
        (λ g1. by_lt_z (pos 0) (cross u (v (pos 2))) (not_left (pos 2) (omega (arith, ints)))
        (λ n2. by_lt_z (cross u (v (pos 2))) (pos 0) (λ l. not_right (pos 2) (omega (arith, ints)) (omega (arith, sums)))
        (λ g2.
        let flat = parallel u y z (omega (arith, sums)) (omega (arith, sums)) (some_area k twin step at base d m lm) in
        let same : at (step i) ≡ at i = same_point (at (step i)) (at i) (omega (arith, ints)) (omega (arith, ints)) in
        some_area k twin step at base d i li (ap (λ x. area (at i) x (at (step (step i)))) same ∙ flat_first (at i) (at (step (step i))))))))

  -- No vertex stands on an edge of which it is no end.
  pub no_vertex_on_edge : (i m : ℕ) → i < k → m < k → tail m ≢ tail i → tail m ≢ tail (step i) → ¬ IsOnSegment (at m) (at i) (at (step i))
  no_vertex_on_edge i m li lm not_tail not_head on =
      let n = inner_dart m lm in
      let place : at m ≡ at n.0 = r.places m n.0 lm n.1 (sym n.2) in
      none_here i li n.0 n.1 n.3 (subst (λ p. IsOnSegment p (at i) (at (step i))) place on) (λ e. not_tail (sym n.2 ∙ e)) (λ e. not_head (sym n.2 ∙ e))
