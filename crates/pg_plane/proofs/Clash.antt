-- No place lies in two faces: strictly inside two that are counterclockwise, or inside one of them and outside the base.
use Rattle.std.proofs.Common.{◌≡◌, ◌≢◌, ℕ, ◌+◌, ◌<◌, ◌≤◌, ◌⊎◌, Bool, true, false, not, ◌&&◌, ◌||◌, eqb, ltb, ℤ, pos, neg_ℤ, ◌<ℤ◌, refl, sym, ap, ◌∙◌, inl, inr, arith, ne_eqb, eqb-true}
use Rattle.std.proofs.lemmas.Bool.{cases_Bool, cases_eq, true≢false, or_cases}
use Rattle.std.proofs.lemmas.Int.{ints}
use lib.Signed.{lt_z}
use Rattle.pg_plane.specs.declared.grid_points.Point.{Point}
use Rattle.pg_plane.specs.Geometry.{vector, cross, area}
use Rattle.classes.specs.Classes.{count_below}
use Rattle.classes.proofs.Counting.{one_if}
use Rattle.classes.proofs.Orbits.{IsPermuting, count_below-images}
use Rattle.pg_plane.specs.Faced.{in_base, IsFaced}
use Rattle.pg_plane.proofs.Near.{IsOnFace, IsHeld}
use Rattle.pg_plane.proofs.Faces.{in_base_from, face_back, face_then}
use Rattle.pg_plane.proofs.Ring.{sums, ring}
use Rattle.pg_plane.proofs.Triangle.{IsMet, rises, left_turn_met}
use Rattle.pg_plane.proofs.Identities.{back_test, triangle_turn, area_turned, cross_back}
use Rattle.pg_plane.proofs.Counts.{count_four, count_three-le, count_one, count_none, count_sums}

-- a place stands above p
abbrev pub up : Point → Point → Bool
up p a = lt_z (pos 0) (vector p a).y

-- twice the area of p with the side from a to b
abbrev pub side : Point → Point → Point → ℤ
side p a b = cross (vector p a) (vector p b)

-- the side from a to b is met from below
abbrev pub meets : Point → Point → Point → Bool
meets p a b = rises (up p a) (up p b) (lt_z (pos 0) (side p a b))

-- the sides of a triangle that are met, walked one way
abbrev pub there_at : Point → Point → Point → Point → ℕ
there_at p a b c = one_if (meets p a b) + one_if (meets p b c) + one_if (meets p c a)

-- and the other
abbrev pub back_at : Point → Point → Point → Point → ℕ
back_at p a b c = one_if (meets p b a) + one_if (meets p c b) + one_if (meets p a c)

-- a counterclockwise triangle is met once where it holds the place, and never where the place is outside
pub triangle_met : (p a b c : Point) → pos 0 <ℤ area a b c → IsMet (side p b c) (side p c a) (side p a b) (there_at p a b c) (back_at p a b c)
triangle_met p a b c positive =
    rw (back_test (vector p a) (vector p b), back_test (vector p b) (vector p c), back_test (vector p c) (vector p a))
    (left_turn_met _ _ _ _ _ _ (triangle_turn p a b c positive))

-- the same of a clockwise triangle, walked the other way; a place to the left of one of its sides is outside
pub record IsMetBack (p a b c : Point) : Type 0 where
  pub once : back_at p a b c ≡ there_at p a b c + one_if (ltb (there_at p a b c) (back_at p a b c))
  pub outside : (pos 0 <ℤ side p a b) ⊎ ((pos 0 <ℤ side p b c) ⊎ (pos 0 <ℤ side p c a)) → ltb (there_at p a b c) (back_at p a b c) ≡ false

pub clockwise_met : (p a b c : Point) → area a b c <ℤ pos 0 → IsMetBack p a b c
clockwise_met p a b c negative =
    let m = triangle_met p a c b (omega (arith, ints)) in
    let there : there_at p a c b ≡ back_at p a b c = omega arith in
    let back : back_at p a c b ≡ there_at p a b c = omega arith in
    record {
      once = rw (there, back) at m.once;
      outside = λ o. rw (there, back) at (m.outside (elim o [
        | inl x ↦ let e = cross_back (vector p a) (vector p b) in inr (inl (omega (arith, ints)))
        | inr y ↦ elim y [
          | inl x ↦ let e = cross_back (vector p b) (vector p c) in inl (omega (arith, ints))
          | inr x ↦ let e = cross_back (vector p c) (vector p a) in inr (inr (omega (arith, ints)))
        ]
      ]));
    }

module _ (k : ℕ) (twin step : ℕ → ℕ) (at : ℕ → Point) (base : ℕ) (d : IsFaced k twin step at base) (p : Point) where
  -- the side of a dart is met from below
  R : ℕ → Bool
  R i = meets p (at i) (at (step i))

  there : ℕ → ℕ
  there i = there_at p (at i) (at (step i)) (at (step (step i)))

  back : ℕ → ℕ
  back i = back_at p (at i) (at (step i)) (at (step (step i)))

  -- the face of a dart other than the base's holds the place
  pub inside : ℕ → Bool
  inside i = not (in_base step base i) && ltb (back i) (there i)

  -- the base's triangle holds it
  pub within : ℕ → Bool
  within i = in_base step base i && ltb (there i) (back i)

  pub inside_is : (i : ℕ) → inside i ≡ (not (in_base step base i) && ltb (back_at p (at i) (at (step i)) (at (step (step i)))) (there_at p (at i) (at (step i)) (at (step (step i)))))
  unfolding inside there back
  inside_is i = refl

  pub within_is : (i : ℕ) → within i ≡ (in_base step base i && ltb (there_at p (at i) (at (step i)) (at (step (step i)))) (back_at p (at i) (at (step i)) (at (step (step i)))))
  unfolding within there back
  within_is i = refl

  meets_along : (i : ℕ) → i < k → there i ≡ one_if (R i) + one_if (R (step i)) + one_if (R (step (step i)))
  unfolding there R
  meets_along i l = rw (d.thrice i l) refl

  meets_twin : (i : ℕ) → i < k → R (twin i) ≡ meets p (at (step i)) (at i)
  unfolding R
  meets_twin i l =
      rw (sym (d.head i l), d.head (twin i) (d.twins.within i l) ∙ ap at (d.back i l)) refl

  meets_against : (i : ℕ) → i < k → back i ≡ one_if (R (twin i)) + one_if (R (twin (step i))) + one_if (R (twin (step (step i))))
  unfolding back
  meets_against i l =
      let s = d.steps.within i l in
      rw (meets_twin i l, meets_twin (step i) s, meets_twin (step (step i)) (d.steps.within (step i) s), d.thrice i l) refl

  -- the darts of the base's face are walked clockwise
  pub base_area : (i : ℕ) → in_base step base i ≡ true → area (at i) (at (step i)) (at (step (step i))) <ℤ pos 0
  base_area i e =
      let t = d.thrice base d.base_in in
      let one = area_turned (at base) (at (step base)) (at (step (step base))) in
      grind (arith, or_cases, eqb, eqb-true, area_turned)

  equation : (i : ℕ) → i < k → there i + one_if (within i) ≡ back i + one_if (inside i)
  unfolding there back inside within
  equation i l =
      elim (cases_Bool (in_base step base i)) [
        | inl e ↦ (let m = clockwise_met p (at i) (at (step i)) (at (step (step i))) (base_area i e) in rw e (let once = m.once in omega arith))
        | inr e ↦ (let m = triangle_met p (at i) (at (step i)) (at (step (step i))) (d.inner i l e) in rw e (let once = m.once in omega arith))
      ]

  -- as many darts have an inner face that holds the place as have the base's, if that holds it
  same_count : count_below inside k ≡ count_below within k
  same_count =
      let s = d.steps in
      let ss : IsPermuting (λ i. step (step i)) k = record { within = λ i l. s.within (step i) (s.within i l); apart = λ i j l m e. s.apart i j l m (s.apart (step i) (step j) (s.within i l) (s.within j m) e) } in
      let sums = count_sums R (λ i. R (step i)) (λ i. R (step (step i))) (λ i. R (twin i)) (λ i. R (twin (step i))) (λ i. R (twin (step (step i)))) inside within k
      (λ i l. let e = equation i l in let a = meets_along i l in let b = meets_against i l in omega arith) in
      let T : ℕ → Bool = λ i. R (twin i) in
      let t0 = count_below-images twin k d.twins R in
      let t1 = count_below-images step k s T in
      let t2 = count_below-images (λ i. step (step i)) k ss T in
      omega (arith, count_below-images (λ i. step (step i)) k ss R, count_below-images step k s R)

  -- the base has three darts
  few_within : count_below within k ≤ 3
  unfolding within
  few_within =
      let b = d.base_in in
      count_three-le within k base (step base) (step (step base)) b (d.steps.within base b) (d.steps.within (step base) (d.steps.within base b))
      (λ i l n1 n2 n3. rw (ne_eqb i base n1, ne_eqb i (step base) n2, ne_eqb i (step (step base)) n3) refl)

  pub base_cases : (i : ℕ) → in_base step base i ≡ true → IsOnFace step base i
  base_cases i e = elim (or_cases (eqb i base) (eqb i (step base) || eqb i (step (step base))) e) [
    | inl f ↦ inl (eqb-true i base f)
    | inr g ↦ elim (or_cases (eqb i (step base)) (eqb i (step (step base))) g) [ inl f ↦ inr (inl (eqb-true i (step base) f)) | inr f ↦ inr (inr (eqb-true i (step (step base)) f)) ]
  ]

  -- all darts of a face are the base's or none
  pub base_along : (i j : ℕ) → i < k → IsOnFace step i j → in_base step base j ≡ in_base step base i
  base_along i j l on =
      elim (cases_Bool (in_base step base i)) [
        | inl e ↦ in_base_from step base j (face_then k step d.thrice base i j d.base_in (base_cases i e) on) ∙ sym e
        | inr e ↦ elim (cases_Bool (in_base step base j)) [
          | inl f ↦ absurd (true≢false (sym (in_base_from step base i (face_then k step d.thrice base j i d.base_in (base_cases j f) (face_back k step d.thrice i j l on))) ∙ e))
          | inr f ↦ f ∙ sym e
        ]
      ]

  -- and are met alike
  there_along : (i j : ℕ) → i < k → IsOnFace step i j → there j ≡ there i
  unfolding there
  there_along i j l (inl e) = rw e refl
  there_along i j l (inr (inl e)) = rw (e, d.thrice i l) (omega arith)
  there_along i j l (inr (inr e)) = rw (e, d.thrice i l) (omega arith)

  back_along : (i j : ℕ) → i < k → IsOnFace step i j → back j ≡ back i
  unfolding back
  back_along i j l (inl e) = rw e refl
  back_along i j l (inr (inl e)) = rw (e, d.thrice i l) (omega arith)
  back_along i j l (inr (inr e)) = rw (e, d.thrice i l) (omega arith)

  inside_along : (i j : ℕ) → i < k → IsOnFace step i j → inside j ≡ inside i
  unfolding inside
  inside_along i j l on = rw (base_along i j l on, there_along i j l on, back_along i j l on) refl

  -- the corners of a face are three
  pub corner_apart : (i : ℕ) → i < k → step i ≢ i
  corner_apart i l e =
      let flat : area (at i) (at i) (at (step (step i))) ≡ pos 0 = simp ring (omega (arith, sums)) in
      let z : area (at i) (at (step i)) (at (step (step i))) ≡ pos 0 = ap (λ x. area (at i) (at x) (at (step (step i)))) e ∙ flat in
      elim (cases_Bool (in_base step base i)) [
        | inl b ↦ (let n = base_area i b in omega (arith, ints))
        | inr b ↦ (let n = d.inner i l b in omega (arith, ints))
      ]

  far_apart : (i : ℕ) → i < k → step (step i) ≢ i
  far_apart i l e = corner_apart i l (sym (ap step e) ∙ d.thrice i l)

  holds_inside : (i : ℕ) → i < k → in_base step base i ≡ false → IsHeld step at base p i → inside i ≡ true
  unfolding inside there back
  holds_inside i l e h =
      let n = h.inner e in
      rw (e, (triangle_met p (at i) (at (step i)) (at (step (step i))) (d.inner i l e)).inside n.1 n.2 n.0) refl

  -- The face of a dart holds the place, by what of it is met.
  pub record IsMetAsHeld (i : ℕ) : Type 0 where
    pub inner : in_base step base i ≡ false → inside i ≡ true
    pub outer : in_base step base i ≡ true → within i ≡ false

  met_as_held : (i : ℕ) → i < k → IsHeld step at base p i → IsMetAsHeld i
  unfolding within there back
  met_as_held i l h = record {
    inner = λ e. holds_inside i l e h;
    outer = λ e. rw (e, (clockwise_met p (at i) (at (step i)) (at (step (step i))) (base_area i e)).outside (h.outer e)) refl;
  }

  -- a place outside the base is held by no inner face
  holds_outside : (i : ℕ) → i < k → in_base step base i ≡ true → within i ≡ false → count_below inside k ≡ 0
  unfolding within
  holds_outside i l e none =
      let here : ltb (there i) (back i) ≡ false = rw e at none in
      same_count ∙ count_none within k (λ j lj.
      elim (cases_Bool (in_base step base j)) [
        | inl f ↦
            let onj = face_then k step d.thrice i base j l (face_back k step d.thrice base i d.base_in (base_cases i e)) (base_cases j f) in
            rw (f, there_along i j l onj, back_along i j l onj, here) refl
        | inr f ↦ rw f refl
      ])

  -- No place is held by two faces.
  pub one_holds : (i j : ℕ) → i < k → j < k → IsMetAsHeld i → IsMetAsHeld j → IsOnFace step i j
  one_holds i j li lj hi hj =
      elim (cases_Bool (in_base step base i)) [
        | inl bi ↦ elim (cases_Bool (in_base step base j)) [
          | inl bj ↦ face_then k step d.thrice i base j li (face_back k step d.thrice base i d.base_in (base_cases i bi)) (base_cases j bj)
          | inr bj ↦ absurd (let z = holds_outside i li bi (hi.outer bi) in let n = count_one inside k j lj (hj.inner bj) in omega arith)
        ]
        | inr bi ↦ elim (cases_Bool (in_base step base j)) [
          | inl bj ↦ absurd (let z = holds_outside j lj bj (hj.outer bj) in let n = count_one inside k i li (hi.inner bi) in omega arith)
          | inr bj ↦ elim (cases_eq j i) [
            | inl e ↦ inl e
            | inr n1 ↦ elim (cases_eq j (step i)) [
              | inl e ↦ inr (inl e)
              | inr n2 ↦ elim (cases_eq j (step (step i))) [
                | inl e ↦ inr (inr e)
                | inr n3 ↦ absurd (
                    let ls = d.steps.within i li in
                    let lss = d.steps.within (step i) ls in
                    let in_i = hi.inner bi in
                    let in_s = inside_along i (step i) li (inr (inl refl)) ∙ in_i in
                    let in_ss = inside_along i (step (step i)) li (inr (inr refl)) ∙ in_i in
                    let in_j = hj.inner bj in
                    let four = count_four inside k i (step i) (step (step i)) j li ls lss lj in_i in_s in_ss in_j (corner_apart i li) (far_apart i li) (corner_apart (step i) ls) n1 n2 n3 in
                    omega (arith, few_within, same_count))
              ]
            ]
          ]
        ]
      ]

  pub no_clash : (i j : ℕ) → i < k → j < k → IsHeld step at base p i → IsHeld step at base p j → IsOnFace step i j
  no_clash i j li lj hi hj = one_holds i j li lj (met_as_held i li hi) (met_as_held j lj hj)
