-- No cycle: in a set of faces without that of the base dart, some face has none of the set on its left. The heights are gone over: at each vertex the faces that begin there leave the set, and those left of the edges below it may join.
use Rattle.std.proofs.Common.{◌≡◌, ◌⊎◌, ℕ, zero, suc, ◌<◌, ◌≤◌, Bool, true, false, not, ◌&&◌, ◌||◌, eqb, ltb, refl, sym, ap, ap₂, ◌∙◌, subst, inl, inr, arith}
use Rattle.std.proofs.lemmas.Bool.{cases_Bool, cases_eq, cases_lt, ltb-true, lt-ltb, eqb-true, eq-eqb, or_left, or_right, and_parts, and_from, false≢true, not_from_true, not_from_false, false_from_ne_true, or_cases, not-true, not-false, both_ways, and_left, and_right}
use Rattle.classes.specs.Classes.{label}
use Rattle.classes.proofs.Orbits.{orbits_of, orbits_of-marked}
use Rattle.classes.proofs.Bound.{after}
use Rattle.bipolar.proofs.Upward.{SameTail, InFace, IsBipolar}
use Rattle.bipolar.proofs.Falls.{some_or_none, some_fall}
use Rattle.bipolar.proofs.Faces.{up, twin_in, step_in, steps, step_rank, step_face, corner, is_up, up_from, is_down, down_from, twin_up, one_rise, chain, base_only, face_above}

-- some number below n passes
abbrev pub any_below : (ℕ → Bool) → ℕ → Bool
any_below p zero = false
any_below p (suc n) = any_below p n || p n

pub any_below-from : (p : ℕ → Bool) (n i : ℕ) → i < n → p i ≡ true → any_below p n ≡ true
any_below-from p zero i l t = absurd (omega arith)
any_below-from p (suc n) i l t =
    elim (cases_eq i n) [
      | inl e ↦ or_right (any_below p n) (p n) (ap p (sym e) ∙ t)
      | inr ne ↦ or_left (any_below p n) (p n) (any_below-from p n i (omega arith) t)
    ]

pub any_below-at : (p : ℕ → Bool) (n : ℕ) → any_below p n ≡ true → (i : ℕ) × (i < n) × (p i ≡ true)
any_below-at p zero t = absurd (false≢true t)
any_below-at p (suc n) t =
    elim (cases_Bool (p n)) [
      | inl here ↦ (n, omega arith, here)
      | inr off ↦ (let rest = any_below-at p n (not_last (any_below p n) (p n) off t) in (rest.0, omega (arith, rest.1), rest.2))
    ]
  where
    not_last : (x z : Bool) → z ≡ false → (x || z) ≡ true → x ≡ true
    not_last true z e t = refl
    not_last false z e t = absurd (false≢true (sym e ∙ t))

-- Each face of the set has another of it on its left, by an edge that begins below r; the face of the base dart is not in the set.
pub record IsFed (k : ℕ) (f g y : ℕ → ℕ) (st r : ℕ) (set : ℕ → Bool) : Type 0 where
  pub faces : (i : ℕ) → i < k → set (f (g i)) ≡ set i
  pub off : set st ≡ false
  pub fed : (i : ℕ) → i < k → set i ≡ true → (e : ℕ) × (e < k) × (y e < y (g e)) × (y e < r) × (set e ≡ true) × InFace k f g i (g e)

-- a face with a dart below r, that is in the set or on the left of an edge that ends at height r
abbrev moved : ℕ → (ℕ → ℕ) → (ℕ → ℕ) → (ℕ → ℕ) → ℕ → ℕ → Bool → Bool
moved k f g y r l s =
    any_below (λ x. eqb l (label (orbits_of (after f g) k) x) && ltb (y x) r) k && (s || any_below (λ j. eqb l (label (orbits_of (after f g) k) (g j)) && (eqb (y j) r && not (up g y j))) k)

module _ {k m : ℕ} {f g y : ℕ → ℕ} {st : ℕ} (d : IsBipolar k m f g y st) where
  abbrev face : ℕ → ℕ
  face i = label (orbits_of (after f g) k) i

  -- between two upward edges a face begins, and it has nothing on its left but the one
  back_step : (r : ℕ) (set : ℕ → Bool) → IsFed k f g y st (suc r) set → (i : ℕ) → i < k → y i ≡ r → up g y i ≡ true → up g y (f i) ≡ true → set (f i) ≡ true → set i ≡ true
  back_step r set w i l at u u' s =
      let fl = d.rotates.within i l in
      let gl = twin_in d i l in
      let back = d.pairs.back i l in
      let hi = is_up d i u in
      let hf = is_up d (f i) u' in
      let e = w.fed (f i) fl s in
      let fe = d.rotates.within e.0 e.1 in
      let to_e : InFace k f g (g i) (f e.0) = corner d i l ∙ (e.5 ∙ corner d e.0 e.1) in
      let above : (x : ℕ) → x < k → InFace k f g (g i) x → r ≤ y x =
      λ x lx same. omega (arith, face_above d (g i) x gl lx same (omega (arith, hi, ap y back)) (omega (arith, hf, ap (λ z. y (f z)) back, ap (λ z. y (g (f z))) back)), ap y back, at) in
      let at_e = d.turned e.0 e.1 in
      let low = above (f e.0) fe to_e in
      let up_e : y (f e.0) < y (g (f e.0)) =
      elim (cases_Bool (up g y (f e.0))) [
        | inl t ↦ is_up d (f e.0) t
        | inr t ↦ absurd (omega (arith, above (f (g (f e.0))) (step_in d (f e.0) fe) (to_e ∙ step_face d (f e.0) fe), step_rank d (f e.0) fe, is_down d (f e.0) fe t, at_e, e.3))
      ] in
      let same : f e.0 ≡ f i =
      elim (chain d (f e.0) (f i) fe fl (sym to_e ∙ corner d i l) up_e hf) [
        | inl q ↦ q
        | inr o ↦ elim o [ inl q ↦ absurd (omega (arith, q, up_e, low, d.turned i l, at)) | inr q ↦ absurd (omega (arith, q, hf, at_e, e.3, d.turned i l, at)) ]
      ] in
      ap set (sym (d.rotates.apart e.0 i e.1 l same)) ∙ e.4

  -- the face left of the leftmost upward edge is in the set where some face left of an upward edge is
  record IsLeftmost (r : ℕ) (set : ℕ → Bool) (b : ℕ) : Type 0 where
    pub within : b < k
    pub at : y b ≡ r
    pub down : up g y b ≡ false
    pub next_up : up g y (f b) ≡ true
    pub next_in : set (f b) ≡ true

  tails : (i j : ℕ) → i < k → j < k → SameTail k f i j → y i ≡ y j
  tails = orbits_of-marked y f k d.rotates.within (λ i l. sym (d.turned i l))

  leftmost : (r : ℕ) (set : ℕ → Bool) → IsFed k f g y st (suc r) set → (e : ℕ) → e < k → y e ≡ r → up g y e ≡ true → set e ≡ true → (b : ℕ) × IsLeftmost r set b
  leftmost r set w e l at u s =
      let out : ℕ → Bool = λ i. not (set i && up g y i) in
      let last : out e ≡ false = not_from_true (set e && up g y e) (and_from (set e) (up g y e) s u) in
      let other : (c : ℕ) × (c < k) × SameTail k f c e × (out c ≡ true) =
      elim (cases_eq (y st) (y e)) [
        | inl q ↦ (st, d.base, d.vertices st e d.base l q, not_from_false (set st && up g y st) (and_left (set st) (up g y st) w.off))
        | inr q ↦ (
            let c = d.earlier e l (omega (arith, q, d.least e l)) in
            (c.0, c.1, d.vertices c.0 e c.1 l c.2, not_from_false (set c.0 && up g y c.0) (and_right (set c.0) (up g y c.0) (down_from d c.0 c.3)))
            )
      ] in
      let found = some_fall f k d.rotates out other.0 e other.1 l other.2 other.3 last in
      let b = found.0 in
      let next = and_parts (set (f b)) (up g y (f b)) (not-false (set (f b) && up g y (f b)) found.4) in
      let at_b : y b ≡ r = omega (arith, tails other.0 b other.1 found.1 found.2, tails other.0 e other.1 l other.2, at) in (
        b,
        record {
          within = found.1;
          at = at_b;
          down = false_from_ne_true (up g y b) (λ t. both_ways (set b && up g y b) (not-true (set b && up g y b) found.3) (and_from (set b) (up g y b) (back_step r set w b found.1 at_b t next.1 next.0) t));
          next_up = next.1;
          next_in = next.0;
        },
      )

  module _ (r : ℕ) (set : ℕ → Bool) (w : IsFed k f g y st (suc r) set) (b : ℕ) (first : IsLeftmost r set b) where
    next : ℕ → Bool
    next i = moved k f g y r (face i) (set i)

    -- a face in the next set, by its witnesses
    in_next : (i x : ℕ) → x < k → InFace k f g i x → y x < r → (set i ≡ true) ⊎ ((j : ℕ) × (j < k) × InFace k f g i (g j) × (y j ≡ r) × (up g y j ≡ false)) → next i ≡ true
    unfolding next
    in_next i x lx same low why =
        and_from (any_below (λ x. eqb (face i) (face x) && ltb (y x) r) k) (set i || any_below (λ j. eqb (face i) (face (g j)) && (eqb (y j) r && not (up g y j))) k)
        (any_below-from (λ x. eqb (face i) (face x) && ltb (y x) r) k x lx (and_from (eqb (face i) (face x)) (ltb (y x) r) (eq-eqb (face i) (face x) same) (lt-ltb (y x) r low)))
        (elim why [
          | inl s ↦ or_left (set i) (any_below (λ j. eqb (face i) (face (g j)) && (eqb (y j) r && not (up g y j))) k) s
          | inr j ↦
              or_right (set i) (any_below (λ j. eqb (face i) (face (g j)) && (eqb (y j) r && not (up g y j))) k)
              (any_below-from (λ j. eqb (face i) (face (g j)) && (eqb (y j) r && not (up g y j))) k j.0 j.1
              (and_from (eqb (face i) (face (g j.0))) (eqb (y j.0) r && not (up g y j.0)) (eq-eqb (face i) (face (g j.0)) j.2)
              (and_from (eqb (y j.0) r) (not (up g y j.0)) (eq-eqb (y j.0) r j.3) (not_from_false (up g y j.0) j.4))))
        ])

    old_of : (i : ℕ) → next i ≡ true → (x : ℕ) × (x < k) × InFace k f g i x × (y x < r)
    unfolding next
    old_of i t = grind (arith, and_parts, any_below, eqb, face, ltb, not, up, any_below-at, eqb-true, ltb-true)

    why_of : (i : ℕ) → next i ≡ true → (set i ≡ true) ⊎ ((j : ℕ) × (j < k) × InFace k f g i (g j) × (y j ≡ r) × (up g y j ≡ false))
    unfolding next
    why_of i t = grind (arith, and_parts, any_below, eqb, face, ltb, not, up, or_cases, any_below-at, eqb-true, not-true)

    abbrev Found : ℕ → Type 0
    Found i = (e : ℕ) × (e < k) × (y e < y (g e)) × (y e < r) × (next e ≡ true) × InFace k f g i (g e)

    -- a face on the right of an edge that ends at height r, which is on the left of the next one below
    through : (i j : ℕ) → j < k → y j ≡ r → up g y j ≡ false → InFace k f g i j → Found i
    through i j l at down same =
        let gl = twin_in d j l in
        let low = is_down d j l down in
        let under : y (g j) < r = omega (arith, low, at) in
        (g j, gl, twin_up d j l low, under, in_next (g j) (g j) gl refl under (inr (j, l, refl, at, down)), subst (InFace k f g i) (sym (d.pairs.back j l)) same)

    from_set : (i : ℕ) → i < k → next i ≡ true → set i ≡ true → Found i
    from_set i l t s =
        let x = old_of i t in
        let e = w.fed i l s in
        elim (cases_lt (y e.0) r) [
          | inl low ↦ (e.0, e.1, e.2, low, in_next e.0 e.0 e.1 refl low (inl e.4), e.5)
          | inr high ↦
              let at : y (f e.0) ≡ r = omega (arith, d.turned e.0 e.1, high, e.3) in
              elim (cases_Bool (up g y (f e.0))) [
                | inl u ↦
                    let back = d.pairs.back e.0 e.1 in
                    let hf = is_up d (f e.0) u in
                    let above = face_above d (g e.0) x.0 (twin_in d e.0 e.1) x.1 (sym e.5 ∙ x.2) (omega (arith, e.2, ap y back)) (omega (arith, hf, ap (λ z. y (f z)) back, ap (λ z. y (g (f z))) back)) in
                    absurd (omega (arith, above, ap y back, x.3, high))
                | inr u ↦ through i (f e.0) (d.rotates.within e.0 e.1) at u (e.5 ∙ (corner d e.0 e.1))
              ]
        ]

    set_same : (i j : ℕ) → i < k → j < k → InFace k f g i j → set i ≡ set j
    set_same = orbits_of-marked set (after f g) k (steps d).within (λ i l. sym (w.faces i l))

    next_fed : IsFed k f g y st r next
    unfolding next
    next_fed = record {
      faces = λ i l. ap₂ (moved k f g y r) (sym (step_face d i l)) (w.faces i l);
      off = false_from_ne_true (next st) (λ t. elim (why_of st t) [
        | inl s ↦ false≢true (sym w.off ∙ s)
        | inr j ↦
            let s = base_only d (g j.0) (twin_in d j.0 j.1) j.2 (twin_up d j.0 j.1 (is_down d j.0 j.1 j.4)) in
            let fl = d.rotates.within b first.within in
            absurd (omega (arith, ap (λ z. y (g z)) s, ap y (d.pairs.back j.0 j.1), j.3, first.at, d.turned b first.within, is_up d (f b) first.next_up, d.greatest (g (f b)) (twin_in d (f b) fl)))
      ]);
      fed = λ i l t. elim (why_of i t) [
        | inl s ↦ from_set i l t s
        | inr j ↦
            let fl = d.rotates.within j.0 j.1 in
            let same : InFace k f g i (f j.0) = j.2 ∙ corner d j.0 j.1 in
            elim (cases_Bool (up g y (f j.0))) [
              | inl u ↦
                  let one = one_rise d j.0 b j.1 first.within (d.vertices j.0 b j.1 first.within (j.3 ∙ sym first.at)) j.4 u first.down first.next_up in
                  from_set i l t (set_same i (f j.0) l fl same ∙ (ap (λ z. set (f z)) one ∙ first.next_in))
              | inr u ↦ through i (f j.0) fl (d.turned j.0 j.1 ∙ j.3) u same
            ]
      ];
    }

    next_some : next (f b) ≡ true
    next_some =
        let gl = twin_in d b first.within in
        in_next (f b) (g b) gl (sym (corner d b first.within)) (omega (arith, is_down d b first.within first.down, first.at)) (inl first.next_in)

  -- no set of faces is fed
  pub no_cycle : (r : ℕ) (set : ℕ → Bool) → IsFed k f g y st r set → (i : ℕ) → i < k → set i ≡ true → ⊥
  no_cycle zero set w i l s = let e = w.fed i l s in omega (arith, e.3)
  no_cycle (suc r) set w i l s =
      let test : ℕ → Bool = λ e. set e && (eqb (y e) r && up g y e) in
      elim (some_or_none test k) [
        | inl found ↦
            let e = found.0 in
            let one = and_parts (set e) (eqb (y e) r && up g y e) found.2 in
            let two = and_parts (eqb (y e) r) (up g y e) one.1 in
            let b = leftmost r set w e found.1 (eqb-true (y e) r two.0) two.1 one.0 in
            no_cycle r (next r set w b.0 b.1) (next_fed r set w b.0 b.1) (f b.0) (d.rotates.within b.0 b.1.within) (next_some r set w b.0 b.1)
        | inr none ↦
            no_cycle r set (record {
              faces = w.faces;
              off = w.off;
              fed = λ j lj t.
                  let e = w.fed j lj t in
                  elim (cases_eq (y e.0) r) [
                    | inl at ↦ absurd (false≢true (sym (none e.0 e.1) ∙ and_from (set e.0) (eqb (y e.0) r && up g y e.0) e.4 (and_from (eqb (y e.0) r) (up g y e.0) (eq-eqb (y e.0) r at) (up_from d e.0 e.2))))
                    | inr ne ↦ (e.0, e.1, e.2, omega (arith, ne, e.3), e.4, e.5)
                  ];
            }) i l s
      ]
