-- Numbers of faces that rise from left to right: they order all edges that cross one level, an edge that passes a vertex has all edges of the vertex on one side, and round a vertex they rise and fall once.
use Rattle.std.proofs.Common.{◌≡◌, ◌≢◌, ◌⊎◌, ℕ, zero, suc, ◌+◌, ◌<◌, ◌≤◌, true, false, cond, ltb, refl, sym, ap, ◌∙◌, subst, inl, inr, arith}
use Rattle.std.proofs.lemmas.Bool.{cases_Bool, ltb-true, lt-ltb}
use Rattle.classes.proofs.Classes.{cases_Together}
use Rattle.classes.proofs.Orbits.{orbits_of, orbits_of-marked}
use Rattle.classes.proofs.Bound.{after}
use Rattle.bipolar.proofs.Upward.{SameTail, InFace, IsBipolar, IsRising}
use Rattle.bipolar.proofs.Falls.{kept_on}
use Rattle.bipolar.proofs.Faces.{up, twin_in, steps, corner, is_up, up_from, is_down, down_from, twin_up, chain, base_only, crossing_before}

-- e is left of i: the number of the face on its right is at most that of i
pub record IsLeft (k : ℕ) (f g : ℕ → ℕ) (st : ℕ) (n : ℕ → ℕ) (e i : ℕ) : Type 0 where
  pub inner : ¬ InFace k f g st (g e)
  pub most : n (g e) ≤ n i

-- two edges are one, or one is left of the other
abbrev pub Ordered : ℕ → (ℕ → ℕ) → (ℕ → ℕ) → ℕ → (ℕ → ℕ) → ℕ → ℕ → Type 0
Ordered k f g st n e i = (e ≡ i) ⊎ (IsLeft k f g st n e i ⊎ IsLeft k f g st n i e)

-- an upward dart that crosses the level between r and r + 1
pub record Crosses (k : ℕ) (g y : ℕ → ℕ) (r i : ℕ) : Type 0 where
  pub within : i < k
  pub low : y i ≤ r
  pub high : r < y (g i)

-- the upward dart of an edge
abbrev pub upper : (ℕ → ℕ) → (ℕ → ℕ) → ℕ → ℕ
upper g y j = cond (up g y j) j (g j)

module _ {k m : ℕ} {f g y : ℕ → ℕ} {st : ℕ} (d : IsBipolar k m f g y st) (n : ℕ → ℕ) (w : IsRising k f g y st n) where
  -- one number for a face
  pub same_number : (i j : ℕ) → i < k → j < k → InFace k f g i j → n i ≡ n j
  same_number = orbits_of-marked n (after f g) k (steps d).within (λ i l. sym (w.faces i l))

  -- a dart and that before it
  pub record IsBefore (r i e : ℕ) : Type 0 where
    pub crosses : Crosses k g y r e
    pub face : InFace k f g i (g e)
    pub inner : ¬ InFace k f g st (g e)
    pub number : n (g e) ≡ n i
    pub less : n e < n i

  -- each crossing off the face of the base dart has one before it
  pub one_before : (r i : ℕ) → Crosses k g y r i → ¬ InFace k f g st i → (e : ℕ) × IsBefore r i e
  one_before r i c off =
      let found = crossing_before d i r c.within c.low c.high in
      let e = found.0 in
      let inner : ¬ InFace k f g st (g e) = λ s. off (s ∙ sym found.4) in
      let number = sym (same_number i (g e) c.within (twin_in d e found.1) found.4) in
      let less = w.rises e found.1 (omega (arith, found.2, found.3)) inner in (
        e,
        record {
          crosses = record { within = found.1; low = found.2; high = found.3 };
          face = found.4;
          inner = inner;
          number = number;
          less = omega (arith, less, number);
        },
      )

  turn : (e i : ℕ) → Ordered k f g st n e i → Ordered k f g st n i e
  turn e i o = elim o [ inl s ↦ inl (sym s) | inr o' ↦ elim o' [ inl l ↦ inr (inr l) | inr l ↦ inr (inl l) ] ]

  -- the base dart is left of each other crossing
  from_base : (r i e : ℕ) → Crosses k g y r i → IsBefore r i e → Ordered k f g st n st e → Ordered k f g st n st i
  from_base r i e c b o = grind (arith, InFace)

  -- the darts before two crossings decide how they are ordered
  from_both : (r e i e' i' : ℕ) → Crosses k g y r e → Crosses k g y r i → IsBefore r e e' → IsBefore r i i' → Ordered k f g st n e' i → Ordered k f g st n e i' → Ordered k f g st n e' i' → Ordered k f g st n e i
  from_both r e i e' i' ce ci be bi one two three =
      elim one [
        | inl s ↦ inr (inr (record { inner = λ q. be.inner (subst (λ x. InFace k f g st (g x)) (sym s) q); most = omega (arith, ap (λ x. n (g x)) s, be.number) }))
        | inr o ↦ elim o [
          | inr l ↦ inr (inr (record { inner = l.inner; most = omega (arith, l.most, be.less) }))
          | inl l ↦ elim two [
            | inl s ↦ inr (inl (record { inner = λ q. bi.inner (subst (λ x. InFace k f g st (g x)) s q); most = omega (arith, ap (λ x. n (g x)) s, bi.number) }))
            | inr o' ↦ elim o' [
              | inl l' ↦ inr (inl (record { inner = l'.inner; most = omega (arith, l'.most, bi.less) }))
              | inr l' ↦ elim three [
                | inl s ↦ inl (one_crossing (be.face ∙ subst (λ x. InFace k f g (g x) i) (sym s) (sym bi.face)))
                | inr o'' ↦ elim o'' [
                  | inl l'' ↦ absurd (omega (arith, l.most, l'.most, l''.most, be.number, bi.number, be.less, bi.less))
                  | inr l'' ↦ absurd (omega (arith, l.most, l'.most, l''.most, be.number, bi.number, be.less, bi.less))
                ]
              ]
            ]
          ]
        ]
      ]
    where
      one_crossing : InFace k f g e i → e ≡ i
      one_crossing same =
          elim (chain d e i ce.within ci.within same (omega (arith, ce.low, ce.high)) (omega (arith, ci.low, ci.high))) [
            | inl s ↦ s
            | inr o ↦ elim o [ inl x ↦ absurd (omega (arith, x, ce.low, ce.high, ci.low, ci.high)) | inr x ↦ absurd (omega (arith, x, ce.low, ce.high, ci.low, ci.high)) ]
          ]

  only_base : (r i : ℕ) → Crosses k g y r i → InFace k f g st i → i ≡ st
  only_base r i c same = base_only d i c.within same (omega (arith, c.low, c.high))

  ordered : (bound r e i : ℕ) → Crosses k g y r e → Crosses k g y r i → n e + n i < bound → Ordered k f g st n e i
  ordered zero r e i ce ci le = absurd (omega arith)
  ordered (suc bound) r e i ce ci le =
      elim (cases_Together (orbits_of (after f g) k) st e) [
        | inl se ↦
            let eb = only_base r e ce se in
            elim (cases_Together (orbits_of (after f g) k) st i) [
              | inl si ↦ inl (eb ∙ sym (only_base r i ci si))
              | inr ni ↦
                  let b = one_before r i ci ni in
                  subst (λ x. Ordered k f g st n x i) (sym eb) (from_base r i b.0 ci b.1 (subst (λ x. Ordered k f g st n x b.0) eb (ordered bound r e b.0 ce b.1.crosses (omega (arith, le, b.1.less)))))
            ]
        | inr ne ↦
            let a = one_before r e ce ne in
            elim (cases_Together (orbits_of (after f g) k) st i) [
              | inl si ↦
                  let ib = only_base r i ci si in
                  subst (λ x. Ordered k f g st n e x) (sym ib) (turn st e (from_base r e a.0 ce a.1 (subst (λ x. Ordered k f g st n x a.0) ib (turn a.0 i (ordered bound r a.0 i a.1.crosses ci (omega (arith, le, a.1.less)))))))
              | inr ni ↦
                  let b = one_before r i ci ni in
                  from_both r e i a.0 b.0 ce ci a.1 b.1
                  (ordered bound r a.0 i a.1.crosses ci (omega (arith, le, a.1.less)))
                  (ordered bound r e b.0 ce b.1.crosses (omega (arith, le, b.1.less)))
                  (ordered bound r a.0 b.0 a.1.crosses b.1.crosses (omega (arith, le, a.1.less, b.1.less)))
            ]
      ]

  -- of two edges that cross one level one is left of the other
  pub compare : (r e i : ℕ) → Crosses k g y r e → Crosses k g y r i → Ordered k f g st n e i
  compare r e i ce ci = ordered (n e + n i + 1) r e i ce ci (omega arith)

  -- the number of the face on the left of a dart's edge
  pub column : ℕ → ℕ
  column j = n (upper g y j)

  column_up : (j : ℕ) → up g y j ≡ true → column j ≡ n j
  unfolding column
  column_up j e = rw e refl

  column_down : (j : ℕ) → up g y j ≡ false → column j ≡ n (g j)
  unfolding column
  column_down j e = rw e refl

  pub column_of_up : (j : ℕ) → y j < y (g j) → column j ≡ n j
  column_of_up j l = column_up j (up_from d j l)

  pub column_of_down : (j : ℕ) → y (g j) < y j → column j ≡ n (g j)
  column_of_down j l = column_down j (down_from d j l)

  -- What is known of the two edges next to each other at a vertex, that of j and that of f j, by which of them go upwards.
  pub record IsNext (j : ℕ) : Type 0 where
    pub both_up : y j < y (g j) → y (f j) < y (g (f j)) → f j ≢ st → column j < column (f j)
    pub both_down : y (g j) < y j → y (g (f j)) < y (f j) → g j ≢ st → column (f j) < column j

  pub is_next : (j : ℕ) → j < k → IsNext j
  is_next j l =
      let fl = d.rotates.within j l in
      let gl = twin_in d j l in
      let same = corner d j l in
      let number = same_number (g j) (f j) gl fl same in
      record {
        both_up = λ u u' ne.
            omega (arith, w.rises j l u (λ q. ne (base_only d (f j) fl (q ∙ same) u')), number, column_of_up j u, column_of_up (f j) u');
        both_down = λ u u' ne.
            let back = d.pairs.back (f j) fl in
            let inner : ¬ InFace k f g st (g (g (f j))) = λ q. ne (base_only d (g j) gl (subst (InFace k f g st) back q ∙ sym same) (twin_up d j l u)) in
            let rise = w.rises (g (f j)) (twin_in d (f j) fl) (twin_up d (f j) fl u') inner in
            omega (arith, rise, number, ap n back, column_of_down j u, column_of_down (f j) u');
      }

  -- ---- an edge that passes a vertex
  -- the edge of e passes the vertex of j
  pub record Passes (e j : ℕ) : Type 0 where
    pub within : e < k
    pub below : y e < y j
    pub above : y j < y (g e)

  -- the edge of e is left of that of j, or right of it
  abbrev Beside : ℕ → ℕ → Type 0
  Beside e j = IsLeft k f g st n e (upper g y j) ⊎ IsLeft k f g st n (upper g y j) e

  beside : (e j : ℕ) → j < k → Passes e j → Beside e j
  beside e j l p =
      elim (cases_Bool (up g y j)) [
        | inl t ↦
            let u = is_up d j t in
            let o = compare (y j) e j (record { within = p.within; low = omega (arith, p.below); high = p.above }) (record { within = l; low = omega arith; high = u }) in
            rw t (elim o [ inl s ↦ absurd (omega (arith, p.below, ap y s)) | inr o' ↦ o' ])
        | inr t ↦
            by_level (y j) refl (is_down d j l t) (ap y (d.pairs.back j l)) t
      ]
    where
      by_level : (v : ℕ) → v ≡ y j → y (g j) < y j → y (g (g j)) ≡ y j → up g y j ≡ false → Beside e j
      by_level zero s u back t = absurd (omega (arith, s, u))
      by_level (suc r) s u back t =
          let o = compare r e (g j) (record { within = p.within; low = omega (arith, p.below, s); high = omega (arith, p.above, s) }) (record { within = twin_in d j l; low = omega (arith, u, s); high = omega (arith, back, s) }) in
          rw t (elim o [ inl q ↦ absurd (omega (arith, p.above, back, ap (λ x. y (g x)) q)) | inr o' ↦ o' ])

  beside_left : (e j : ℕ) → j < k → Passes e j → IsLeft k f g st n e (upper g y j) → n e < column j
  unfolding column
  beside_left e j l p x = omega (arith, w.rises e p.within (omega (arith, p.below, p.above)) x.inner, x.most)

  upper_in : (j : ℕ) → j < k → upper g y j < k
  upper_in j l = elim (cases_Bool (up g y j)) [ inl t ↦ rw t l | inr t ↦ rw t (twin_in d j l) ]

  upper_up : (j : ℕ) → j < k → y (upper g y j) < y (g (upper g y j))
  upper_up j l = elim (cases_Bool (up g y j)) [ inl t ↦ rw t (is_up d j t) | inr t ↦ rw t (twin_up d j l (is_down d j l t)) ]

  beside_right : (e j : ℕ) → j < k → Passes e j → IsLeft k f g st n (upper g y j) e → column j < n e
  unfolding column
  beside_right e j l p x = omega (arith, w.rises (upper g y j) (upper_in j l) (upper_up j l) x.inner, x.most)

  -- the edge of e is left of the edge of f j where it is left of that of j, and right of it where it is right
  left_next : (e j : ℕ) → j < k → Passes e j → Passes e (f j) → IsLeft k f g st n e (upper g y j) → IsLeft k f g st n (upper g y (f j)) e → ⊥
  left_next e j l p p' a b =
      let fl = d.rotates.within j l in
      let same = corner d j l in
      let number = same_number (g j) (f j) (twin_in d j l) fl same in
      let back = d.pairs.back (f j) fl in
      let rise = w.rises e p.within (omega (arith, p.below, p.above)) a.inner in
      elim (cases_Bool (up g y j)) [
        | inl t ↦
            let a' = rw t at a in
            let u = is_up d j t in
            elim (cases_Bool (up g y (f j))) [
              | inl t' ↦
                  let b' = rw t' at b in
                  let inner : ¬ InFace k f g st (g j) = λ q. let s = base_only d (f j) fl (q ∙ same) (is_up d (f j) t') in omega (arith, p'.below, ap y s, d.least e p.within) in
                  omega (arith, rise, w.rises (f j) fl (is_up d (f j) t') b'.inner, w.rises j l u inner, a'.most, b'.most, number)
              | inr t' ↦
                  let b' = rw t' at b in
                  let inner : ¬ InFace k f g st (g j) = λ q. b'.inner (subst (InFace k f g st) (sym back) (q ∙ same)) in
                  omega (arith, rise, w.rises j l u inner, a'.most, b'.most, number, ap n back)
            ]
        | inr t ↦
            let a' = rw t at a in
            elim (cases_Bool (up g y (f j))) [
              | inl t' ↦
                  let b' = rw t' at b in
                  omega (arith, rise, w.rises (f j) fl (is_up d (f j) t') b'.inner, a'.most, b'.most, number)
              | inr t' ↦
                  omega (arith, rise, a'.most, (rw t' at b).most, number, ap n back)
            ]
      ]

  right_next : (e j : ℕ) → j < k → Passes e j → Passes e (f j) → IsLeft k f g st n (upper g y j) e → IsLeft k f g st n e (upper g y (f j)) → ⊥
  right_next e j l p p' a b =
      let fl = d.rotates.within j l in
      let gl = twin_in d j l in
      let same = corner d j l in
      let number = same_number (g j) (f j) gl fl same in
      let back = d.pairs.back (f j) fl in
      let rise = w.rises e p.within (omega (arith, p.below, p.above)) b.inner in
      elim (cases_Bool (up g y j)) [
        | inl t ↦
            let a' = rw t at a in
            elim (cases_Bool (up g y (f j))) [
              | inl t' ↦ (let b' = rw t' at b in omega (arith, rise, a'.most, b'.most, number))
              | inr t' ↦
                  let inner : ¬ InFace k f g st (g (g (f j))) = λ q. a'.inner (subst (InFace k f g st) back q ∙ sym same) in
                  let rise' = w.rises (g (f j)) (twin_in d (f j) fl) (twin_up d (f j) fl (is_down d (f j) fl t')) inner in
                  omega (arith, rise, rise', a'.most, (rw t' at b).most, number, ap n back)
            ]
        | inr t ↦
            let a' = rw t at a in
            let rise'' = w.rises (g j) gl (twin_up d j l (is_down d j l t)) a'.inner in
            elim (cases_Bool (up g y (f j))) [
              | inl t' ↦ (let b' = rw t' at b in omega (arith, rise, rise'', a'.most, b'.most, number))
              | inr t' ↦
                  let inner : ¬ InFace k f g st (g (g (f j))) =
                  λ q. let s = base_only d (g j) gl (subst (InFace k f g st) back q ∙ sym same) (twin_up d j l (is_down d j l t)) in omega (arith, p.above, ap (λ x. y (g x)) s, ap y (d.pairs.back j l), d.greatest (g e) (twin_in d e p.within)) in
                  let rise' = w.rises (g (f j)) (twin_in d (f j) fl) (twin_up d (f j) fl (is_down d (f j) fl t')) inner in
                  omega (arith, rise, rise', rise'', a'.most, (rw t' at b).most, number, ap n back)
            ]
      ]

  passes_at : (e i j : ℕ) → y i ≡ y j → Passes e i → Passes e j
  passes_at e i j s p = record { within = p.within; below = omega (arith, p.below, s); above = omega (arith, p.above, s) }

  pub tails : (i j : ℕ) → i < k → j < k → SameTail k f i j → y i ≡ y j
  tails = orbits_of-marked y f k d.rotates.within (λ i l. sym (d.turned i l))

  -- an edge that passes a vertex is left of all its edges, or right of all
  pub one_side : (e i : ℕ) → i < k → Passes e i → ((j : ℕ) → j < k → y j ≡ y i → n e < column j) ⊎ ((j : ℕ) → j < k → y j ≡ y i → column j < n e)
  one_side e i l p =
      elim (beside e i l p) [
        | inl a ↦
            inl (λ j lj s. ltb-true (n e) (column j) (kept_on f k d.rotates (λ x. ltb (n e) (column x)) i j l lj (d.vertices i j l lj (sym s))
            (λ x lx same t.
            let px = passes_at e i x (tails i x l lx same) p in
            let px' = passes_at e x (f x) (sym (d.turned x lx)) px in
            let fx = d.rotates.within x lx in
            elim (beside e x lx px) [
              | inl ax ↦ elim (beside e (f x) fx px') [ inl bx ↦ lt-ltb (n e) (column (f x)) (beside_left e (f x) fx px' bx) | inr bx ↦ absurd (left_next e x lx px px' ax bx) ]
              | inr ax ↦ absurd (omega (arith, ltb-true (n e) (column x) t, beside_right e x lx px ax))
            ])
            (lt-ltb (n e) (column i) (beside_left e i l p a))))
        | inr a ↦
            inr (λ j lj s. ltb-true (column j) (n e) (kept_on f k d.rotates (λ x. ltb (column x) (n e)) i j l lj (d.vertices i j l lj (sym s))
            (λ x lx same t.
            let px = passes_at e i x (tails i x l lx same) p in
            let px' = passes_at e x (f x) (sym (d.turned x lx)) px in
            let fx = d.rotates.within x lx in
            elim (beside e x lx px) [
              | inr ax ↦ elim (beside e (f x) fx px') [ inr bx ↦ lt-ltb (column (f x)) (n e) (beside_right e (f x) fx px' bx) | inl bx ↦ absurd (right_next e x lx px px' ax bx) ]
              | inl ax ↦ absurd (omega (arith, ltb-true (column x) (n e) t, beside_left e x lx px ax))
            ])
            (lt-ltb (column i) (n e) (beside_right e i l p a))))
      ]
