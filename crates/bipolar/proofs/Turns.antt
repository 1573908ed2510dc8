-- Round a vertex the upward edges come by rising column and then the downward ones by falling column: just one edge does not come before the next.
use Rattle.std.proofs.Common.{◌≡◌, ◌⊎◌, ℕ, ◌<◌, true, false, not, sym, ap, ◌∙◌, subst, inl, inr, arith}
use Rattle.std.proofs.lemmas.Bool.{cases_Bool, cases_eq, not_from_true, not_from_false, not-true, not-false}
use Rattle.bipolar.proofs.Upward.{IsBipolar, IsRising}
use Rattle.bipolar.proofs.Falls.{some_fall, before}
use Rattle.bipolar.proofs.Faces.{up, twin_in, is_up, up_from, is_down, down_from, one_rise, base_up}
use Rattle.bipolar.proofs.RisingNumbers.{column, column_of_up, column_of_down, is_next, tails}

module _ {k m : ℕ} {f g y : ℕ → ℕ} {st : ℕ} (d : IsBipolar k m f g y st) (n : ℕ → ℕ) (w : IsRising k f g y st n) where
  abbrev pub Up : ℕ → Type 0
  Up j = y j < y (g j)

  -- the edge of j comes before that of f j
  abbrev pub IsEarlier : ℕ → Type 0
  IsEarlier j =
      (Up j × ¬ Up (f j)) ⊎ ((Up j × Up (f j) × (column d n w j < column d n w (f j))) ⊎ ((¬ Up j) × (¬ Up (f j)) × (column d n w (f j) < column d n w j)))

  -- where it does not, the next one is the first upward edge, or the base is the next one or this one
  kinds : (j : ℕ) → j < k → ¬ IsEarlier j → ((up g y j ≡ false) × (up g y (f j) ≡ true)) ⊎ ((f j ≡ st) ⊎ (g j ≡ st))
  kinds j l late =
      let fl = d.rotates.within j l in
      let next = is_next d n w j l in
      elim (cases_Bool (up g y j)) [
        | inl t ↦
            let u = is_up d j t in
            elim (cases_Bool (up g y (f j))) [
              | inl t' ↦ elim (cases_eq (f j) st) [
                | inl s ↦ inr (inl s)
                | inr ne ↦ absurd (late (inr (inl (u, is_up d (f j) t', next.both_up u (is_up d (f j) t') ne))))
              ]
              | inr t' ↦ (let low = is_down d (f j) fl t' in absurd (late (inl (u, λ q. omega arith))))
            ]
        | inr t ↦
            let low = is_down d j l t in
            elim (cases_Bool (up g y (f j))) [
              | inl t' ↦ inl (t, t')
              | inr t' ↦
                  let low' = is_down d (f j) fl t' in
                  elim (cases_eq (g j) st) [
                    | inl s ↦ inr (inr s)
                    | inr ne ↦ absurd (late (inr (inr ((λ q. omega arith), (λ q. omega arith), next.both_down low low' ne))))
                  ]
            ]
      ]

  base_column : column d n w st ≡ 0
  base_column = column_of_up d n w st (base_up d) ∙ w.first

  -- some edge of a vertex does not come before the next
  pub some_break : (i : ℕ) → i < k → (j : ℕ) × (j < k) × (y j ≡ y i) × ¬ IsEarlier j
  some_break i l =
      elim (cases_eq (y i) (y st)) [
        | inl s ↦
            let j = before f k d.rotates st d.base in
            let up_next : Up (f j.0) = subst (λ x. Up x) (sym j.3) (base_up d) in
            let low : column d n w (f j.0) ≡ 0 = ap (column d n w) j.3 ∙ base_column in (
              j.0,
              j.1,
              omega (arith, s, tails d n w st j.0 d.base j.1 j.2),
              λ e. elim e [ inl a ↦ a.1 up_next | inr o ↦ elim o [ inl a ↦ (let less = a.2 in omega arith) | inr a ↦ a.1 up_next ] ],
            )
        | inr ns ↦ elim (cases_eq (y i) (y (g st))) [
          | inl s ↦
              let back = d.pairs.back st d.base in
              let low : y (g (g st)) < y (g st) = omega (arith, base_up d, ap y back) in
              let zero_column : column d n w (g st) ≡ 0 = column_of_down d n w (g st) low ∙ (ap n back ∙ w.first) in (
                g st,
                (twin_in d st d.base),
                sym s,
                λ e. elim e [ inl a ↦ (let less = a.0 in omega arith) | inr o ↦ elim o [ inl a ↦ (let less = a.0 in omega arith) | inr a ↦ (let less = a.2 in omega arith) ] ],
              )
          | inr nt ↦
              let c = d.earlier i l (omega (arith, d.least i l, ns)) in
              let e = d.later i l (omega (arith, d.greatest i l, nt)) in
              let same = d.vertices c.0 e.0 c.1 e.1 (c.2 ∙ sym e.2) in
              let j = some_fall f k d.rotates (λ x. not (up g y x)) c.0 e.0 c.1 e.1 same (not_from_false (up g y c.0) (down_from d c.0 c.3)) (not_from_true (up g y e.0) (up_from d e.0 e.3)) in
              let low = is_down d j.0 j.1 (not-true (up g y j.0) j.3) in
              let high = is_up d (f j.0) (not-false (up g y (f j.0)) j.4) in (
                j.0,
                j.1,
                omega (arith, tails d n w c.0 j.0 c.1 j.1 j.2, c.2),
                λ x. elim x [ inl a ↦ a.1 high | inr o ↦ elim o [ inl a ↦ (let less = a.0 in omega arith) | inr a ↦ a.1 high ] ],
              )
        ]
      ]

  -- at the vertex of the base no edge goes down, and at that of its twin none goes up
  at_base : (i : ℕ) → i < k → f i ≡ st → (j : ℕ) → j < k → y i ≡ y j → up g y j ≡ false → ⊥
  at_base i l s j lj same down = omega (arith, is_down d j lj down, d.least (g j) (twin_in d j lj), d.turned i l, ap y s)

  at_top : (i : ℕ) → i < k → g i ≡ st → (j : ℕ) → j < k → y i ≡ y j → up g y j ≡ true → ⊥
  at_top i l s j lj same high = omega (arith, is_up d j high, d.greatest (g j) (twin_in d j lj), ap y (d.pairs.back i l), ap (λ x. y (g x)) s)

  -- and just one
  pub one_break : (i j : ℕ) → i < k → j < k → y i ≡ y j → ¬ IsEarlier i → ¬ IsEarlier j → i ≡ j
  one_break i j li lj same bi bj =
      let fi = d.rotates.within i li in
      elim (kinds i li bi) [
        | inl a ↦ elim (kinds j lj bj) [
          | inl b ↦ one_rise d i j li lj (d.vertices i j li lj same) a.0 a.1 b.0 b.1
          | inr o ↦ elim o [ inl s ↦ absurd (at_base j lj s i li (sym same) a.0) | inr s ↦ absurd (at_top j lj s (f i) fi (sym same ∙ sym (d.turned i li)) a.1) ]
        ]
        | inr o ↦ elim o [
          | inl s ↦ elim (kinds j lj bj) [
            | inl b ↦ absurd (at_base i li s j lj same b.0)
            | inr o' ↦ elim o' [
              | inl s' ↦ d.rotates.apart i j li lj (s ∙ sym s')
              | inr s' ↦ absurd (omega (arith, d.turned i li, ap y s, same, ap y (d.pairs.back j lj), ap (λ x. y (g x)) s', base_up d))
            ]
          ]
          | inr s ↦ elim (kinds j lj bj) [
            | inl b ↦ absurd (at_top i li s (f j) (d.rotates.within j lj) (same ∙ sym (d.turned j lj)) b.1)
            | inr o' ↦ elim o' [
              | inl s' ↦ absurd (omega (arith, d.turned j lj, ap y s', same, ap y (d.pairs.back i li), ap (λ x. y (g x)) s, base_up d))
              | inr s' ↦ sym (d.pairs.back i li) ∙ (ap g (s ∙ sym s') ∙ d.pairs.back j lj)
            ]
          ]
        ]
      ]
