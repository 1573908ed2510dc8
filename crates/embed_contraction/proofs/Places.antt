-- How two sets of places lie: by a place of the one that is none of the other, and the places of the other before and after it.
use Rattle.std.proofs.Common.{◌≡◌, ◌⊎◌, ℕ, zero, suc, ◌+◌, ◌-◌, ◌<◌, ◌≤◌, Bool, true, false, not, ◌&&◌, sym, ap, ◌∙◌, subst, inl, inr, arith}
use Rattle.std.proofs.lemmas.Bool.{cases_Bool, cases_eq, cases_lt, true≢false, and_from, and_parts}
use Rattle.embed_contraction.proofs.Rings.{HasTwo, Lie, Lie.in_gap, Lie.around, Lie.alternate, Lie.alternate', Lie.common}

-- no place from one to before another
abbrev None : (ℕ → Bool) → ℕ → ℕ → Type 0
None p from end = (j : ℕ) → from ≤ j → j < end → p j ≡ false

-- the least place from one on, or none
least_from : (p : ℕ → Bool) (from len : ℕ) → None p from (from + len) ⊎ ((i : ℕ) × (from ≤ i) × (i < from + len) × (p i ≡ true) × None p from i)
least_from p from zero = inl (λ j l m. absurd (omega arith))
least_from p from (suc len) =
    elim (least_from p from len) [
      | inr r ↦ let l = r.2 in inr (r.0, r.1, omega arith, r.3, r.4)
      | inl none ↦ elim (cases_Bool (p (from + len))) [
        | inl t ↦ inr (from + len, omega arith, omega arith, t, none)
        | inr f ↦ inl (λ j l m. elim (cases_eq j (from + len)) [ inl e ↦ ap p e ∙ f | inr ne ↦ none j l (omega arith) ])
      ]
    ]

-- the greatest place from one to before another, or none
greatest_below : (p : ℕ → Bool) (from len : ℕ) → None p from (from + len) ⊎ ((i : ℕ) × (from ≤ i) × (i < from + len) × (p i ≡ true) × None p (suc i) (from + len))
greatest_below p from zero = inl (λ j l m. absurd (omega arith))
greatest_below p from (suc len) =
    elim (cases_Bool (p (from + len))) [
      | inl t ↦ inr (from + len, omega arith, omega arith, t, λ j l m. absurd (omega arith))
      | inr f ↦
          let last : (j : ℕ) → j < from + suc len → (j < from + len → p j ≡ false) → p j ≡ false = λ j m h.
          elim (cases_eq j (from + len)) [ inl e ↦ ap p e ∙ f | inr ne ↦ h (omega arith) ] in
          elim (greatest_below p from len) [
            | inl none ↦ inl (λ j l m. last j m (λ n. none j l n))
            | inr r ↦ let l = r.2 in inr (r.0, r.1, omega arith, r.3, λ j n m. last j m (λ k. r.4 j n k))
          ]
    ]

-- the same with an end
least_in : (p : ℕ → Bool) (from end : ℕ) → None p from end ⊎ ((i : ℕ) × (from ≤ i) × (i < end) × (p i ≡ true) × None p from i)
least_in p from end =
    elim (cases_lt end from) [
      | inl l ↦ inl (λ j m n. absurd (omega arith))
      | inr l ↦ let e : from + (end - from) ≡ end = omega arith in
          elim (least_from p from (end - from)) [
            | inl none ↦ inl (subst (None p from) e none)
            | inr r ↦ let m = r.2 in inr (r.0, r.1, omega arith, r.3, r.4)
          ]
    ]

greatest_in : (p : ℕ → Bool) (from end : ℕ) → None p from end ⊎ ((i : ℕ) × (from ≤ i) × (i < end) × (p i ≡ true) × None p (suc i) end)
greatest_in p from end =
    elim (cases_lt end from) [
      | inl l ↦ inl (λ j m n. absurd (omega arith))
      | inr l ↦ let e : from + (end - from) ≡ end = omega arith in
          elim (greatest_below p from (end - from)) [
            | inl none ↦ inl (subst (None p from) e none)
            | inr r ↦ let m = r.2 in inr (r.0, r.1, omega arith, r.3, subst (None p (suc r.0)) e r.4)
          ]
    ]

-- a place that passes is not among those that do not
within_none : (p : ℕ → Bool) (from end j : ℕ) → None p from end → p j ≡ true → from ≤ j → j < end → ⊥
within_none p from end j none t l m = true≢false (sym t ∙ none j l m)

module _ (n : ℕ) (X Y : ℕ → Bool) (x : HasTwo n X) (y : HasTwo n Y) where
  -- X stands on one side alone of a place of Y that is not of X: it ends at i and k
  one_side : (s : ℕ) → s < n → Y s ≡ true → X s ≡ false → None X 0 s ⊎ None X (suc s) n → Lie n X Y
  one_side s l t f side =
      elim (least_in X 0 n) [
        | inl none ↦ absurd (within_none X 0 n x.one none x.passes.0 (omega arith) (omega arith))
        | inr low ↦ elim (greatest_in X 0 n) [
          | inl none ↦ absurd (within_none X 0 n x.one none x.passes.0 (omega arith) (omega arith))
          | inr high ↦
              let i = low.0 in
              let k = high.0 in
              let in_k = high.2 in
              let not_low : (j : ℕ) → X j ≡ true → i ≤ j = λ j u. elim (cases_lt j i) [ inl m ↦ absurd (within_none X 0 i j low.4 u (omega arith) m) | inr m ↦ m ] in
              let not_high : (j : ℕ) → j < n → X j ≡ true → j ≤ k = λ j m u. elim (cases_lt k j) [ inl m' ↦ absurd (within_none X (suc k) n j high.4 u (omega arith) m) | inr m' ↦ m' ] in
              let a = not_low x.one x.passes.0 in
              let b = not_high x.other (omega arith) x.passes.1 in
              let order : i < k = omega arith in
              elim (least_in Y (suc i) k) [
                | inl none ↦ around i k record { order = order; within = in_k; first = low.3; last = high.3; all = λ j m u. (not_low j u, not_high j m u); none = λ j m m'. none j (omega arith) m' }
                | inr z ↦
                    elim side [
                      | inl before ↦
                          let far : s < i = elim (cases_lt s i) [ inl m ↦ m | inr m ↦ elim (cases_eq s i) [ inl e ↦ absurd (true≢false (sym low.3 ∙ (ap X (sym e) ∙ f))) | inr ne ↦ absurd (within_none X 0 s i before low.3 (omega arith) (omega arith)) ] ] in
                          alternate' s i z.0 k record { order = (far, omega arith, z.2, in_k); odd = (t, z.3); even = (low.3, high.3) }
                      | inr after ↦
                          let far : k < s = elim (cases_lt k s) [ inl m ↦ m | inr m ↦ elim (cases_eq s k) [ inl e ↦ absurd (true≢false (sym high.3 ∙ (ap X (sym e) ∙ f))) | inr ne ↦ absurd (within_none X (suc s) n k after high.3 (omega arith) in_k) ] ] in
                          alternate i z.0 k s record { order = (omega arith, z.2, far, l); odd = (low.3, high.3); even = (z.3, t) }
                    ]
              ]
        ]
      ]

  -- a place of Y that is not of X
  by_other : (s : ℕ) → s < n → Y s ≡ true → X s ≡ false → Lie n X Y
  by_other s l t f =
      elim (greatest_in X 0 s) [
        | inl none ↦ one_side s l t f (inl none)
        | inr low ↦ elim (least_in X (suc s) n) [
          | inl none ↦ one_side s l t f (inr none)
          | inr high ↦
              let i = low.0 in
              let k = high.0 in
              let in_i = low.2 in
              let in_k' = high.2 in
              elim (least_in Y 0 i) [
                | inr z ↦ let m = z.2 in alternate' z.0 i s k record { order = (m, in_i, omega arith, in_k'); odd = (z.3, t); even = (low.3, high.3) }
                | inl none ↦ elim (least_in Y (suc k) n) [
                  | inr z ↦ let m = z.1 in let m' = z.2 in alternate i s k z.0 record { order = (in_i, omega arith, omega arith, m'); odd = (low.3, high.3); even = (t, z.3) }
                  | inl none' ↦ in_gap i k record {
                    order = omega arith;
                    within = in_k';
                    first = low.3;
                    last = high.3;
                    none = λ j m m'. elim (cases_eq j s) [
                      | inl e ↦ ap X e ∙ f
                      | inr ne ↦ elim (cases_lt j s) [ inl b ↦ low.4 j (omega arith) b | inr b ↦ high.4 j (omega arith) m' ]
                    ];
                    all = λ j m u. (
                      elim (cases_lt j i) [ inl b ↦ absurd (within_none Y 0 i j none u (omega arith) b) | inr b ↦ b ],
                      elim (cases_lt k j) [ inl b ↦ absurd (within_none Y (suc k) n j none' u (omega arith) m) | inr b ↦ b ],
                    );
                  }
                ]
              ]
        ]
      ]

  -- each place of Y is of X: by the first and the last
  all_of : ((j : ℕ) → j < n → Y j ≡ true → X j ≡ true) → Lie n X Y
  all_of both =
      elim (least_in Y 0 n) [
        | inl none ↦ absurd (within_none Y 0 n y.one none y.passes.0 (omega arith) (omega arith))
        | inr low ↦ elim (greatest_in Y 0 n) [
          | inl none ↦ absurd (within_none Y 0 n y.one none y.passes.0 (omega arith) (omega arith))
          | inr high ↦
              let i = low.0 in
              let k = high.0 in
              let in_k = high.2 in
              let not_low : (j : ℕ) → Y j ≡ true → i ≤ j = λ j u. elim (cases_lt j i) [ inl m ↦ absurd (within_none Y 0 i j low.4 u (omega arith) m) | inr m ↦ m ] in
              let not_high : (j : ℕ) → j < n → Y j ≡ true → j ≤ k = λ j m u. elim (cases_lt k j) [ inl m' ↦ absurd (within_none Y (suc k) n j high.4 u (omega arith) m) | inr m' ↦ m' ] in
              let a = not_low y.one y.passes.0 in
              let b = not_high y.other (omega arith) y.passes.1 in
              let order : i < k = omega arith in
              let x_i = both i low.2 low.3 in
              let x_k = both k in_k high.3 in
              elim (least_in Y (suc i) k) [
                | inr z ↦
                    let m' = z.2 in
                    common i z.0 k record { order = (omega arith, m', in_k); of_X = (x_i, both z.0 (omega arith) z.3, x_k); of_Y = (low.3, z.3, high.3) }
                | inl none ↦ elim (least_in X (suc i) k) [
                  | inl free ↦ in_gap i k record { order = order; within = in_k; first = x_i; last = x_k; none = λ j m m'. free j (omega arith) m'; all = λ j m u. (not_low j u, not_high j m u) }
                  | inr z ↦
                      let m' = z.2 in
                      elim (least_in X 0 i) [
                        | inr w ↦ let q = w.2 in alternate w.0 i z.0 k record { order = (q, omega arith, m', in_k); odd = (w.3, z.3); even = (low.3, high.3) }
                        | inl before ↦ elim (least_in X (suc k) n) [
                          | inr w ↦ let q = w.1 in let q' = w.2 in alternate' i z.0 k w.0 record { order = (omega arith, m', omega arith, q'); odd = (low.3, high.3); even = (z.3, w.3) }
                          | inl after ↦ around i k record {
                            order = order;
                            within = in_k;
                            first = x_i;
                            last = x_k;
                            all = λ j d u. (
                              elim (cases_lt j i) [ inl c ↦ absurd (within_none X 0 i j before u (omega arith) c) | inr c ↦ c ],
                              elim (cases_lt k j) [ inl c ↦ absurd (within_none X (suc k) n j after u (omega arith) d) | inr c ↦ c ],
                            );
                            none = λ j d d'. none j (omega arith) d';
                          }
                        ]
                      ]
                ]
              ]
        ]
      ]

-- Of two sets of places round a ring, each of two at least, the one lies in a gap of the other, or four places alternate, or three are in both.
pub two_sets_lie : (n : ℕ) (X Y : ℕ → Bool) → HasTwo n X → HasTwo n Y → Lie n X Y
two_sets_lie n X Y x y =
    elim (least_in (λ j. Y j && not (X j)) 0 n) [
      | inr r ↦
          let parts = and_parts (Y r.0) (not (X r.0)) r.3 in
          by_other n X Y x y r.0 r.2 parts.0 (elim (cases_Bool (X r.0)) [ inl t ↦ absurd (true≢false (sym parts.1 ∙ ap not t)) | inr f ↦ f ])
      | inl none ↦
          all_of n X Y x y (λ j l t.
          elim (cases_Bool (X j)) [ inl u ↦ u | inr f ↦ absurd (within_none (λ j. Y j && not (X j)) 0 n j none (and_from (Y j) (not (X j)) t (ap not f)) (omega arith) l) ])
    ]
