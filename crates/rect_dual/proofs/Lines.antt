-- A line more, and a thing more on a line.
use Rattle.std.proofs.Common.{◌≡◌, ◌≢◌, ℕ, suc, ◌-◌, ◌<◌, ◌≤◌, cond, ltb, List, length, get_or, set, refl, sym, ap, ◌∙◌, arith, inl, inr, length-set, get_or-set_same, get_or-set_other}
use Rattle.std.proofs.lemmas.Bool.{cases_eq, cases_lt, cond-true, cond-false, lt-ltb, le-ltb}
use Rattle.rect_runs.specs.Numbers.{shifted, with_new}
use Rattle.rect_runs.proofs.Steps.{shifted-low, shifted-high, with_new-older, with_new-new}
use Rattle.rect_dual.specs.Lines.{AreLines}

-- a table after one write
set_at : (xs : List ℕ) (z a v : ℕ) → z < length xs → v ≡ z → get_or (set xs z a) v 0 ≡ a
set_at xs z a v l e = ap (λ u. get_or (set xs z a) u 0) e ∙ get_or-set_same xs z a 0 l

module _ (f : ℕ → ℕ) (m q first : ℕ) (lines next : List ℕ) (h : AreLines f m q first lines next) where
  -- other numbers that are the same
  pub AreLines-same : (f' : ℕ → ℕ) → ((v : ℕ) → v < m → f v ≡ f' v) → AreLines f' m q first lines next
  AreLines-same f' same = record {
    at = h.at;
    some = h.some;
    begins = h.begins;
    line_is = λ v l. h.line_is v l ∙ ap h.at (same v l);
    number_lt = λ v l. let n = h.number_lt v l in omega (arith, same v l);
    within = h.within;
    own = λ i l. sym (same (h.at i) (h.within i l)) ∙ h.own i l;
    links = h.links;
  }

  module _ (u : ℕ) (placed : u < m) (room : m < length lines) where
    pub AreLines-level : AreLines (with_new m f (f u)) (suc m) q first (set lines m (get_or lines u 0)) next
    AreLines-level = record {
      at = h.at;
      some = h.some;
      begins = h.begins;
      line_is = λ v l. elim (cases_lt v m) [
        | inl o ↦ get_or-set_other lines m v _ 0 (λ e. omega (arith, e, o)) ∙ (h.line_is v o ∙ ap h.at (sym (with_new-older m f (f u) v o)))
        | inr o ↦ let e : v ≡ m = omega arith in set_at lines m _ v room e ∙ (h.line_is u placed ∙ ap h.at (sym (with_new-new m f (f u) v e)))
      ];
      number_lt = λ v l. elim (cases_lt v m) [
        | inl o ↦ let n = h.number_lt v o in omega (arith, with_new-older m f (f u) v o)
        | inr o ↦ let n = h.number_lt u placed in omega (arith, with_new-new m f (f u) v (omega arith))
      ];
      within = λ i l. let w = h.within i l in omega arith;
      own = λ i l. with_new-older m f (f u) (h.at i) (h.within i l) ∙ h.own i l;
      links = h.links;
    }

    module _ (size : length next ≡ length lines) where
      abbrev N : ℕ
      N = suc (f u)

      abbrev line : ℕ
      line = get_or lines u 0

      abbrev next' : List ℕ
      next' = set (set next m (get_or next line 0)) line m

      abbrev g : ℕ → ℕ
      g = with_new m (λ v. shifted N (f v)) N

      -- the lines before the new one, that, and those behind it
      at' : ℕ → ℕ
      at' i = cond (ltb i N) (h.at i) (cond (ltb N i) (h.at (i - 1)) m)

      at'-low : (i : ℕ) → i < N → at' i ≡ h.at i
      unfolding at'
      at'-low i l = cond-true (ltb i N) (h.at i) _ (lt-ltb i N l)

      at'-new : (i : ℕ) → i ≡ N → at' i ≡ m
      unfolding at'
      at'-new i e = cond-false (ltb i N) (h.at i) _ (le-ltb i N (omega arith)) ∙ cond-false (ltb N i) (h.at (i - 1)) m (le-ltb N i (omega arith))

      at'-high : (i j : ℕ) → N < i → i ≡ suc j → at' i ≡ h.at j
      unfolding at'
      at'-high i j l e = let z : i - 1 ≡ j = omega arith in cond-false (ltb i N) (h.at i) _ (le-ltb i N (omega arith)) ∙ (cond-true (ltb N i) (h.at (i - 1)) m (lt-ltb N i l) ∙ ap h.at z)

      below : N ≤ q
      below = h.number_lt u placed

      line_is : line ≡ h.at (f u)
      line_is = h.line_is u placed

      line_lt : line < m
      line_lt = let w = h.within (f u) (h.number_lt u placed) in omega (arith, line_is)

      -- other lines keep what stands behind them
      other : (i : ℕ) → i < q → i ≢ f u → get_or next' (h.at i) 0 ≡ get_or next (h.at i) 0
      other i l ne =
          let w = h.within i l in
          get_or-set_other (set next m (get_or next line 0)) line (h.at i) m 0 (λ e. ne (sym (h.own i l) ∙ (ap f (e ∙ line_is) ∙ h.own (f u) (h.number_lt u placed))))
          ∙ get_or-set_other next m (h.at i) _ 0 (λ e. omega (arith, e, w))

      g-old : (v : ℕ) → v < m → g v ≡ shifted N (f v)
      g-old v l = with_new-older m (λ v. shifted N (f v)) N v l

      pub AreLines-own : AreLines g (suc m) (suc q) first (set lines m m) next'
      AreLines-own = record {
        at = at';
        some = omega arith;
        begins = at'-low 0 (omega arith) ∙ h.begins;
        line_is = λ v l. elim (cases_lt v m) [
          | inl o ↦ get_or-set_other lines m v m 0 (λ e. omega (arith, e, o)) ∙ (h.line_is v o ∙ elim (cases_lt (f v) N) [
            | inl a ↦ sym (ap at' (g-old v o ∙ shifted-low N (f v) a) ∙ at'-low (f v) a)
            | inr a ↦ sym (ap at' (g-old v o ∙ shifted-high N (f v) a) ∙ at'-high (suc (f v)) (f v) (omega arith) refl)
          ])
          | inr o ↦ let e : v ≡ m = omega arith in set_at lines m m v room e ∙ sym (at'-new (g v) (with_new-new m (λ v. shifted N (f v)) N v e))
        ];
        number_lt = λ v l. elim (cases_lt v m) [
          | inl o ↦ let n = h.number_lt v o in elim (cases_lt (f v) N) [
            | inl a ↦ omega (arith, g-old v o, shifted-low N (f v) a)
            | inr a ↦ omega (arith, g-old v o, shifted-high N (f v) a)
          ]
          | inr o ↦ let b = below in omega (arith, with_new-new m (λ v. shifted N (f v)) N v (omega arith))
        ];
        within = λ i l. elim (cases_lt i N) [
          | inl a ↦ let b = below in let w = h.within i (omega arith) in omega (arith, at'-low i a)
          | inr a ↦ elim (cases_eq i N) [
            | inl e ↦ omega (arith, at'-new i e)
            | inr ne ↦ let w = h.within (i - 1) (omega arith) in omega (arith, at'-high i (i - 1) (omega arith) (omega arith))
          ]
        ];
        own = λ i l. elim (cases_lt i N) [
          | inl a ↦
              let b = below in
              let o : i < q = omega arith in
              ap g (at'-low i a) ∙ (g-old (h.at i) (h.within i o) ∙ (ap (shifted N) (h.own i o) ∙ shifted-low N i a))
          | inr a ↦ elim (cases_eq i N) [
            | inl e ↦ ap g (at'-new i e) ∙ (with_new-new m (λ v. shifted N (f v)) N m refl ∙ sym e)
            | inr ne ↦
                let o : i - 1 < q = omega arith in
                let z : suc (i - 1) ≡ i = omega arith in
                ap g (at'-high i (i - 1) (omega arith) (omega arith)) ∙ (g-old (h.at (i - 1)) (h.within (i - 1) o) ∙ (ap (shifted N) (h.own (i - 1) o) ∙ (shifted-high N (i - 1) (omega arith) ∙ z)))
          ]
        ];
        links = λ i l. elim (cases_lt i (f u)) [
          | inl a ↦
              let b = below in
              ap (λ v. get_or next' v 0) (at'-low i (omega arith)) ∙ (other i (omega arith) (λ e. omega (arith, e, a)) ∙ (h.links i (omega arith) ∙ sym (at'-low (suc i) (omega arith))))
          | inr a ↦ elim (cases_eq i (f u)) [
            | inl e ↦
                let n = line_lt in
                let b : suc i ≡ N = omega arith in
                ap (λ v. get_or next' v 0) (at'-low i (omega arith) ∙ (ap h.at e ∙ sym line_is))
                ∙ (get_or-set_same (set next m (get_or next line 0)) line m 0 (omega (arith, n, size, length-set next m (get_or next line 0))) ∙ sym (at'-new (suc i) b))
            | inr ne ↦ elim (cases_eq i N) [
              | inl e ↦
                  let n = line_lt in
                  let b : suc (f u) < q = omega arith in
                  ap (λ v. get_or next' v 0) (at'-new i e)
                  ∙ (get_or-set_other (set next m (get_or next line 0)) line m m 0 (λ x. omega (arith, x, n))
                  ∙ (get_or-set_same next m (get_or next line 0) 0 (omega arith)
                  ∙ (ap (λ v. get_or next v 0) line_is ∙ (h.links (f u) b ∙ sym (at'-high (suc i) N (omega arith) (omega arith))))))
              | inr nf ↦
                  let o : i - 1 < q = omega arith in
                  let z : suc (i - 1) ≡ i = omega arith in
                  ap (λ v. get_or next' v 0) (at'-high i (i - 1) (omega arith) (omega arith))
                  ∙ (other (i - 1) o (λ x. omega (arith, x, nf, ne, a)) ∙ (h.links (i - 1) (omega arith) ∙ (ap h.at z ∙ sym (at'-high (suc i) i (omega arith) refl))))
            ]
          ]
        ];
      }
