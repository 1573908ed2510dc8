-- Places in a row, some of them paired so that no two pairs stand in turn: the innermost pair round each gap.
use Rattle.std.proofs.Common.{◌≡◌, ◌≢◌, ℕ, zero, suc, ◌+◌, ◌<◌, ◌≤◌, Bool, true, false, cond, not, ltb, refl, sym, ap, ap₂, ◌∙◌, inl, inr, arith}
use Rattle.std.specs.Prelude.{◌&&◌}
use Rattle.std.proofs.lemmas.Bool.{cases_Bool, cases_lt, cases_eq, cond-true, cond-false, lt-ltb, le-ltb, ltb-true, and_parts, true≢false}
use Rattle.classes.specs.Classes.{count_below}
use Rattle.classes.proofs.Counting.{count_below_not, count_below_split, count_below_into}

-- no two pairs stand in turn
abbrev pub ArePairsNested : ℕ → (ℕ → Bool) → (ℕ → ℕ) → Type 0
ArePairsNested n single partner = (p q : ℕ) → p < n → q < n → single p ≡ false → single q ≡ false → p < q → q < partner p → ¬ (partner p < partner q)

-- Each place below n is single, or has a partner there, whose partner it is.
pub record IsPaired (n : ℕ) (single : ℕ → Bool) (partner : ℕ → ℕ) : Type 0 where
  pub within : (p : ℕ) → p < n → single p ≡ false → partner p < n
  pub both : (p : ℕ) → p < n → single p ≡ false → single (partner p) ≡ false
  pub back : (p : ℕ) → p < n → single p ≡ false → partner (partner p) ≡ p
  pub other : (p : ℕ) → p < n → single p ≡ false → partner p ≢ p

module _ (n : ℕ) (single : ℕ → Bool) (partner : ℕ → ℕ) (pairs : IsPaired n single partner) where
  -- the pair of l ends no earlier than g
  abbrev reaches : ℕ → ℕ → Bool
  reaches l g = not (single l) && not (ltb (partner l) g)

  -- the last place below k of which the pair ends no earlier than g, and one more; or 0
  pub innermost : ℕ → ℕ → ℕ
  innermost zero g = 0
  innermost (suc l) g = cond (reaches l g) (suc l) (innermost l g)

  -- for the gap before the place g, where the innermost pair round it begins, and one more; or 0
  abbrev pub mark : ℕ → ℕ
  mark g = innermost g g

  reaches_no_single : (l g : ℕ) → single l ≡ true → reaches l g ≡ false
  reaches_no_single l g e = ap (λ b. not b && not (ltb (partner l) g)) e

  reaches_not : (l g : ℕ) → partner l < g → reaches l g ≡ false
  reaches_not l g m = grind (arith, cases_Bool, reaches_no_single, ap₂, not, lt-ltb)

  reaches_so : (l g : ℕ) → single l ≡ false → g ≤ partner l → reaches l g ≡ true
  reaches_so l g e m = ap₂ (λ b c. not b && not c) e (le-ltb (partner l) g m)

  reaches_same : (l g h : ℕ) → (single l ≡ false → (partner l < g → partner l < h) × (partner l < h → partner l < g)) → reaches l g ≡ reaches l h
  reaches_same l g h same = grind (arith, cases_Bool, reaches_no_single, cases_lt, reaches_not, reaches_so)

  innermost_here : (l g : ℕ) → reaches l g ≡ true → innermost (suc l) g ≡ suc l
  unfolding innermost
  innermost_here l g t = cond-true {A = ℕ} (reaches l g) (suc l) (innermost l g) t

  innermost_below : (k l g : ℕ) → k ≤ l → ((i : ℕ) → k ≤ i → i < l → reaches i g ≡ false) → innermost l g ≡ innermost k g
  unfolding innermost
  innermost_below k zero g m none = let e : k ≡ 0 = omega arith in ap (λ i. innermost i g) (sym e)
  innermost_below k (suc l) g m none =
      elim (cases_eq k (suc l)) [
        | inl e ↦ ap (λ i. innermost i g) (sym e)
        | inr ne ↦ cond-false {A = ℕ} (reaches l g) (suc l) (innermost l g) (none l (omega arith) (omega arith)) ∙ innermost_below k l g (omega arith) (λ i a b. none i a (omega arith))
      ]

  innermost_same : (l g h : ℕ) → ((i : ℕ) → i < l → reaches i g ≡ reaches i h) → innermost l g ≡ innermost l h
  unfolding innermost
  innermost_same zero g h same = refl
  innermost_same (suc l) g h same = ap₂ (λ b r. cond b (suc l) r) (same l (omega arith)) (innermost_same l g h (λ i m. same i (omega arith)))

  -- a single place changes nothing
  pub mark_single : (p : ℕ) → p < n → single p ≡ true → mark (suc p) ≡ mark p
  mark_single p m e =
      innermost_below p (suc p) (suc p) (omega arith) (λ i a b. let same : p ≡ i = omega arith in reaches_no_single i (suc p) (ap single (sym same) ∙ e))
      ∙ innermost_same p (suc p) p (λ i l. reaches_same i (suc p) p (λ e'.
      let ne : partner i ≢ p = λ q. true≢false (sym e ∙ (ap single (sym q) ∙ pairs.both i (omega arith) e')) in
      ((λ a. omega (arith, a, ne)), (λ a. omega arith))))

  -- behind a pair it is as before it
  pub mark_over : ArePairsNested n single partner → (p : ℕ) → p < n → single p ≡ false → p < partner p → mark (suc (partner p)) ≡ mark p
  mark_over nested p m e first =
      let q = partner p in
      let back = pairs.back p m e in
      innermost_below p (suc q) (suc q) (omega arith) (λ i a b.
      elim (cases_Bool (single i)) [
        | inl s ↦ reaches_no_single i (suc q) s
        | inr s ↦ reaches_not i (suc q) (elim (cases_eq i p) [
          | inl w ↦ (let w' = ap partner w in omega arith)
          | inr w ↦ grind (arith, cases_eq, cases_lt)
        ])
      ])
      ∙ innermost_same p (suc q) p (λ i l. reaches_same i (suc q) p (λ s.
      let li : i < n = omega arith in
      let back_i = pairs.back i li s in (
        (λ a. elim (cases_lt (partner i) p) [
          | inl t ↦ t
          | inr t ↦ grind (arith, cases_eq)
        ]),
        (λ a. omega arith),
      )))

  -- before the end of a pair it is as behind its beginning: that pair
  pub mark_begin : (q : ℕ) → q < n → single q ≡ false → q < partner q → mark (suc q) ≡ suc q
  mark_begin q m e first = innermost_here q (suc q) (reaches_so q (suc q) e first)

  pub mark_end : ArePairsNested n single partner → (q : ℕ) → q < n → single q ≡ false → q < partner q → mark (partner q) ≡ suc q
  mark_end nested q m e first =
      let p = partner q in
      innermost_below (suc q) p p first (λ i a b.
      elim (cases_Bool (single i)) [
        | inl s ↦ reaches_no_single i p s
        | inr s ↦ grind (arith, reaches_not, cases_lt, cases_eq)
      ])
      ∙ innermost_here q p (reaches_so q p e (omega arith))

  -- behind all places there is none
  pub mark_last : mark n ≡ 0
  unfolding innermost
  mark_last =
      innermost_below 0 n n (omega arith) (λ i a b. elim (cases_Bool (single i)) [ inl s ↦ reaches_no_single i n s | inr s ↦ reaches_not i n (pairs.within i b s) ])

  pub mark_first : mark 0 ≡ 0
  unfolding innermost
  mark_first = refl

  -- ---- how many pairs there are
  abbrev pub begins : ℕ → Bool
  begins p = ltb p (partner p) && not (single p)

  abbrev ends : ℕ → Bool
  ends p = not (ltb p (partner p)) && not (single p)

  not_single : (p : ℕ) → not (single p) ≡ true → single p ≡ false
  not_single p t = elim (cases_Bool (single p)) [ inl e ↦ absurd (true≢false (sym t ∙ ap not e)) | inr e ↦ e ]

  pub begins_so : (p : ℕ) → begins p ≡ true → (p < partner p) × (single p ≡ false)
  begins_so p t = let both = and_parts (ltb p (partner p)) (not (single p)) t in (ltb-true p (partner p) both.0, not_single p both.1)

  ends_so : (p : ℕ) → ends p ≡ true → (partner p ≤ p) × (single p ≡ false)
  ends_so p t = grind (arith, and_parts, not, ltb, cases_lt, true≢false, lt-ltb, not_single)

  as_many : count_below ends n ≤ count_below begins n
  as_many =
      count_below_into partner ends begins n n
      (λ p m t.
      let so = ends_so p t in
      let back = pairs.back p m so.1 in
      (pairs.within p m so.1, ap₂ (λ b c. b && not c) (lt-ltb (partner p) (partner (partner p)) (omega arith)) (pairs.both p m so.1)))
      (λ p q m m' t t' same. sym (pairs.back p m (ends_so p t).1) ∙ (ap partner same ∙ pairs.back q m' (ends_so q t').1))

  as_many' : count_below begins n ≤ count_below ends n
  as_many' =
      count_below_into partner begins ends n n
      (λ p m t.
      let so = begins_so p t in
      let back = pairs.back p m so.1 in
      (pairs.within p m so.1, ap₂ (λ b c. not b && not c) (le-ltb (partner p) (partner (partner p)) (omega arith)) (pairs.both p m so.1)))
      (λ p q m m' t t' same. sym (pairs.back p m (begins_so p t).1) ∙ (ap partner same ∙ pairs.back q m' (begins_so q t').1))

  pub pair_count-le : count_below single n + (count_below begins n + count_below begins n) ≤ n
  pair_count-le =
      omega (arith, as_many', count_below_split (λ p. not (single p)) (λ p. ltb p (partner p)) n, count_below_not single n)

  pub pair_count : n ≤ count_below single n + (count_below begins n + count_below begins n)
  pair_count =
      omega (arith, as_many, count_below_split (λ p. not (single p)) (λ p. ltb p (partner p)) n, count_below_not single n)

  -- 0, and behind the beginning of each pair
  pub marked : ℕ → Bool
  marked zero = true
  marked (suc p) = begins p

  marked_shift : (m : ℕ) → count_below marked (suc m) ≡ count_below begins m + 1
  unfolding marked
  marked_shift zero = refl
  marked_shift (suc m) = omega (arith, marked_shift m)

  -- no pair begins at the last place
  pub marked_count : 0 < n → count_below marked n ≡ count_below begins n + 1
  marked_count some = grind (arith, count_below, marked, begins, cases_Bool, begins_so, marked_shift, cond)

  pub marked-mark : (j : ℕ) → j < n → marked j ≡ true → mark j ≡ j
  unfolding marked
  marked-mark zero m t = mark_first
  marked-mark (suc p) m t = let so = begins_so p t in mark_begin p (omega arith) so.1 so.0
