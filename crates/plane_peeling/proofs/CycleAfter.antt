-- The list of an outer cycle in which a vertex gives way to its neighbours, by counts.
use Rattle.std.proofs.Common.{◌≡◌, ◌≢◌, ◌⊎◌, ℕ, ◌+◌, eqb, List, [], ◌∷◌, ◌++◌, AllPairs, Contains, refl, sym, ap, ◌∙◌, inl, inr, arith}
use Rattle.std.proofs.lemmas.Bool.{cases_lt, cond-true, eq-eqb}
use Rattle.map_theory.proofs.EntryLemmas.{Contains-cons_cases, count_of, count_of-cons, count_of-append, Contains-counted, Contains-from_count_of, count_of-le-one, AllPairs-from_counts}
use Rattle.plane_peeling.proofs.RestrictedMaps.{cases_Contains}

-- u, counted in a list with three entries inside
pub count-three : (u : ℕ) (front : List ℕ) (a b c : ℕ) (back : List ℕ) → count_of u (front ++ a ∷ b ∷ c ∷ back) ≡ count_of u front + (count_of u (a ∷ []) + (count_of u (b ∷ []) + (count_of u (c ∷ []) + count_of u back)))
count-three u front a b c back =
    let three = count_of-append u (b ∷ []) (c ∷ back) in
    let four = count_of-append u (c ∷ []) back in
    omega (arith, count_of-append u front (a ∷ b ∷ c ∷ back), count_of-append u (a ∷ []) (b ∷ c ∷ back), three, four)

pub count-run : (u : ℕ) (front : List ℕ) (a : ℕ) (mid : List ℕ) (c : ℕ) (back : List ℕ) → count_of u (front ++ (a ∷ mid ++ c ∷ back)) ≡ count_of u front + (count_of u (a ∷ []) + (count_of u mid + (count_of u (c ∷ []) + count_of u back)))
count-run u front a mid c back =
    let three = count_of-append u mid (c ∷ back) in
    let four = count_of-append u (c ∷ []) back in
    omega (arith, count_of-append u front (a ∷ mid ++ c ∷ back), count_of-append u (a ∷ []) (mid ++ c ∷ back), three, four)

pub not_counted : (u : ℕ) (us : List ℕ) → ¬ Contains us u → count_of u us ≡ 0
not_counted u us n = elim (cases_lt (count_of u us) 1) [ inl l ↦ omega arith | inr l ↦ absurd (n (Contains-from_count_of u us l)) ]

pub counted_itself : (u : ℕ) → count_of u (u ∷ []) ≡ 1
counted_itself u = let one = count_of-cons u u [] in omega (arith, one, cond-true {A = ℕ} (eqb u u) 1 0 (eq-eqb u u refl))

pub not_counted_other : (u w : ℕ) → u ≢ w → count_of u (w ∷ []) ≡ 0
not_counted_other u w n = not_counted u (w ∷ []) (λ c. elim (Contains-cons_cases w [] u c) [ inl e ↦ n (sym e) | inr c' ↦ absurd (omega (arith, c'.1)) ])

-- ---- the cycle after
module _ (ws front : List ℕ) (p v : ℕ) (mid : List ℕ) (q : ℕ) (back us : List ℕ) (distinct : AllPairs ◌≢◌ ws) (before : ws ≡ front ++ p ∷ v ∷ q ∷ back) (distinct' : AllPairs ◌≢◌ us) (run : (u : ℕ) → count_of u (p ∷ mid ++ q ∷ []) ≡ count_of u us) where
  abbrev after : List ℕ
  after = front ++ (p ∷ mid ++ q ∷ back)

  count_before : (u : ℕ) → count_of u ws ≡ count_of u front + (count_of u (p ∷ []) + (count_of u (v ∷ []) + (count_of u (q ∷ []) + count_of u back)))
  count_before u = ap (count_of u) before ∙ count-three u front p v q back

  count_run : (u : ℕ) → count_of u us ≡ count_of u (p ∷ []) + (count_of u mid + count_of u (q ∷ []))
  count_run u =
      let three = count_of-append u mid (q ∷ []) in
      omega (arith, run u, count_of-append u (p ∷ []) (mid ++ q ∷ []), three)

  count_after : (u : ℕ) → count_of u after ≡ count_of u front + (count_of u (p ∷ []) + (count_of u mid + (count_of u (q ∷ []) + count_of u back)))
  count_after u = count-run u front p mid q back

  -- on it are those that were on it, without v, and its neighbours
  pub after_is : (u : ℕ) → Contains after u → (Contains ws u × (u ≢ v)) ⊎ Contains us u
  after_is u c =
      elim (cases_Contains us u) [
        | inl d ↦ inr d
        | inr n ↦
            let some = Contains-counted u after c in
            let three = count_after u in
            let none = not_counted u us n in
            inl (
              Contains-from_count_of u ws (omega (arith, count_run u, count_before u)),
              λ e.
                  let once = count_of-le-one u ws distinct in
                  let here = ap (λ w. count_of u (w ∷ [])) e in
                  let itself = counted_itself u in
                  absurd (omega (arith, count_run u, count_before u)),
            )
      ]

  pub after_has : (u : ℕ) → (Contains ws u × (u ≢ v)) ⊎ Contains us u → Contains after u
  after_has u h =
      elim h [
        | inl on ↦
            let some = Contains-counted u ws on.0 in
            let none = not_counted_other u v on.1 in
            Contains-from_count_of u after (omega (arith, count_after u, count_before u))
        | inr d ↦ let some = Contains-counted u us d in Contains-from_count_of u after (omega (arith, count_after u, count_run u))
      ]

  -- and no vertex twice
  pub after_distinct : ((u : ℕ) → Contains us u → Contains ws u → (u ≡ p) ⊎ (u ≡ q)) → AllPairs ◌≢◌ after
  after_distinct chords =
      AllPairs-from_counts after (λ u _.
      let one = count_before u in
      let two = count_run u in
      let three = count_after u in
      let once = count_of-le-one u ws distinct in
      let once' = count_of-le-one u us distinct' in
      elim (cases_Contains us u) [
        | inr n ↦ let none = not_counted u us n in omega arith
        | inl d ↦
            elim (cases_Contains ws u) [
              | inr n ↦ let none = not_counted u ws n in omega arith
              | inl on ↦
                  elim (chords u d on) [
                    | inl e ↦ let here : count_of u (p ∷ []) ≡ 1 = ap (λ w. count_of u (w ∷ [])) (sym e) ∙ counted_itself u in omega arith
                    | inr e ↦ let here : count_of u (q ∷ []) ≡ 1 = ap (λ w. count_of u (w ∷ [])) (sym e) ∙ counted_itself u in omega arith
                  ]
            ]
      ])
