-- In a balanced word without repeats no two pairs stand in turn.
use Rattle.std.proofs.Common.{◌≡◌, ◌≢◌, ◌⊎◌, ℕ, suc, ◌+◌, ◌<◌, ◌≤◌, Bool, true, false, List, [], ◌∷◌, ◌++◌, length, AllPairs, Contains, refl, sym, ap, ◌∙◌, subst, inl, inr, arith, eq-eqb}
use Rattle.std.proofs.lemmas.Bool.{cases_Bool, cond-true, cond-false, true≢false, and_from}
use Rattle.std.proofs.lemmas.List.Elements.{Contains-append_cases, Contains-append_left, Contains-append_right}
use Rattle.map_theory.specs.Maps.{Dart, twin_dart, same_dart}
use Rattle.left_right_maps.specs.RootedMaps.{place_in}
use Rattle.left_right_maps.specs.Brackets.{IsBalanced, none, past, pair}
use Rattle.left_right_maps.proofs.Inserts.{none_in_none, here, there, here_or_there, pairs_head, pairs_tail, pairs_left, pairs_right, pairs_across}
use Rattle.left_right_maps.proofs.Tour.{place_here, same_is}

eqb' : (d e : Dart) → d ≡ e → same_dart d e ≡ true
eqb' d e same =
    and_from _ _ (eq-eqb d.0 e.0 (ap (λ (z : Dart). z.0) same)) (eq-eqb d.1 e.1 (ap (λ (z : Dart). z.1) same))

place_first : (d : Dart) (es : List Dart) → place_in (d ∷ es) d ≡ 0
place_first d es = cond-true {A = ℕ} (same_dart d d) 0 (place_in es d + 1) (eqb' d d refl)

place_later : (e : Dart) (es : List Dart) (d : Dart) → e ≢ d → place_in (e ∷ es) d ≡ suc (place_in es d)
place_later e es d ne =
    elim (cases_Bool (same_dart e d)) [ inl t ↦ absurd (ne (same_is e d t)) | inr f ↦ cond-false {A = ℕ} (same_dart e d) 0 (place_in es d + 1) f ∙ omega arith ]

place_left : (ds es : List Dart) (d : Dart) → Contains ds d → place_in (ds ++ es) d ≡ place_in ds d
place_left [] es d c = absurd (none_in_none d c)
place_left (x ∷ ds) es d c =
    elim (cases_Bool (same_dart x d)) [
      | inl t ↦ cond-true {A = ℕ} (same_dart x d) 0 (place_in (ds ++ es) d + 1) t ∙ sym (cond-true {A = ℕ} (same_dart x d) 0 (place_in ds d + 1) t)
      | inr f ↦
          let c' : Contains ds d = elim (here_or_there x d ds c) [ inl e ↦ absurd (true≢false (sym (eqb' x d e) ∙ f)) | inr c'' ↦ c'' ] in
          cond-false {A = ℕ} (same_dart x d) 0 (place_in (ds ++ es) d + 1) f ∙ (ap (λ k. k + 1) (place_left ds es d c') ∙ sym (cond-false {A = ℕ} (same_dart x d) 0 (place_in ds d + 1) f))
    ]

place_right : (ds es : List Dart) (d : Dart) → ¬ Contains ds d → place_in (ds ++ es) d ≡ length ds + place_in es d
place_right [] es d off = omega arith
place_right (x ∷ ds) es d off =
    omega (arith, place_right ds es d (λ c. off (there x d ds c)), place_later x (ds ++ es) d (λ e. off (subst (Contains (x ∷ ds)) e (here x ds))))

module _ (passed : ℕ → ℕ → Bool) where
  -- what does not pass has its twin there
  pub closed : (ds : List Dart) → IsBalanced passed ds → (d : Dart) → Contains ds d → passed d.0 d.1 ≡ false → Contains ds (twin_dart d)
  closed [] none d c f = absurd (none_in_none d c)
  closed _ (past {v} {u} {ds} t b) d c f =
      elim (here_or_there (v, u) d ds c) [
        | inl e ↦ absurd (true≢false (sym t ∙ (ap (λ (z : Dart). passed z.0 z.1) e ∙ f)))
        | inr c' ↦ there (v, u) (twin_dart d) ds (closed ds b d c' f)
      ]
  closed _ (pair {v} {u} {ds} {es} t b b') d c f =
      let rest = ds ++ (u, v) ∷ es in
      elim (here_or_there (v, u) d rest c) [
        | inl e ↦ subst (λ (z : Dart). Contains ((v, u) ∷ rest) (twin_dart z)) e (there (v, u) (u, v) rest (Contains-append_right ds ((u, v) ∷ es) (u, v) (here (u, v) es)))
        | inr c' ↦ elim (Contains-append_cases ds ((u, v) ∷ es) d c') [
          | inl c'' ↦ there (v, u) (twin_dart d) rest (Contains-append_left ds ((u, v) ∷ es) (twin_dart d) (closed ds b d c'' f))
          | inr c'' ↦ elim (here_or_there (u, v) d es c'') [
            | inl e ↦ subst (λ (z : Dart). Contains ((v, u) ∷ rest) (twin_dart z)) e (here (v, u) rest)
            | inr k ↦ there (v, u) (twin_dart d) rest (Contains-append_right ds ((u, v) ∷ es) (twin_dart d) (there (u, v) (twin_dart d) es (closed es b' d k f)))
          ]
        ]
      ]

  abbrev pub NoneCross : List Dart → Type 0
  NoneCross ds =
      (d e : Dart) → Contains ds d → Contains ds e → passed d.0 d.1 ≡ false → passed e.0 e.1 ≡ false → passed d.1 d.0 ≡ false → passed e.1 e.0 ≡ false → place_in ds d < place_in ds e → place_in ds e < place_in ds (twin_dart d) → ¬ (place_in ds (twin_dart d) < place_in ds (twin_dart e))

  -- behind a dart that is passed
  past_cross : (v u : ℕ) (ds : List Dart) → passed v u ≡ true → IsBalanced passed ds → NoneCross ds → NoneCross ((v, u) ∷ ds)
  past_cross v u ds t b old d e cd ce fd fe fd' fe' one two three =
      let behind : (x : Dart) → Contains ((v, u) ∷ ds) x → passed x.0 x.1 ≡ false → Contains ds x = λ x c f. elim (here_or_there (v, u) x ds c) [ inl e ↦ absurd (true≢false (sym t ∙ (ap (λ (z : Dart). passed z.0 z.1) e ∙ f))) | inr c' ↦ c' ] in
      let shift : (x : Dart) → passed x.0 x.1 ≡ false → place_in ((v, u) ∷ ds) x ≡ suc (place_in ds x) = λ x f. place_later (v, u) ds x (λ e. true≢false (sym t ∙ (ap (λ (z : Dart). passed z.0 z.1) e ∙ f))) in
      let b' = shift e fe in
      let c = shift (twin_dart d) fd' in
      old d e (behind d cd fd) (behind e ce fe) fd fe fd' fe' (omega (arith, shift d fd)) (omega arith) (omega (arith, shift (twin_dart e) fe'))

  module _ (v u : ℕ) (ds es : List Dart) (distinct : AllPairs ◌≢◌ ((v, u) ∷ (ds ++ (u, v) ∷ es))) where
    abbrev first : Dart
    first = (v, u)

    abbrev other : Dart
    other = (u, v)

    abbrev rest : List Dart
    rest = ds ++ other ∷ es

    abbrev whole : List Dart
    whole = first ∷ rest

    not_first : (x : Dart) → Contains rest x → first ≢ x
    not_first x c = pairs_head ◌≢◌ first rest distinct x c

    across : (x y : Dart) → Contains ds x → Contains (other ∷ es) y → x ≢ y
    across x y c c' = pairs_across ◌≢◌ ds (other ∷ es) (pairs_tail ◌≢◌ first rest distinct) x y c c'

    at_inner : (x : Dart) → Contains ds x → place_in whole x ≡ suc (place_in ds x)
    at_inner x c =
        place_later first rest x (not_first x (Contains-append_left ds (other ∷ es) x c)) ∙ ap suc (place_left ds (other ∷ es) x c)

    inner_low : (x : Dart) → Contains ds x → place_in whole x ≤ length ds
    inner_low x c = let a = at_inner x c in let b = (place_here ds x (0, 0) c).0 in omega arith

    at_behind : (x : Dart) → Contains (other ∷ es) x → place_in whole x ≡ suc (length ds + place_in (other ∷ es) x)
    at_behind x c =
        place_later first rest x (not_first x (Contains-append_right ds (other ∷ es) x c)) ∙ ap suc (place_right ds (other ∷ es) x (λ c'. across x x c' c refl))

    at_other : place_in whole other ≡ suc (length ds)
    at_other = let a = at_behind other (here other es) in let b = place_first other es in omega arith

    at_outer : (x : Dart) → Contains es x → place_in whole x ≡ length ds + 2 + place_in es x
    at_outer x c =
        let b = place_later other es x (pairs_head ◌≢◌ other es (pairs_right ◌≢◌ ds (other ∷ es) (pairs_tail ◌≢◌ first rest distinct)) x c) in
        omega (arith, at_behind x (there other x es c))

    -- where a dart of the word stands
    stands : (x : Dart) → Contains whole x → (first ≡ x) ⊎ (Contains ds x ⊎ ((other ≡ x) ⊎ Contains es x))
    stands x c =
        elim (here_or_there first x rest c) [
          | inl e ↦ inl e
          | inr c' ↦ elim (Contains-append_cases ds (other ∷ es) x c') [ inl k ↦ inr (inl k) | inr k ↦ elim (here_or_there other x es k) [ inl e ↦ inr (inr (inl e)) | inr k' ↦ inr (inr (inr k')) ] ]
        ]

    at_first : place_in whole first ≡ 0
    at_first = place_first first rest

    pair_cross : IsBalanced passed ds → IsBalanced passed es → NoneCross ds → NoneCross es → NoneCross whole
    pair_cross b b' old old' d e cd ce fd fe fd' fe' one two three =
        elim (stands d cd) [
          | inl first_d ↦
              elim (stands e ce) [
                | inl same ↦ (let q = ap (place_in whole) (sym same ∙ first_d) in omega arith)
                | inr h ↦ grind (arith, inner_low, twin_dart, closed, place_in, whole, at_other, at_outer)
              ]
          | inr h ↦ elim h [
            | inl c ↦
                let low = inner_low (twin_dart d) (closed ds b d c fd) in
                elim (stands e ce) [
                  | inl same ↦ (let q = ap (place_in whole) (sym same) ∙ at_first in omega arith)
                  | inr h' ↦ grind (arith, at_inner, twin_dart, closed, place_in, whole, at_other, at_outer)
                ]
            | inr k ↦ elim k [
              | inl same ↦
                  omega (arith, ap (λ (z : Dart). place_in whole (twin_dart z)) (sym same) ∙ at_first)
              | inr c ↦
                  elim (stands e ce) [
                    | inl same ↦ (let q = ap (place_in whole) (sym same) ∙ at_first in omega arith)
                    | inr h' ↦ grind (arith, inner_low, place_in, whole, at_other, at_outer, twin_dart, closed)
                  ]
            ]
          ]
        ]

  pub none_cross : (ds : List Dart) → IsBalanced passed ds → AllPairs ◌≢◌ ds → NoneCross ds
  none_cross [] none distinct = λ d e cd. absurd (none_in_none d cd)
  none_cross _ (past {v} {u} {ds} t b) distinct =
      past_cross v u ds t b (none_cross ds b (pairs_tail ◌≢◌ (v, u) ds distinct))
  none_cross _ (pair {v} {u} {ds} {es} t b b') distinct =
      let rest = pairs_tail ◌≢◌ (v, u) (ds ++ (u, v) ∷ es) distinct in
      pair_cross v u ds es distinct b b' (none_cross ds b (pairs_left ◌≢◌ ds ((u, v) ∷ es) rest)) (none_cross es b' (pairs_tail ◌≢◌ (u, v) es (pairs_right ◌≢◌ ds ((u, v) ∷ es) rest)))
