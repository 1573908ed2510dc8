-- The neighbours of a vertex without a chord: they lead from the vertex before it to the one after it, and each two that follow one another are a face with it.
use Rattle.std.proofs.Common.{◌≡◌, ◌≢◌, ◌⊎◌, ◌&&◌, ℕ, ◌+◌, ◌<◌, Bool, false, cond, not, eqb, List, [], ◌∷◌, ◌++◌, length, Contains, refl, sym, ap, ◌∙◌, subst, inl, inr, arith, ◌==◌}
use Rattle.std.specs.List.{list_any}
use Rattle.std.proofs.lemmas.Bool.{and_from, and_left, and_right, cond-true, cond-false, ne_eqb, eq-eqb, false_from_ne_true}
use Rattle.map_lists.specs.Lists.{Lists}
use Rattle.map_theory.specs.Maps.{list_of, HasDart, IsSimpleMap, follows, entry_after}
use Rattle.map_theory.proofs.EntryLemmas.{Contains-from_list_any, list_any-from_Contains, count_of, head_apart}
use Rattle.map_theory.proofs.DartLemmas.{HasDart-follows, entry_after-injective}
use Rattle.plane_peeling.specs.Restricted.{restricted, IsFaceOfThree}
use Rattle.plane_peeling.specs.NearTriangulations.{IsOuterCycle, IsOuterDart, IsRemovable}
use Rattle.plane_peeling.specs.Peeled.{IsPeeled}
use Rattle.plane_peeling.proofs.Rings.{Leads, Leads-part, Leads-in, Leads-end, Leads-back, ring_from, Contains-counts, AllPairs-counts}
use Rattle.plane_peeling.proofs.RestrictedMaps.{cases_Contains, restricted-old}
use Rattle.plane_peeling.proofs.OuterCycles.{entry_before, IsFaceOfThree-turned, inner_face, next-apart, two_steps_on, next-last}

module _ (lists : Lists) (kept : ℕ → Bool) (s t : ℕ) (ws : List ℕ) (v : ℕ) (whole : IsSimpleMap lists) (peeled : IsPeeled lists kept s t ws) (removable : IsRemovable (restricted kept lists) s t ws v) where
  abbrev pub map : Lists
  map = restricted kept lists

  abbrev pub next : ℕ → ℕ
  next x = entry_after x ws

  abbrev pub q : ℕ
  q = next v

  pub simple : IsSimpleMap map
  simple = peeled.near.simple

  pub cycle : IsOuterCycle map s t ws
  cycle = peeled.near.cycle

  -- the vertex before v on the cycle
  pub before : (p : ℕ) × Contains ws p × (next p ≡ v)
  before = entry_before ws v cycle.distinct removable.on

  -- a neighbour of v on the cycle is that before it or that after it
  pub chords : (p : ℕ) → Contains ws p → next p ≡ v → (u : ℕ) → HasDart map v u → Contains ws u → (u ≡ p) ⊎ (u ≡ q)
  chords p c e u d on =
      elim (removable.chordless u d on) [
        | inl h ↦ inl (next-apart map s t ws simple cycle u p on c (h ∙ sym e))
        | inr h ↦ inr (sym h)
      ]

  -- v and a neighbour other than that after it are a face with what follows v round that neighbour, here and in the whole map
  pub fan : (z : ℕ) → HasDart map v z → z ≢ q → IsFaceOfThree map v z (follows map z v) × IsFaceOfThree lists v z (follows map z v)
  fan z d n =
      let y = follows map z v in
      let not_first : ¬ IsOuterDart ws v z = λ o. n (sym o.1) in
      let f = inner_face map s t ws peeled.near v z d not_first in
      let f' = IsFaceOfThree-turned map v z y simple f in
      let f'' = IsFaceOfThree-turned map z y v simple f' in
      let not_second : ¬ IsOuterDart ws z y = λ o.
      elim (removable.chordless z d o.0) [
        | inl e ↦ simple.no_loop y v f''.dart (sym e ∙ o.1)
        | inr e ↦ n (sym e)
      ] in
      let not_third : ¬ IsOuterDart ws y v = λ o. n (sym f.round ∙ (ap (λ x. follows map x y) (sym o.1) ∙ (cycle.turns y o.0 ∙ ap next o.1))) in (
        f,
        record {
          dart = (restricted-old lists kept v z d).0;
          second = sym (peeled.inner v z d not_first);
          third = sym (peeled.inner z y f'.dart not_second) ∙ f.third;
          round = sym (peeled.inner y v f''.dart not_third) ∙ f.round;
        },
      )

  -- Where a neighbour of v other than that after it leads once v is taken off: to what follows v round it. All others lead on as they did.
  abbrev pub turned : ℕ → Bool
  turned z = list_any (λ w. w == z) (list_of map v) && not (eqb z q)

  abbrev pub next_after : ℕ → ℕ
  next_after z = cond (turned z) (follows map z v) (next z)

  pub in_v : v < length map
  in_v = (cycle.darts v removable.on).0

  pub next_after-turned : (z : ℕ) → HasDart map v z → z ≢ q → next_after z ≡ follows map z v
  next_after-turned z d n =
      cond-true (turned z) (follows map z v) (next z) (and_from (list_any (λ w. w == z) (list_of map v)) (not (eqb z q)) (list_any-from_Contains z (list_of map v) d.1) (ap not (ne_eqb z q n)))

  pub next_after-other : (z : ℕ) → (HasDart map v z → z ≡ q) → next_after z ≡ next z
  next_after-other z h = cond-false (turned z) (follows map z v) (next z) out
    where
      out : turned z ≡ false
      out = grind (arith, cases_Contains, list_of, map, and_right, list_any, not, eqb, eq-eqb, in_v, and_left, false_from_ne_true, Contains-from_list_any)

  -- on the cycle all but the vertex before v lead on as they did
  pub next_after-on : (p : ℕ) → Contains ws p → next p ≡ v → (z : ℕ) → Contains ws z → z ≢ p → next_after z ≡ next z
  next_after-on p c e z on n =
      next_after-other z (λ d. elim (chords p c e z d on) [ inl h ↦ absurd (n h) | inr h ↦ h ])

  module _ (p : ℕ) (on_p : Contains ws p) (leads_p : next p ≡ v) where
    pub dart_p : HasDart map v p
    dart_p = simple.both_ways p v (subst (HasDart map p) leads_p (cycle.darts p on_p))

    pub p_not_q : p ≢ q
    p_not_q e = two_steps_on map s t ws simple cycle p on_p (ap next leads_p ∙ sym e)

    pub p_not_last : p ≢ t
    p_not_last e = removable.not_first (sym leads_p ∙ (ap next e ∙ next-last map s t ws simple cycle))

    -- round v, the vertex after it follows that before it
    pub corner_v : follows map v p ≡ q
    corner_v = ap (λ x. follows map x p) (sym leads_p) ∙ (cycle.turns p on_p ∙ ap next leads_p)

    -- the neighbours of v, from that before it to that after it
    pub run : (mid : List ℕ) × Leads next_after p (mid ++ q ∷ []) q × ((u : ℕ) → count_of u (p ∷ mid ++ q ∷ []) ≡ count_of u (list_of map v))
    run =
        let us = list_of map v in
        let g : ℕ → ℕ = λ u. entry_after u us in
        let distinct = simple.no_repeat v in_v in
        let ring = ring_from us q distinct (cycle.darts v removable.on).1 in
        let rest = ring.0 in
        let way = Leads-part g q rest (q ∷ []) q ring.1 in
        let y = way.0 in
        let nbr : (z : ℕ) → Contains (q ∷ rest) z → HasDart map v z = λ z c. (in_v, Contains-counts (q ∷ rest) us ring.2 z c) in
        let end : y ≡ p = entry_after-injective us y p distinct (nbr y (Leads-in g q rest y way.1)).1 dart_p.1 (way.2.0 ∙ sym corner_v) in
        let undone : (z : ℕ) → Contains rest (g z) → Contains (q ∷ rest) z → next_after (g z) ≡ z = λ z c c'.
        let d = nbr z c' in
        let d' = HasDart-follows map v z d in
        let n : g z ≢ q = λ e. head_apart q rest (AllPairs-counts (q ∷ rest) us ring.2 distinct) (subst (Contains rest) e c) in
        let f = (fan (g z) d' n).0 in
        let back = simple.both_ways (follows map (g z) v) v (IsFaceOfThree-turned map (g z) (follows map (g z) v) v simple (IsFaceOfThree-turned map v (g z) (follows map (g z) v) simple f)).dart in
        next_after-turned (g z) d' n ∙ entry_after-injective us (follows map (g z) v) z distinct back.1 d.1 f.round in
        let found = Leads-back g next_after q rest y [] q undone way.1 refl in
        let out = found.0 in
        ends out (subst (λ z. Leads next_after z out q) end found.1) (λ u. ap (λ z. count_of u (z ∷ out)) (sym end) ∙ (found.2 u ∙ (nothing u ∙ ring.2 u)))
      where
        nothing : (u : ℕ) → count_of u (q ∷ (ring_from (list_of map v) q (simple.no_repeat v in_v) (cycle.darts v removable.on).1).0) + count_of u [] ≡ count_of u (q ∷ (ring_from (list_of map v) q (simple.no_repeat v in_v) (cycle.darts v removable.on).1).0)
        nothing u = let z : count_of u [] ≡ 0 = refl in omega (arith, z)

        ends : (out : List ℕ) → Leads next_after p out q → ((u : ℕ) → count_of u (p ∷ out) ≡ count_of u (list_of map v)) → (mid : List ℕ) × Leads next_after p (mid ++ q ∷ []) q × ((u : ℕ) → count_of u (p ∷ mid ++ q ∷ []) ≡ count_of u (list_of map v))
        ends [] h c = absurd (p_not_q h)
        ends (w ∷ out) h c =
            let end = Leads-end next_after p w out q h in
            (end.0, subst (λ l. Leads next_after p l q) end.1 h, λ u. ap (λ l. count_of u (p ∷ l)) (sym end.1) ∙ c u)
