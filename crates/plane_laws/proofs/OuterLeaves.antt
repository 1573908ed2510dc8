-- A leaf of an outer face that meets each vertex once: an inner number of whose face all others have an outer partner, and not b. By counts: else each inner face would have two chords, or one and the partner of b.
use Rattle.std.proofs.Common.{◌≡◌, ◌≢◌, ◌⊎◌, ◌&&◌, ◌||◌, ℕ, zero, suc, ◌+◌, ◌*◌, ◌<◌, ◌≤◌, Bool, true, false, not, eqb, List, refl, sym, ap, ◌∙◌, inl, inr, arith, eq-eqb, ne_eqb, eqb-true}
use Rattle.std.proofs.lemmas.Bool.{cases_Bool, cases_eq, eqb-false, and_parts, and_from, and_cases, or_left, or_right, or_parts, or_cases, true≢false, not-true, not-false}
use Rattle.classes.specs.Classes.{count_below, label, class_count}
use Rattle.classes.proofs.Counting.{count_below_into, count_below_split, count_below_weaker}
use Rattle.classes.proofs.Classes.{Together}
use Rattle.classes.proofs.Orbits.{orbits_of, length-orbits_of, orbits_of-marked, IsPermuting}
use Rattle.classes.proofs.Bound.{IsPairing, IsPermuting-pairing, IsPermuting-after, after, Balances}
use Rattle.plane_laws.proofs.KeptEdges.{all_or_some}
use Rattle.plane_laws.proofs.OuterChords.{IsOuter, chord, chord_or, few_chords}

-- i is inner, and each other number of its orbit has an outer partner, which is not b
pub record IsLeaf (f g : ℕ → ℕ) (k b : ℕ) (outer : ℕ → Bool) (i : ℕ) : Type 0 where
  pub within : i < k
  pub inner : outer i ≡ false
  pub others : (j : ℕ) → j < k → Together (orbits_of (after f g) k) j i → j ≢ i → (outer (g j) ≡ true) × (g j ≢ b)

module _ (f g : ℕ → ℕ) (k m b : ℕ) (outer : ℕ → Bool) (double : k ≡ m + m) (w : IsPermuting f k) (v : IsPairing g k) (plane : Balances f g k m 0) (o : IsOuter f g k outer) (lb : b < k) (outer_b : outer b ≡ true) where
  abbrev h : ℕ → ℕ
  h = after f g

  hw : IsPermuting h k
  hw = IsPermuting-after f g k w (IsPermuting-pairing g k v)

  abbrev P : List ℕ
  P = orbits_of h k

  -- what is outer is so all along an orbit
  same_kind : (i j : ℕ) → i < k → j < k → Together P i j → outer i ≡ outer j
  same_kind = orbits_of-marked outer h k hw.within o.kept

  -- j has an outer partner, which is not b
  abbrev behind : ℕ → Bool
  behind j = outer (g j) && not (eqb (g j) b)

  -- j is i, or of another orbit, or has such a partner
  abbrev plain : ℕ → ℕ → Bool
  plain i j = eqb j i || (not (eqb (label P j) (label P i)) || behind j)

  plain_is : (i j : ℕ) → plain i j ≡ true → Together P j i → j ≢ i → (outer (g j) ≡ true) × (g j ≢ b)
  plain_is i j t e ne = grind (arith, or_cases, eqb, not, label, behind, eqb-true, true≢false, eq-eqb, not-true, and_parts, eqb-false)

  -- a chord, or the partner of b
  special : ℕ → Bool
  special j = chord g outer j || eqb j (g b)

  -- what is not plain is another special number of the orbit
  record IsOther (i j : ℕ) : Type 0 where
    within : j < k
    special : special j ≡ true
    together : Together P i j
    inner : outer j ≡ false
    other : j ≢ i

  other_from : (i j : ℕ) → i < k → outer i ≡ false → j < k → plain i j ≡ false → IsOther i j
  unfolding special
  other_from i j l inner l' f = grind (arith, or_parts, eqb, not, label, behind, Together, eqb-true, not-false, same_kind, special, and_cases, chord_or)

  -- a leaf, or another special number beside each inner one
  search_leaf : (n : ℕ) → n ≤ k → ((i : ℕ) × IsLeaf f g k b outer i) ⊎ ((i : ℕ) → i < n → outer i ≡ false → (j : ℕ) × (j < k) × (plain i j ≡ false))
  search_leaf zero l = inr (λ i m. absurd (omega arith))
  search_leaf (suc n) l =
      elim (search_leaf n (omega arith)) [
        | inl found ↦ inl found
        | inr before ↦
            elim (all_or_some (plain n) k) [
              | inr r ↦ inr (λ i m inner. elim (cases_eq i n) [ inl e ↦ (r.0, r.1, ap (λ z. plain z r.0) e ∙ r.2) | inr ne ↦ before i (omega arith) inner ])
              | inl all ↦
                  elim (cases_Bool (outer n)) [
                    | inl out ↦ inr (λ i m inner. elim (cases_eq i n) [ inl e ↦ absurd (true≢false (sym out ∙ (ap outer (sym e) ∙ inner))) | inr ne ↦ before i (omega arith) inner ])
                    | inr inner ↦ inl (n, record { within = omega arith; inner = inner; others = λ j m e ne. plain_is n j (all j m) e ne })
                  ]
            ]
      ]

  module _ (none : (i : ℕ) → i < k → outer i ≡ false → (j : ℕ) × (j < k) × (plain i j ≡ false)) where
    pick : ℕ → ℕ
    pick i = elim (all_or_some (plain i) k) [ inl all ↦ 0 | inr r ↦ r.0 ]

    pick_is : (i : ℕ) → i < k → outer i ≡ false → IsOther i (pick i)
    unfolding pick
    pick_is i l inner =
        elim (all_or_some (plain i) k) as (λ c. IsOther i (elim c [ inl all ↦ 0 | inr r ↦ r.0 ])) [
          | inl all ↦ let j = none i l inner in absurd (true≢false (sym (all j.0 j.1) ∙ j.2))
          | inr r ↦ other_from i r.0 l inner r.1 r.2
        ]

    own : ℕ → Bool
    own i = eqb (label P i) i

    own_same : (i j : ℕ) → own i ≡ true → own j ≡ true → Together P i j → i ≡ j
    unfolding own
    own_same i j t t' e = sym (eqb-true (label P i) i t) ∙ (e ∙ eqb-true (label P j) j t')

    own_is : (i : ℕ) → own i ≡ true → label P i ≡ i
    unfolding own
    own_is i t = eqb-true (label P i) i t

    is_picked : ℕ → Bool
    is_picked i = eqb i (pick (label P i))

    inner_own : ℕ → Bool
    inner_own i = not (outer i) && own i

    inner_is : (i : ℕ) → inner_own i ≡ true → (outer i ≡ false) × (own i ≡ true)
    unfolding inner_own
    inner_is i t = let a = and_parts (not (outer i)) (own i) t in (not-true (outer i) a.0, a.1)

    -- the special number of an inner face that is not picked
    second : (i : ℕ) → i < k → inner_own i ≡ true → IsOther (pick i) (pick (pick i)) × Together P i (pick (pick i))
    second i l t =
        let one = pick_is i l (inner_is i t).0 in
        let two = pick_is (pick i) one.within one.inner in
        (two, one.together ∙ two.together)

    -- so there are two special numbers for each inner face
    counts : 2 * class_count P ≤ count_below (chord g outer) k + 3
    unfolding is_picked inner_own own special
    counts =
        let faces : class_count P ≡ count_below own k = ap (count_below own) (length-orbits_of h k) in
        let one_outer = count_below_into (λ i. 0) (λ i. outer i && own i) (λ i. true) k 1 (λ i l t. (omega arith, refl))
        (λ i j l m t t' e. let a = and_parts (outer i) (own i) t in let c = and_parts (outer j) (own j) t' in own_same i j a.1 c.1 (o.one i j l m a.0 c.0)) in
        let firsts = count_below_into pick inner_own (λ i. is_picked i && special i) k k
        (λ i l t.
        let a = inner_is i t in
        let c = pick_is i l a.0 in
        (c.within, and_from (is_picked (pick i)) (special (pick i)) (eq-eqb (pick i) (pick (label P (pick i))) (ap pick (sym (own_is i a.1) ∙ c.together))) c.special))
        (λ i j l m t t' e.
        let a = inner_is i t in
        let a' = inner_is j t' in
        own_same i j a.1 a'.1 ((pick_is i l a.0).together ∙ (ap (label P) e ∙ sym (pick_is j m a'.0).together))) in
        let seconds = count_below_into (λ i. pick (pick i)) inner_own (λ i. not (is_picked i) && special i) k k
        (λ i l t.
        let a = inner_is i t in
        let c = second i l t in
        let back : pick (label P (pick (pick i))) ≡ pick i = ap pick (sym c.1 ∙ own_is i a.1) in
        (c.0.within, and_from (not (is_picked (pick (pick i)))) (special (pick (pick i))) (ap not (ne_eqb (pick (pick i)) (pick (label P (pick (pick i)))) (λ q. c.0.other (q ∙ back)))) c.0.special))
        (λ i j l m t t' e.
        let a = inner_is i t in
        own_same i j a.1 (inner_is j t').1 ((second i l t).1 ∙ (ap (label P) e ∙ sym (second j m t').1))) in
        let by_b = count_below_split special (λ i. eqb i (g b)) k in
        let one_b = count_below_into (λ i. 0) (λ i. eqb i (g b) && special i) (λ i. true) k 1 (λ i l t. (omega arith, refl))
        (λ i j l m t t' e. eqb-true i (g b) (and_parts (eqb i (g b)) (special i) t).0 ∙ sym (eqb-true j (g b) (and_parts (eqb j (g b)) (special j) t').0)) in
        let rest = count_below_weaker (λ i. not (eqb i (g b)) && special i) (chord g outer) k (λ i l t.
        let a = and_parts (not (eqb i (g b))) (special i) t in
        elim (or_cases (chord g outer i) (eqb i (g b)) a.1) [
          | inl c ↦ c
          | inr q ↦ absurd (true≢false (sym q ∙ not-true (eqb i (g b)) a.0))
        ]) in
        omega (arith, faces, count_below_split own outer k, one_outer, firsts, seconds, count_below_split special is_picked k, by_b, one_b, rest)

  -- there is a leaf
  pub some_leaf : (i : ℕ) × IsLeaf f g k b outer i
  some_leaf =
      elim (search_leaf k (omega arith)) [
        | inl found ↦ found
        | inr none ↦ absurd (few_chords f g k m outer double w v plane o (omega (arith, lb)) (counts none))
      ]
