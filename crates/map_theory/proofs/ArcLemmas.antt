-- Entries of an arc, one after another.
use Rattle.std.proofs.Common.{◌≡◌, ◌≢◌, ℕ, zero, suc, ◌+◌, ◌-◌, ◌<◌, cond, ltb, List, length, get_or, take, drop, AllPairs, Contains, sym, ap, ◌∙◌, subst, inl, inr, arith, length-append, length-take, length-drop}
use Rattle.std.proofs.lemmas.Bool.{cases_lt, cases_eq}
use Rattle.std.proofs.lemmas.Bool.Decides.{nat_tests}
use Rattle.std.proofs.lemmas.List.{get_or_default, get_or-take, get_or-drop, get_or_append_left, get_or-append_right, length-take-le}
use Rattle.map_theory.specs.Maps.{place_of, entry_after}
use Rattle.map_theory.specs.Paths.{from_entry, arc}
use Rattle.map_theory.proofs.DartLemmas.{place_of-le, entry_after-injective, place_of-lt-length, get_or-place_of, before_place_of, place_of-get_or, place_after, entry_after-place, Contains-entry_after}

-- place i of the turned list, in the list
abbrev turned_place : ℕ → ℕ → ℕ → ℕ
turned_place n p i = cond (ltb (p + i) n) (p + i) (p + i - n)

turned_place-lt : (n p i : ℕ) → p < n → i < n → turned_place n p i < n
turned_place-lt n p i h l = grind (arith, nat_tests)

place_after-turned : (n p i : ℕ) → p < n → suc i < n → place_after n (turned_place n p i) ≡ turned_place n p (suc i)
place_after-turned n p i h l = grind (arith, nat_tests)

turned_place-apart : (n p i j : ℕ) → p < n → i < n → j < n → turned_place n p i ≡ turned_place n p j → i ≡ j
turned_place-apart n p i j h l m e = grind (arith, nat_tests)

-- The list from a on, where a stands in it and nothing stands in it twice.
module _ (us : List ℕ) (a : ℕ) (distinct : AllPairs ◌≢◌ us) (has : Contains us a) where
  in_a : place_of a us < length us
  in_a = place_of-lt-length a us has

  pub length-from_entry : length (from_entry a us) ≡ length us
  length-from_entry =
      let p = place_of a us in
      let l = in_a in
      omega (arith, length-append (drop p us) (take p us), length-drop p us, length-take-le p us (omega arith))

  from_entry-at : (i : ℕ) → i < length us → get_or (from_entry a us) i 0 ≡ get_or us (turned_place (length us) (place_of a us) i) 0
  from_entry-at i l =
      let p = place_of a us in
      let n = length us in
      let m = in_a in
      let d = length-drop p us in
      grind (arith, cases_lt, turned_place, nat_tests, get_or_append_left, drop, take, get_or-drop, get_or, get_or-append_right, get_or-take)

  -- it begins with a
  pub from_entry-first : get_or (from_entry a us) 0 0 ≡ a
  from_entry-first =
      let m = in_a in
      let same : turned_place (length us) (place_of a us) 0 ≡ place_of a us = grind (arith, nat_tests) in
      from_entry-at 0 (omega arith) ∙ (ap (λ q. get_or us q 0) same ∙ get_or-place_of a us 0 m)

  -- each of its entries is one of the list
  pub from_entry-in : (i : ℕ) → i < length us → Contains us (get_or (from_entry a us) i 0)
  from_entry-in i l =
      let q = turned_place (length us) (place_of a us) i in
      let m = turned_place-lt (length us) (place_of a us) i in_a l in
      (q, m, get_or_default us q (get_or (from_entry a us) i 0) 0 m ∙ sym (from_entry-at i l))

  -- and the next one follows it
  pub from_entry-next : (i : ℕ) → suc i < length us → entry_after (get_or (from_entry a us) i 0) us ≡ get_or (from_entry a us) (suc i) 0
  from_entry-next i l =
      let n = length us in
      let p = place_of a us in
      let x = get_or (from_entry a us) i 0 in
      let q = turned_place n p i in
      let m = turned_place-lt n p i in_a (omega arith) in
      let place : place_of x us ≡ q = ap (λ y. place_of y us) (from_entry-at i (omega arith)) ∙ place_of-get_or us q 0 distinct m in
      entry_after-place x us 0 (omega arith) ∙ (ap (λ y. get_or us (place_after n y) 0) place ∙ (ap (λ y. get_or us y 0) (place_after-turned n p i in_a l) ∙ sym (from_entry-at (suc i) l)))

  -- no later entry is a
  pub from_entry-not_first : (i : ℕ) → 0 < i → i < length us → get_or (from_entry a us) i 0 ≢ a
  from_entry-not_first i pos l e = grind (arith, length, place_of, turned_place, turned_place-lt, in_a, place_of-get_or, from_entry-at, turned_place-apart, nat_tests)

  -- the entries of an arc stand before b
  pub arc-at : (b s : ℕ) → Contains (arc us a b) s → (i : ℕ) × (i < length us) × (i < place_of b (from_entry a us)) × (get_or (from_entry a us) i 0 ≡ s)
  arc-at b s h = grind (arith, from_entry, length-take, place_of, length, length-from_entry, get_or_default, get_or-take)

  -- no entry of an arc is b
  pub before_end : (b i : ℕ) → i < place_of b (from_entry a us) → get_or (from_entry a us) i 0 ≢ b
  before_end b i l = before_place_of b (from_entry a us) i 0 l

  -- where a is b it holds nothing
  pub arc-itself : (s : ℕ) → ¬ Contains (arc us a a) s
  arc-itself s h =
      omega (arith, place_of-le a (from_entry a us) 0 0 from_entry-first, (arc-at a s h).2)

  -- an entry before b is in the arc
  pub arc-has : (b i : ℕ) → i < length us → i < place_of b (from_entry a us) → Contains (arc us a b) (get_or (from_entry a us) i 0)
  arc-has b i l m =
      let r = from_entry a us in
      let n = length-from_entry in
      let t = length-take (place_of b r) r in
      (i, omega (arith, t), get_or-take (place_of b r) r i (get_or r i 0) m ∙ get_or_default r i (get_or r i 0) 0 (omega arith))

  -- every entry of the list is one of the turned list
  pub from_entry-has : (z : ℕ) → Contains us z → Contains (from_entry a us) z
  from_entry-has z h =
      let n = length us in
      let p = place_of a us in
      let j = place_of z us in
      let l = place_of-lt-length z us h in
      let i = cond (ltb j p) (j + n - p) (j - p) in
      let in_p = in_a in
      let in_i : i < n = grind (arith, nat_tests) in
      let same : turned_place n p i ≡ j = grind (arith, nat_tests) in
      let m = length-from_entry in
      (i, omega arith, get_or_default (from_entry a us) i z 0 (omega arith) ∙ (from_entry-at i in_i ∙ (ap (λ q. get_or us q 0) same ∙ get_or-place_of z us 0 l)))

  -- the turned list holds nothing twice
  pub from_entry-apart : (i j : ℕ) → i < length us → j < length us → get_or (from_entry a us) i 0 ≡ get_or (from_entry a us) j 0 → i ≡ j
  from_entry-apart i j l m e = grind (arith, length, place_of, turned_place-lt, in_a, turned_place, place_of-get_or, from_entry-at, turned_place-apart)

  -- what stands before b is in the arc to b, where that is not a
  pub arc-last : (b s : ℕ) → a ≢ b → Contains us b → Contains us s → entry_after s us ≡ b → Contains (arc us a b) s
  arc-last b s ne has_b has_s e =
      let r = from_entry a us in
      let n = length-from_entry in
      let in_b = place_of-lt-length b r (from_entry-has b has_b) in
      let j = place_of b r in
      let at_b = get_or-place_of b r 0 in_b in
      let pos : 0 < j = elim (cases_eq j 0) [ inl z ↦ absurd (ne (sym from_entry-first ∙ (ap (λ q. get_or r q 0) (sym z) ∙ at_b))) | inr z ↦ omega arith ] in
      let i = j - 1 in
      let next : suc i ≡ j = omega arith in
      let step = from_entry-next i (omega arith) in
      let same = entry_after-injective us (get_or r i 0) s distinct (from_entry-in i (omega arith)) has_s (step ∙ (ap (λ q. get_or r q 0) next ∙ (at_b ∙ sym e))) in
      subst (Contains (arc us a b)) same (arc-has b i (omega arith) (omega arith))

  -- an arc grows by an entry where its end moves on, but not round to its start
  pub arc-wider : (b c s : ℕ) → Contains us b → entry_after b us ≡ c → a ≢ c → Contains (arc us a b) s → Contains (arc us a c) s
  arc-wider b c s has_b e ne h =
      let r = from_entry a us in
      let n = length-from_entry in
      let at = arc-at b s h in
      let in_b = place_of-lt-length b r (from_entry-has b has_b) in
      let later : at.0 < place_of c r =
      elim (cases_lt at.0 (place_of c r)) [
        | inl l ↦ l
        | inr l ↦
            let at_c = get_or-place_of c r 0 (let m = at.1 in omega arith) in
            elim (cases_eq (place_of c r) 0) [
              | inl z ↦ absurd (ne (sym from_entry-first ∙ (ap (λ q. get_or r q 0) (sym z) ∙ at_c)))
              | inr z ↦
                  let i = place_of c r - 1 in
                  let next : suc i ≡ place_of c r = omega arith in
                  let step = from_entry-next i (omega arith) in
                  let same = entry_after-injective us (get_or r i 0) b distinct (from_entry-in i (omega arith)) has_b (step ∙ (ap (λ q. get_or r q 0) next ∙ (at_c ∙ sym e))) in
                  absurd (omega (arith, from_entry-apart i (place_of b r) (omega arith) (omega arith) (same ∙ sym (get_or-place_of b r 0 in_b))))
            ]
      ] in
      subst (Contains (arc us a c)) at.3 (arc-has c at.0 at.1 later)

  -- an arc that is not empty holds its start
  pub arc-first : (b : ℕ) → a ≢ b → Contains us b → Contains (arc us a b) a
  arc-first b ne has_b =
      let r = from_entry a us in
      let l = place_of-lt-length b r (from_entry-has b has_b) in
      let pos : 0 < place_of b r = elim (cases_eq (place_of b r) 0) [ inl z ↦ absurd (ne (sym from_entry-first ∙ (ap (λ q. get_or r q 0) (sym z) ∙ get_or-place_of b r 0 l))) | inr z ↦ omega arith ] in
      subst (Contains (arc us a b)) from_entry-first (arc-has b 0 (omega arith) pos)

-- an arc grows by an entry where its start moves back, but not round to its end
pub arc-longer : (us : List ℕ) (a b s : ℕ) → AllPairs ◌≢◌ us → Contains us a → Contains us b → a ≢ b → Contains (arc us (entry_after a us) b) s → Contains (arc us a b) s
arc-longer us a b s distinct has_a has_b ne h =
    let c = entry_after a us in
    let has_c = Contains-entry_after a us has_a in
    let r = from_entry a us in
    let at = arc-at us c distinct has_c b s h in
    let n' = length-from_entry us c distinct has_c in
    let in_b' = place_of-lt-length b (from_entry c us) (from_entry-has us c distinct has_c b has_b) in
    let more : suc at.0 < length us = omega arith in
    let later : suc at.0 < place_of b r =
    elim (cases_lt (suc at.0) (place_of b r)) [
      | inl m ↦ m
      | inr m ↦
          let at_b = get_or-place_of b r 0 (place_of-lt-length b r (from_entry-has us a distinct has_a b has_b)) in
          elim (cases_eq (place_of b r) 0) [
            | inl z ↦ absurd (ne (sym (from_entry-first us a distinct has_a) ∙ (ap (λ q. get_or r q 0) (sym z) ∙ at_b)))
            | inr z ↦
                let i = place_of b r - 1 in
                let next : suc i ≡ place_of b r = omega arith in
                absurd (before_end us c distinct has_c b i (omega arith) (shifted i (omega arith) ∙ (ap (λ q. get_or r q 0) next ∙ at_b)))
          ]
    ] in
    subst (Contains (arc us a b)) (sym (shifted at.0 more) ∙ at.3) (arc-has us a distinct has_a b (suc at.0) more later)
  where
    shifted : (i : ℕ) → suc i < length us → get_or (from_entry (entry_after a us) us) i 0 ≡ get_or (from_entry a us) (suc i) 0
    shifted zero l =
        from_entry-first us (entry_after a us) distinct (Contains-entry_after a us has_a) ∙ (ap (λ x. entry_after x us) (sym (from_entry-first us a distinct has_a)) ∙ from_entry-next us a distinct has_a 0 l)
    shifted (suc i) l =
        sym (from_entry-next us (entry_after a us) distinct (Contains-entry_after a us has_a) i (omega arith)) ∙ (ap (λ x. entry_after x us) (shifted i (omega arith)) ∙ from_entry-next us a distinct has_a (suc i) l)
