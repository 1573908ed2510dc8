-- What the outer cycle and the faces of a vertex taken off have to do with the cycle before.
use Rattle.std.proofs.Common.{◌≡◌, ◌≢◌, ◌⊎◌, ◌↔◌, ℕ, ◌+◌, ◌-◌, ◌<◌, Bool, List, [], ◌∷◌, ◌++◌, length, get_or, AllPairs, Contains, refl, sym, ap, ◌∙◌, subst, inl, inr, arith}
use Rattle.std.proofs.lemmas.Bool.{cases_eq}
use Rattle.std.proofs.lemmas.List.{append_assoc, length-append, get_or-append-add, get_or_default}
use Rattle.map_lists.specs.Lists.{Lists}
use Rattle.map_theory.specs.Maps.{list_of, HasDart, IsSimpleMap, entry_after}
use Rattle.map_theory.proofs.EntryLemmas.{Contains-here, Contains-there, count_of, count_of-append, Contains-counted, count_of-le-one, AllPairs-from_counts}
use Rattle.std.proofs.lemmas.List.Elements.{Contains-append_left, Contains-append_right, Contains-append_cases}
use Rattle.plane_peeling.specs.Restricted.{restricted, kept_but, IsFaceOfThree, IsDartOfThree}
use Rattle.plane_peeling.specs.NearTriangulations.{IsOuterDart}
use Rattle.plane_peeling.specs.Peeled.{IsPeeled, IsTakenOff}
use Rattle.plane_peeling.proofs.Rings.{separated_at, last-entry, entry_after-inside, entry_after-last}
use Rattle.plane_peeling.proofs.RestrictedMaps.{cases_Contains, restricted-old, restricted-new, kept_but-new}
use Rattle.plane_peeling.proofs.OuterCycles.{cases_outer, IsFaceOfThree-turned}
use Rattle.map_theory.proofs.DartLemmas.{Contains-entry_after}
use Rattle.plane_peeling.proofs.CycleAfter.{after_is, after_has, count-run, not_counted}
use Rattle.std.specs.Prelude.{slice_index}

-- ---- lists
-- lists without repeats that hold the same hold each number as often
same_counts : (us vs : List ℕ) → AllPairs ◌≢◌ us → AllPairs ◌≢◌ vs → ((u : ℕ) → Contains us u → Contains vs u) → ((u : ℕ) → Contains vs u → Contains us u) → (u : ℕ) → count_of u us ≡ count_of u vs
same_counts us vs distinct distinct' to from u =
    let one = count_of-le-one u us distinct in
    let other = count_of-le-one u vs distinct' in
    elim (cases_Contains us u) [
      | inl c ↦ let a = Contains-counted u us c in let b = Contains-counted u vs (to u c) in omega arith
      | inr n ↦ let a = not_counted u us n in let b = not_counted u vs (λ c. n (from u c)) in omega arith
    ]

-- the entry after one, from the parts of the list
entry_after-separated : (us front : List ℕ) (x y : ℕ) (back : List ℕ) → AllPairs ◌≢◌ us → us ≡ front ++ x ∷ y ∷ back → entry_after x us ≡ y
entry_after-separated us front x y back distinct e = ap (entry_after x) e ∙ entry_after-inside front x y back (subst (AllPairs ◌≢◌) e distinct)

-- what follows an entry of a front does not hang on what comes behind the entry after the front
front_alike : (front : List ℕ) (p : ℕ) (rest other : List ℕ) → AllPairs ◌≢◌ (front ++ p ∷ rest) → AllPairs ◌≢◌ (front ++ p ∷ other) → (x : ℕ) → Contains front x → entry_after x (front ++ p ∷ rest) ≡ entry_after x (front ++ p ∷ other)
front_alike front p rest other distinct distinct' x c =
    let parts = separated_at front x c in
    let whole : (tail : List ℕ) → front ++ p ∷ tail ≡ parts.0 ++ (x ∷ parts.1 ++ p ∷ tail) = λ tail.
    ap (λ l. l ++ p ∷ tail) parts.2 ∙ append_assoc parts.0 (x ∷ parts.1) (p ∷ tail) in
    at parts.0 parts.1 (whole rest) (whole other)
  where
    at : (f1 f2 : List ℕ) → front ++ p ∷ rest ≡ f1 ++ (x ∷ f2 ++ p ∷ rest) → front ++ p ∷ other ≡ f1 ++ (x ∷ f2 ++ p ∷ other) → entry_after x (front ++ p ∷ rest) ≡ entry_after x (front ++ p ∷ other)
    at f1 [] e e' = entry_after-separated (front ++ p ∷ rest) f1 x p rest distinct e ∙ sym (entry_after-separated (front ++ p ∷ other) f1 x p other distinct' e')
    at f1 (b ∷ f2) e e' = entry_after-separated (front ++ p ∷ rest) f1 x b (f2 ++ p ∷ rest) distinct e ∙ sym (entry_after-separated (front ++ p ∷ other) f1 x b (f2 ++ p ∷ other) distinct' e')

-- nor that of one of the back on what comes before the back, but for the first of all
back_alike : (one two back : List ℕ) → AllPairs ◌≢◌ (one ++ back) → AllPairs ◌≢◌ (two ++ back) → (x : ℕ) → get_or (one ++ back) 0 x ≡ get_or (two ++ back) 0 x → Contains back x → entry_after x (one ++ back) ≡ entry_after x (two ++ back)
back_alike one two back distinct distinct' x first c =
    let parts = separated_at back x c in
    let whole : (head : List ℕ) → head ++ back ≡ (head ++ parts.0) ++ x ∷ parts.1 = λ head.
    ap (λ l. head ++ l) parts.2 ∙ sym (append_assoc head parts.0 (x ∷ parts.1)) in
    at parts.0 parts.1 (whole one) (whole two)
  where
    at : (b1 b2 : List ℕ) → one ++ back ≡ (one ++ b1) ++ x ∷ b2 → two ++ back ≡ (two ++ b1) ++ x ∷ b2 → entry_after x (one ++ back) ≡ entry_after x (two ++ back)
    at b1 (y ∷ b2) e e' = entry_after-separated (one ++ back) (one ++ b1) x y b2 distinct e ∙ sym (entry_after-separated (two ++ back) (two ++ b1) x y b2 distinct' e')
    at b1 [] e e' = end one b1 distinct e ∙ (first ∙ sym (end two b1 distinct' e'))
      where
        end : (head b1 : List ℕ) → AllPairs ◌≢◌ (head ++ back) → head ++ back ≡ (head ++ b1) ++ x ∷ [] → entry_after x (head ++ back) ≡ get_or (head ++ back) 0 x
        end head b1 d q =
            ap (entry_after x) q ∙ (entry_after-last (head ++ b1) x (subst (AllPairs ◌≢◌) q d) ∙ ap (λ l. get_or l 0 x) (sym q))

-- the first of a list with an entry in it
first_alike : (front : List ℕ) (p : ℕ) (rest other : List ℕ) (d : ℕ) → get_or (front ++ p ∷ rest) 0 d ≡ get_or (front ++ p ∷ other) 0 d
first_alike [] p rest other d = refl
first_alike (a ∷ front) p rest other d = refl

-- two entries that follow one another inside, by their place
inside_at : (f1 : List ℕ) (x : ℕ) (f2 : List ℕ) (d : ℕ) → (get_or (f1 ++ x ∷ f2) (length f1) d ≡ x) × (get_or (f1 ++ x ∷ f2) (length f1 + 1) d ≡ get_or f2 0 d)
inside_at f1 x f2 d =
    let n : length f1 + 0 ≡ length f1 = omega arith in
    (ap (λ k. get_or (f1 ++ x ∷ f2) k d) (sym n) ∙ get_or-append-add f1 (x ∷ f2) 0 d, get_or-append-add f1 (x ∷ f2) 1 d)

-- ---- the law
module _ (lists : Lists) (kept : ℕ → Bool) (s t : ℕ) (ws : List ℕ) (v : ℕ) (front : List ℕ) (p : ℕ) (mid : List ℕ) (q : ℕ) (back : List ℕ) (peeled : IsPeeled lists kept s t ws) (off : IsTakenOff lists kept s t ws v front p mid q back) where
  abbrev M : Lists
  M = restricted kept lists

  simple : IsSimpleMap M
  simple = peeled.near.simple

  abbrev nbrs : List ℕ
  nbrs = p ∷ mid ++ q ∷ []

  abbrev after : List ℕ
  after = front ++ (p ∷ mid ++ q ∷ back)

  abbrev was : List ℕ
  was = front ++ p ∷ v ∷ q ∷ back

  distinct : AllPairs ◌≢◌ ws
  distinct = peeled.near.cycle.distinct

  was_distinct : AllPairs ◌≢◌ was
  was_distinct = subst (AllPairs ◌≢◌) off.before distinct

  after_distinct : AllPairs ◌≢◌ after
  after_distinct = off.left.near.cycle.distinct

  in_v : v < length M
  in_v = ((off.fan.neighbours p).1 (Contains-here p (mid ++ q ∷ []))).0

  nbrs_distinct : AllPairs ◌≢◌ nbrs
  nbrs_distinct =
      AllPairs-from_counts nbrs (λ u _.
      let three = count_of-append u (p ∷ []) (mid ++ q ∷ []) in
      let four = count_of-append u mid (q ∷ []) in
      omega (arith, count_of-le-one u after after_distinct, count-run u front p mid q back))

  run : (u : ℕ) → count_of u nbrs ≡ count_of u (list_of M v)
  run = same_counts nbrs (list_of M v) nbrs_distinct (simple.no_repeat v in_v) (λ u c. ((off.fan.neighbours u).1 c).1) (λ u c. (off.fan.neighbours u).0 (in_v, c))

  pub cycle_here : (u : ℕ) → Contains after u ↔ ((Contains ws u × (u ≢ v)) ⊎ HasDart M v u)
  cycle_here u = (
    (λ c. elim (after_is ws front p v mid q back (list_of M v) distinct off.before (simple.no_repeat v in_v) run u c) [ inl h ↦ inl h | inr h ↦ inr (in_v, h) ]),
    λ h. after_has ws front p v mid q back (list_of M v) distinct off.before (simple.no_repeat v in_v) run u (elim h [ inl c ↦ inl c | inr d ↦ inr d.1 ]),
  )

  -- a dart on one of the faces of v
  abbrev pub OnFan : ℕ → ℕ → Type 0
  OnFan x y = (i : ℕ) × (i < length mid + 1) × IsDartOfThree v (get_or nbrs i 0) (get_or nbrs (i + 1) 0) x y

  size : length nbrs ≡ length mid + 2
  size = let n = length-append mid (q ∷ []) in omega arith

  last_nbr : get_or nbrs (length mid + 1) 0 ≡ q
  last_nbr =
      let n : length mid + 1 ≡ length ((p ∷ mid) ++ q ∷ []) - 1 = omega (arith, length-append (p ∷ mid) (q ∷ [])) in
      ap (λ k. get_or ((p ∷ mid) ++ q ∷ []) k 0) n ∙ last-entry (p ∷ mid) q 0

  on_ws : (u : ℕ) → Contains was u → Contains ws u
  on_ws u c = subst (λ l. Contains l u) (sym off.before) c

  -- from v to a neighbour
  from_v : (y : ℕ) → HasDart M v y → ¬ IsOuterDart ws v y → OnFan v y
  from_v y d n =
      let c = (off.fan.neighbours y).0 d in
      let at : get_or nbrs c.0 0 ≡ y = get_or_default nbrs c.0 0 y c.1 ∙ c.2 in
      let v_q : entry_after v ws ≡ q = entry_after-separated ws (front ++ p ∷ []) v q back distinct (off.before ∙ sym (append_assoc front (p ∷ []) (v ∷ q ∷ back))) in
      let on_v = on_ws v (Contains-append_right front (p ∷ v ∷ q ∷ back) v (Contains-there p (v ∷ q ∷ back) v (Contains-here v (q ∷ back)))) in
      let ne : c.0 ≢ length mid + 1 = λ e. n (on_v, v_q ∙ (sym last_nbr ∙ (ap (λ k. get_or nbrs k 0) (sym e) ∙ at))) in
      (c.0, omega (arith, size, c.1, ne), inl (refl, sym at))

  -- from a neighbour to v
  to_v : (x : ℕ) → HasDart M x v → ¬ IsOuterDart ws x v → OnFan x v
  to_v x d n =
      let c = (off.fan.neighbours x).0 (simple.both_ways x v d) in
      let at : get_or nbrs c.0 0 ≡ x = get_or_default nbrs c.0 0 x c.1 ∙ c.2 in
      let p_v : entry_after p ws ≡ v = entry_after-separated ws front p v (q ∷ back) distinct off.before in
      let on_p = on_ws p (Contains-append_right front (p ∷ v ∷ q ∷ back) p (Contains-here p (v ∷ q ∷ back))) in
      let ne : c.0 ≢ 0 = λ e. let x_p : x ≡ p = sym at ∙ ap (λ k. get_or nbrs k 0) e in n (subst (Contains ws) (sym x_p) on_p, ap (λ z. entry_after z ws) x_p ∙ p_v) in
      let one : c.0 ≡ c.0 - 1 + 1 = omega (arith, ne) in
      (c.0 - 1, omega (arith, size, c.1, ne), inr (inr (sym at ∙ ap (λ k. get_or nbrs k 0) one, refl)))

  -- along the new cycle, but not the old one
  pub along : (x y : ℕ) → IsOuterDart after x y → ¬ IsOuterDart ws x y → OnFan x y
  along x y o n =
      elim (Contains-append_cases front (p ∷ mid ++ q ∷ back) x o.0) [
        | inl c ↦
            absurd (n (on_ws x (Contains-append_left front (p ∷ v ∷ q ∷ back) x c), ap (entry_after x) off.before ∙ (front_alike front p (v ∷ q ∷ back) (mid ++ q ∷ back) was_distinct after_distinct x c ∙ o.1)))
        | inr c ↦
            elim (Contains-append_cases (p ∷ mid) (q ∷ back) x c) [
              | inr c' ↦
                  let two : after ≡ (front ++ p ∷ mid) ++ q ∷ back = sym (append_assoc front (p ∷ mid) (q ∷ back)) in
                  let one : was ≡ (front ++ p ∷ v ∷ []) ++ q ∷ back = sym (append_assoc front (p ∷ v ∷ []) (q ∷ back)) in
                  let first : get_or ((front ++ p ∷ v ∷ []) ++ q ∷ back) 0 x ≡ get_or ((front ++ p ∷ mid) ++ q ∷ back) 0 x =
                  ap (λ l. get_or l 0 x) (sym one) ∙ (first_alike front p (v ∷ q ∷ back) (mid ++ q ∷ back) x ∙ ap (λ l. get_or l 0 x) two) in
                  let same = back_alike (front ++ p ∷ v ∷ []) (front ++ p ∷ mid) (q ∷ back) (subst (AllPairs ◌≢◌) one was_distinct) (subst (AllPairs ◌≢◌) two after_distinct) x first c' in
                  let on_x = on_ws x (Contains-append_right front (p ∷ v ∷ q ∷ back) x (Contains-there p (v ∷ q ∷ back) x (Contains-there v (q ∷ back) x c'))) in
                  absurd (n (on_x, ap (entry_after x) (off.before ∙ one) ∙ (same ∙ (ap (entry_after x) (sym two) ∙ o.1))))
              | inl c' ↦ let parts = separated_at (p ∷ mid) x c' in between parts.0 parts.1 parts.2
            ]
      ]
    where
      between : (f1 f2 : List ℕ) → p ∷ mid ≡ f1 ++ x ∷ f2 → OnFan x y
      between f1 f2 e =
          let row : (tail : List ℕ) → p ∷ mid ++ q ∷ tail ≡ f1 ++ (x ∷ f2 ++ q ∷ tail) = λ tail. ap (λ l. l ++ q ∷ tail) e ∙ append_assoc f1 (x ∷ f2) (q ∷ tail) in
          let at = inside_at f1 x (f2 ++ q ∷ []) 0 in
          let whole : after ≡ (front ++ f1) ++ (x ∷ f2 ++ q ∷ back) = ap (λ l. front ++ l) (row back) ∙ sym (append_assoc front f1 (x ∷ f2 ++ q ∷ back)) in (
            length f1,
            omega (arith, ap length e, length-append f1 (x ∷ f2)),
            inr (inl (sym (ap (λ l. get_or l (length f1) 0) (row []) ∙ at.0), sym o.1 ∙ (head f2 whole ∙ sym (ap (λ l. get_or l (length f1 + 1) 0) (row []) ∙ at.1)))),
          )
        where
          head : (f2 : List ℕ) → after ≡ (front ++ f1) ++ (x ∷ f2 ++ q ∷ back) → entry_after x after ≡ get_or (f2 ++ q ∷ []) 0 0
          head [] w = entry_after-separated after (front ++ f1) x q back after_distinct w
          head (b ∷ f2) w = entry_after-separated after (front ++ f1) x b (f2 ++ q ∷ back) after_distinct w

  -- v is not on the new cycle
  pub not_v : (x : ℕ) → Contains after x → x ≢ v
  not_v x c =
      elim ((cycle_here x).0 c) [
        | inl on ↦ on.1
        | inr d ↦ peeled.near.simple.no_loop v x d
      ]

  -- a dart of the new cycle is one of the old one, or v stands beyond it
  pub new_or_old : IsSimpleMap lists → (x : ℕ) → Contains after x → IsFaceOfThree lists x (entry_after x after) v ⊎ (Contains ws x × (entry_after x ws ≡ entry_after x after))
  new_or_old whole x c =
      elim (cases_outer ws x (entry_after x after)) [
        | inl o ↦ inr o
        | inr n ↦
            let f = along x (entry_after x after) (c, refl) n in
            elim f.2 [
              | inl e ↦ absurd (not_v x c e.0)
              | inr e ↦ elim e [
                | inl e ↦
                    let a = get_or (p ∷ mid ++ q ∷ []) f.0 0 in
                    let b = get_or (p ∷ mid ++ q ∷ []) (f.0 + 1) 0 in
                    let face : IsFaceOfThree lists a b v = IsFaceOfThree-turned lists v a b whole (off.fan.faces f.0 f.1) in
                    inl (subst (λ z. IsFaceOfThree lists z (entry_after x after) v) (sym e.0) (subst (λ y. IsFaceOfThree lists a y v) (sym e.1) face))
                | inr e ↦ absurd (not_v (entry_after x after) (Contains-entry_after x after c) e.1)
              ]
            ]
      ]

  pub covers_here : (x y : ℕ) → HasDart M x y → ¬ IsOuterDart ws x y → (HasDart (restricted (kept_but kept v) lists) x y × ¬ IsOuterDart after x y) ⊎ OnFan x y
  covers_here x y d n =
      elim (cases_eq x v) [
        | inl e ↦ inr (subst (λ z. OnFan z y) (sym e) (from_v y (subst (λ z. HasDart M z y) e d) (subst (λ z. ¬ IsOuterDart ws z y) e n)))
        | inr nx ↦
            elim (cases_eq y v) [
              | inl e ↦ inr (subst (λ z. OnFan x z) (sym e) (to_v x (subst (λ z. HasDart M x z) e d) (subst (λ z. ¬ IsOuterDart ws x z) e n)))
              | inr ny ↦
                  elim (cases_outer after x y) [
                    | inl o ↦ inr (along x y o n)
                    | inr off_after ↦
                        let old = restricted-old lists kept x y d in
                        inl (restricted-new lists (kept_but kept v) x y old.0 (kept_but-new kept v x old.1 nx) (kept_but-new kept v y old.2 ny), off_after)
                  ]
            ]
      ]

-- After a vertex is taken off, those on the outer cycle are those that were on it, without the vertex, and its neighbours.
pub cycle_after : (lists : Lists) (kept : ℕ → Bool) (s t : ℕ) (ws : List ℕ) (v : ℕ) (front : List ℕ) (p : ℕ) (mid : List ℕ) (q : ℕ) (back : List ℕ) → IsPeeled lists kept s t ws → IsTakenOff lists kept s t ws v front p mid q back → (u : ℕ) → Contains (front ++ (p ∷ mid ++ q ∷ back)) u ↔ ((Contains ws u × (u ≢ v)) ⊎ HasDart (restricted kept lists) v u)
cycle_after lists kept s t ws v front p mid q back peeled off u = cycle_here lists kept s t ws v front p mid q back peeled off u

-- A dart of what was left that is not on the outer cycle is one of what is left after a vertex is taken off, and not on its outer cycle, or lies on a face of the vertex taken off and two of its neighbours that follow one another.
pub fan_covers : (lists : Lists) (kept : ℕ → Bool) (s t : ℕ) (ws : List ℕ) (v : ℕ) (front : List ℕ) (p : ℕ) (mid : List ℕ) (q : ℕ) (back : List ℕ) → IsPeeled lists kept s t ws → IsTakenOff lists kept s t ws v front p mid q back → (x y : ℕ) → HasDart (restricted kept lists) x y → ¬ IsOuterDart ws x y → (HasDart (restricted (kept_but kept v) lists) x y × ¬ IsOuterDart (front ++ (p ∷ mid ++ q ∷ back)) x y) ⊎ ((i : ℕ) × (i < length mid + 1) × IsDartOfThree v (slice_index (p ∷ mid ++ q ∷ []) i) (slice_index (p ∷ mid ++ q ∷ []) (i + 1)) x y)
fan_covers lists kept s t ws v front p mid q back peeled off x y d n = covers_here lists kept s t ws v front p mid q back peeled off x y d n
