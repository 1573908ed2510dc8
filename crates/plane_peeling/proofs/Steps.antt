-- THE STEP: while more than three vertices are left, one without a chord can be taken off.
use Rattle.std.proofs.Common.{◌≡◌, ◌≢◌, ◌⊎◌, ◌||◌, ℕ, suc, ◌+◌, ◌-◌, ◌<◌, ◌≤◌, Bool, true, false, not, List, [], ◌∷◌, ◌++◌, length, get_or, AllPairs, Contains, refl, sym, ap, ap₂, ◌∙◌, subst, inl, inr, arith, ◌==◌}
use Rattle.std.specs.List.{list_any}
use Rattle.std.proofs.lemmas.Bool.{cases_Bool, cases_lt, or_cases, or_left, or_right, true≢false, not-true}
use Rattle.std.proofs.lemmas.List.{length-append, nil_from_length}
use Rattle.std.proofs.lemmas.List.Elements.{Contains-append_left, Contains-append_right, Contains-get_or}
use Rattle.classes.specs.Classes.{count_below}
use Rattle.map_lists.specs.Lists.{Lists}
use Rattle.map_theory.specs.Maps.{list_of, HasDart, IsSimpleMap, component_count, follows, entry_after}
use Rattle.map_theory.proofs.EntryLemmas.{Contains-here, Contains-there, Contains-cons_cases, Contains-from_list_any, list_any-from_Contains, count_of, parts_apart, head_apart, AllPairs-right}
use Rattle.plane_laws.proofs.EdgeBound.{met_connected}
use Rattle.plane_peeling.specs.Restricted.{restricted, IsFaceOfThree}
use Rattle.plane_peeling.specs.NearTriangulations.{IsOuterCycle, IsRemovable}
use Rattle.plane_peeling.specs.Peeled.{IsPeeled, IsFan, IsTakenOff}
use Rattle.plane_peeling.specs.Laws.{RemovableTakenOff, CanBeTakenOff}
use Rattle.plane_peeling.proofs.Rings.{Leads, Leads-part, Leads-join, Leads-in, Leads-same, Leads-at, Contains-counts, AllPairs-counts, last-entry, separated_round, only_two, each_of_two, each_of_three}
use Rattle.plane_peeling.proofs.RestrictedMaps.{restricted-old, restricted-new, count-kept_but}
use Rattle.plane_peeling.proofs.OuterCycles.{round, last_on, first_on, next-on}
use Rattle.plane_peeling.proofs.Counted.{count_below-within, marks_everywhere}
use Rattle.plane_peeling.proofs.CycleAfter.{after_is, after_has, after_distinct}
use Rattle.plane_peeling.proofs.Fans.{before, chords, fan, next_after, next_after-turned, next_after-on, in_v, dart_p, p_not_q, p_not_last, run}
use Rattle.plane_peeling.proofs.TakenOff.{left}

-- where the neighbours of each vertex on the cycle are on it, no others are left
pub all_on_cycle : (lists : Lists) (kept : ℕ → Bool) (s t : ℕ) (ws : List ℕ) → IsSimpleMap lists → component_count lists ≡ 1 → IsPeeled lists kept s t ws → ((x u : ℕ) → Contains ws x → HasDart (restricted kept lists) x u → Contains ws u) → count_below kept (length lists) ≤ length ws
all_on_cycle lists kept s t ws whole one peeled closed =
    let on : ℕ → Bool = λ u. list_any (λ w. w == u) ws in
    let cycle = peeled.near.cycle in
    let mark : ℕ → Bool = λ u. on u || not (kept u) in
    let on_is : (u : ℕ) → Contains ws u → mark u ≡ true = λ u c. or_left (on u) (not (kept u)) (list_any-from_Contains u ws c) in
    let out_is : (u : ℕ) → kept u ≡ false → mark u ≡ true = λ u e. or_right (on u) (not (kept u)) (ap not e) in
    let is_on : (u : ℕ) → kept u ≡ true → mark u ≡ true → Contains ws u = λ u k m.
    grind (arith, or_cases, not, Contains-from_list_any, true≢false, not-true) in
    let over : (x u : ℕ) → HasDart lists x u → mark x ≡ true → mark u ≡ true = λ x u d m.
    elim (cases_Bool (kept u)) [
      | inr out ↦ out_is u out
      | inl k ↦
          elim (cases_Bool (kept x)) [
            | inr out ↦ on_is u (peeled.border u x k (whole.both_ways x u d) out)
            | inl k' ↦ on_is u (closed x u (is_on x k' m) (restricted-new lists kept x u d k' k))
          ]
    ] in
    let first = first_on (restricted kept lists) s t ws peeled.near.simple cycle in
    let in_first = (restricted-old lists kept s (entry_after s ws) (cycle.darts s first)).0.0 in
    count_below-within kept ws (length lists) (λ u l k. is_on u k (marks_everywhere lists whole one mark over s u in_first l (on_is s first)))

module _ (lists : Lists) (kept : ℕ → Bool) (s t : ℕ) (ws : List ℕ) (v : ℕ) (whole : IsSimpleMap lists) (peeled : IsPeeled lists kept s t ws) (removable : IsRemovable (restricted kept lists) s t ws v) where
  abbrev M : Lists
  M = restricted kept lists

  abbrev step : ℕ → ℕ
  step x = entry_after x ws

  abbrev q : ℕ
  q = step v

  abbrev step' : ℕ → ℕ
  step' = next_after lists kept s t ws v whole peeled removable

  sM : IsSimpleMap M
  sM = peeled.near.simple

  cM : IsOuterCycle M s t ws
  cM = peeled.near.cycle

  in_M : v < length M
  in_M = in_v lists kept s t ws v whole peeled removable

  -- the neighbours of v in a row, and the cycle before
  module _ (p : ℕ) (on_p : Contains ws p) (leads_p : step p ≡ v) (mid : List ℕ) (way : Leads step' p (mid ++ q ∷ []) q) (counts : (u : ℕ) → count_of u (p ∷ mid ++ q ∷ []) ≡ count_of u (list_of M v)) (front back : List ℕ) (was : ws ≡ front ++ p ∷ v ∷ q ∷ back) (way_front : Leads step t (front ++ p ∷ []) p) (way_back : Leads step q back t) where
    abbrev nbrs : List ℕ
    nbrs = p ∷ mid ++ q ∷ []

    abbrev after : List ℕ
    after = front ++ (p ∷ mid ++ q ∷ back)

    neighbour : (u : ℕ) → Contains nbrs u → HasDart M v u
    neighbour u c = (in_M, Contains-counts nbrs (list_of M v) counts u c)

    nbrs_distinct : AllPairs ◌≢◌ nbrs
    nbrs_distinct = AllPairs-counts nbrs (list_of M v) counts (sM.no_repeat v in_M)

    fan_here : IsFan lists kept v p mid q
    fan_here =
        let n = length-append mid (q ∷ []) in
        record {
          neighbours = λ u. ((λ d. Contains-counts (list_of M v) nbrs (λ w. sym (counts w)) u d.1), neighbour u);
          faces = λ i l.
              let a = get_or nbrs i 0 in
              let d = neighbour a (Contains-get_or nbrs i 0 (omega arith)) in
              let one : i + 1 ≡ suc i = omega arith in
              let at : get_or nbrs (i + 1) 0 ≡ step' a = ap (λ k. get_or nbrs k 0) one ∙ Leads-at step' p (mid ++ q ∷ []) q 0 i way (omega arith) in
              let ne : a ≢ q = λ e. nbrs_distinct i (length mid + 1) 0 (omega arith) (omega arith) (e ∙ sym last_nbr) in
              subst (λ y. IsFaceOfThree lists v a y) (sym (at ∙ next_after-turned lists kept s t ws v whole peeled removable a d ne)) (fan lists kept s t ws v whole peeled removable a d ne).1;
        }
      where
        last_nbr : get_or (p ∷ mid ++ q ∷ []) (length mid + 1) 0 ≡ q
        last_nbr =
            let n : length mid + 1 ≡ length ((p ∷ mid) ++ q ∷ []) - 1 = omega (arith, length-append (p ∷ mid) (q ∷ [])) in
            ap (λ k. get_or ((p ∷ mid) ++ q ∷ []) k 0) n ∙ last-entry (p ∷ mid) q 0

    -- what stands in the parts of the cycle
    on_ws : (u : ℕ) → Contains (front ++ p ∷ v ∷ q ∷ back) u → Contains ws u
    on_ws u c = subst (λ l. Contains l u) (sym was) c

    was_distinct : AllPairs ◌≢◌ (front ++ p ∷ v ∷ q ∷ back)
    was_distinct = subst (AllPairs ◌≢◌) was cM.distinct

    stays : (z : ℕ) → Contains ws z → z ≢ p → step' z ≡ step z
    stays z c n = next_after-on lists kept s t ws v whole peeled removable p on_p leads_p z c n

    stays_front : (z : ℕ) → Contains (t ∷ front) z → step' z ≡ step z
    stays_front z c =
        elim (Contains-cons_cases t front z c) [
          | inl e ↦ ap (λ x. step' x) (sym e) ∙ (stays t (last_on M s t ws sM cM) (λ e'. p_not_last lists kept s t ws v whole peeled removable p on_p leads_p (sym e')) ∙ ap step e)
          | inr c' ↦
              stays z (on_ws z (Contains-append_left front (p ∷ v ∷ q ∷ back) z c')) (λ e.
              parts_apart front (p ∷ v ∷ q ∷ back) was_distinct z c' (subst (Contains (p ∷ v ∷ q ∷ back)) (sym e) (Contains-here p (v ∷ q ∷ back))))
        ]

    stays_back : (z : ℕ) → Contains (q ∷ back) z → step' z ≡ step z
    stays_back z c =
        let c' = Contains-there v (q ∷ back) z c in
        stays z (on_ws z (Contains-append_right front (p ∷ v ∷ q ∷ back) z (Contains-there p (v ∷ q ∷ back) z c'))) (λ e.
        head_apart p (v ∷ q ∷ back) (AllPairs-right front (p ∷ v ∷ q ∷ back) was_distinct) (subst (Contains (v ∷ q ∷ back)) e c'))

    -- the new cycle leads round
    ring_after : Leads step' t after t
    ring_after =
        let one = Leads-part step t front (p ∷ []) p way_front in
        let two = Leads-part step' p mid (q ∷ []) q way in
        let last = Leads-same step step' q back t stays_back way_back in
        Leads-join step' t front one.0 (p ∷ mid ++ q ∷ back) t (Leads-same step step' t front one.0 stays_front one.1)
        (stays_front one.0 (Leads-in step t front one.0 one.1) ∙ one.2.0, Leads-join step' p mid two.0 (q ∷ back) t two.1 (two.2.0, last))

    on_after : (u : ℕ) → Contains after u → (Contains ws u × (u ≢ v)) ⊎ HasDart M v u
    on_after u c = elim (after_is ws front p v mid q back (list_of M v) cM.distinct was (sM.no_repeat v in_M) counts u c) [ inl h ↦ inl h | inr h ↦ inr (in_M, h) ]

    after_on : (u : ℕ) → (Contains ws u × (u ≢ v)) ⊎ HasDart M v u → Contains after u
    after_on u h = after_has ws front p v mid q back (list_of M v) cM.distinct was (sM.no_repeat v in_M) counts u (elim h [ inl c ↦ inl c | inr d ↦ inr d.1 ])

    distinct_after : AllPairs ◌≢◌ after
    distinct_after =
        after_distinct ws front p v mid q back (list_of M v) cM.distinct was (sM.no_repeat v in_M) counts (λ u c on. chords lists kept s t ws v whole peeled removable p on_p leads_p u (in_M, c) on)

    taken_off : 3 ≤ length after → IsTakenOff lists kept s t ws v front p mid q back
    taken_off long =
        record {
          before = was;
          fan = fan_here;
          left = left lists kept s t ws v whole peeled removable p on_p leads_p after on_after after_on distinct_after ring_after long;
        }

    -- Where v has two neighbours alone, and the cycle has three vertices, each neighbour of these is on the cycle.
    closed : front ≡ [] → mid ≡ [] → back ≡ [] → (x u : ℕ) → Contains ws x → HasDart M x u → Contains ws u
    closed no_front no_mid no_back x u c d =
        let d_p = dart_p lists kept s t ws v whole peeled removable p on_p leads_p in
        let pq = p_not_q lists kept s t ws v whole peeled removable p on_p leads_p in
        let last : q ≡ t = subst (λ l. Leads step q l t) no_back way_back in
        let to_p : step q ≡ p = ap step last ∙ (subst (λ l. Leads step t (l ++ p ∷ []) p) no_front way_front).0 in
        let p_v : follows M p v ≡ q = sym (next_after-turned lists kept s t ws v whole peeled removable p d_p pq) ∙ (subst (λ l. Leads step' p (l ++ q ∷ []) q) no_mid way).0 in
        let p_q : follows M p q ≡ v = ap (λ z. follows M z q) (sym to_p) ∙ (cM.turns q (next-on M s t ws sM cM v removable.on) ∙ (ap step to_p ∙ leads_p)) in
        let q_v : follows M q v ≡ p = cM.turns v removable.on ∙ to_p in
        let q_p : follows M q p ≡ v = ap (λ z. follows M z p) (sym p_v) ∙ (fan lists kept s t ws v whole peeled removable p d_p pq).0.third in
        let on_q = next-on M s t ws sM cM v removable.on in
        let at_p : HasDart M p u → Contains ws u = λ d'.
        let p_to_v = sM.both_ways v p d_p in
        elim (only_two (list_of M p) v q u (sM.no_repeat p d'.0) p_to_v.1 p_v p_q d'.1) [ inl h ↦ subst (Contains ws) (sym h) removable.on | inr h ↦ subst (Contains ws) (sym h) on_q ] in
        let at_v : HasDart M v u → Contains ws u = λ d'.
        each_of_two (Contains ws) p q on_p on_q u (subst (λ l. Contains (p ∷ l ++ q ∷ []) u) no_mid (Contains-counts (list_of M v) nbrs (λ w. sym (counts w)) u d'.1)) in
        let at_q : HasDart M q u → Contains ws u = λ d'.
        let q_to_v = sM.both_ways v q (cM.darts v removable.on) in
        elim (only_two (list_of M q) v p u (sM.no_repeat q d'.0) q_to_v.1 q_v q_p d'.1) [ inl h ↦ subst (Contains ws) (sym h) removable.on | inr h ↦ subst (Contains ws) (sym h) on_p ] in
        each_of_three (λ z. HasDart M z u → Contains ws u) p v q at_p at_v at_q x (subst (λ l. Contains l x) (was ∙ ap₂ (λ l r. l ++ p ∷ v ∷ q ∷ r) no_front no_back) c) d

    -- with more than three vertices left, the new cycle has three
    long_after : component_count lists ≡ 1 → 3 < count_below kept (length lists) → 3 ≤ length after
    long_after connected many =
        let one = length-append front (p ∷ mid ++ q ∷ back) in
        let two = length-append mid (q ∷ back) in
        elim (cases_lt (length front + (length mid + length back)) 1) [
          | inr l ↦ omega arith
          | inl none ↦
              let size : length ws ≡ length front + (3 + length back) = ap length was ∙ omega (arith, length-append front (p ∷ v ∷ q ∷ back)) in
              let few = all_on_cycle lists kept s t ws whole connected peeled (closed (nil_from_length front (omega arith)) (nil_from_length mid (omega arith)) (nil_from_length back (omega arith))) in
              absurd (omega arith)
        ]

  -- all put together
  step_here : component_count lists ≡ 1 → 3 < count_below kept (length lists) → (front : List ℕ) × (p : ℕ) × (mid : List ℕ) × (q : ℕ) × (back : List ℕ) × IsTakenOff lists kept s t ws v front p mid q back
  step_here connected many =
      let b = before lists kept s t ws v whole peeled removable in
      let p = b.0 in
      let on_p = b.1 in
      let leads_p = b.2 in
      let parts = separated_round step ws t p v q (round M s t ws sM cM) on_p leads_p refl (p_not_last lists kept s t ws v whole peeled removable p on_p leads_p) removable.not_last in
      let r = run lists kept s t ws v whole peeled removable p on_p leads_p in (
        parts.0,
        p,
        r.0,
        q,
        parts.1,
        taken_off p on_p leads_p r.0 r.1 r.2 parts.0 parts.1 parts.2 parts.3 parts.4 (long_after p on_p leads_p r.0 r.1 r.2 parts.0 parts.1 parts.2 parts.3 parts.4 connected many),
      )

-- So it can where the whole map is any connected one.
pub connected_taken_off : (lists : Lists) (kept : ℕ → Bool) (s t : ℕ) (ws : List ℕ) (v : ℕ) → IsSimpleMap lists → component_count lists ≡ 1 → IsPeeled lists kept s t ws → 3 < count_below kept (length lists) → IsRemovable (restricted kept lists) s t ws v → CanBeTakenOff lists kept s t ws v
connected_taken_off lists kept s t ws v whole connected peeled many removable =
    let old = restricted-old lists kept v (entry_after v ws) (peeled.near.cycle.darts v removable.on) in
    (step_here lists kept s t ws v whole peeled removable connected many, count-kept_but kept v (length lists) old.0.0 old.1)

pub removable_taken_off : RemovableTakenOff
removable_taken_off lists kept s t ws v triangulation peeled many removable =
    let connected = met_connected lists triangulation.simple triangulation.plane triangulation.some triangulation.edges in
    connected_taken_off lists kept s t ws v triangulation.simple connected peeled many removable
