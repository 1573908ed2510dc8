-- A vertex of the outer cycle is without a chord just where two of its neighbours are marked.
use Rattle.std.proofs.Common.{◌≡◌, ◌≢◌, ◌⊎◌, ◌↔◌, ℕ, ◌<◌, Bool, true, List, length, get_or, AllPairs, Contains, count_by, sym, ap, ◌∙◌, subst, inl, inr, arith}
use Rattle.std.specs.List.{filter}
use Rattle.std.proofs.lemmas.Bool.{cases_eq, cases_lt, and_from}
use Rattle.std.proofs.lemmas.List.Kept.{AllPairs-filter}
use Rattle.std.proofs.lemmas.List.Sums.{length-filter}
use Rattle.std.proofs.lemmas.List.Elements.{Contains-get_or}
use Rattle.map_lists.specs.Lists.{Lists}
use Rattle.map_theory.specs.Maps.{list_of, HasDart, IsSimpleMap, entry_after, place_of}
use Rattle.map_theory.proofs.EntryLemmas.{Contains-from_filter, Contains-filter}
use Rattle.map_theory.proofs.DartLemmas.{place_of-lt-length, get_or-place_of}
use Rattle.plane_laws.proofs.KeptEdges.{list_of-with_kept}
use Rattle.plane_laws.proofs.Extended.{filter-filter}
use Rattle.plane_peeling.specs.Restricted.{restricted}
use Rattle.plane_peeling.specs.NearTriangulations.{IsOuterCycle, IsRemovable}
use Rattle.plane_peeling.specs.Peeled.{IsPeeled}
use Rattle.plane_peeling.proofs.RestrictedMaps.{both, restricted-old}
use Rattle.plane_peeling.proofs.OuterCycles.{entry_before, next-on, next-apart, two_steps_on}

-- ---- lists of two
-- no entries but two that are in it
pub two_entries_length : (us : List ℕ) (p q : ℕ) → AllPairs ◌≢◌ us → Contains us p → Contains us q → p ≢ q → ((u : ℕ) → Contains us u → (u ≡ p) ⊎ (u ≡ q)) → length us ≡ 2
two_entries_length us p q distinct has_p has_q ne only =
    let in_p = place_of-lt-length p us has_p in
    let in_q = place_of-lt-length q us has_q in
    let apart : place_of p us ≢ place_of q us = λ e. ne (sym (get_or-place_of p us 0 in_p) ∙ (ap (λ n. get_or us n 0) e ∙ get_or-place_of q us 0 in_q)) in
    elim (cases_lt 2 (length us)) [
      | inr l ↦ omega arith
      | inl l ↦
          let a = only (get_or us 0 0) (Contains-get_or us 0 0 (omega arith)) in
          let b = only (get_or us 1 0) (Contains-get_or us 1 0 (omega arith)) in
          let c = only (get_or us 2 0) (Contains-get_or us 2 0 (omega arith)) in
          let ac = distinct 0 2 0 (omega arith) (omega arith) in
          let bc = distinct 1 2 0 (omega arith) (omega arith) in
          absurd (three_of_two (get_or us 0 0) (get_or us 1 0) (get_or us 2 0) p q a b c (distinct 0 1 0 (omega arith) (omega arith)) ac bc)
    ]
  where
    three_of_two : (a b c p q : ℕ) → (a ≡ p) ⊎ (a ≡ q) → (b ≡ p) ⊎ (b ≡ q) → (c ≡ p) ⊎ (c ≡ q) → a ≢ b → a ≢ c → b ≢ c → ⊥
    three_of_two a b c p q x y z ab ac bc = grind arith

-- two entries are all of two
pub length_two_entries : (us : List ℕ) (p q u : ℕ) → length us ≡ 2 → Contains us p → Contains us q → p ≢ q → Contains us u → (u ≡ p) ⊎ (u ≡ q)
length_two_entries us p q u two has_p has_q ne has =
    let in_p = place_of-lt-length p us has_p in
    let in_q = place_of-lt-length q us has_q in
    let in_u = place_of-lt-length u us has in
    let at : (z : ℕ) → place_of z us < length us → place_of u us ≡ place_of z us → u ≡ z = λ z l e.
    sym (get_or-place_of u us 0 in_u) ∙ (ap (λ n. get_or us n 0) e ∙ get_or-place_of z us 0 l) in
    let apart : place_of p us ≢ place_of q us = λ e. ne (sym (get_or-place_of p us 0 in_p) ∙ (ap (λ n. get_or us n 0) e ∙ get_or-place_of q us 0 in_q)) in
    grind (arith, cases_eq, place_of)

-- ---- neighbours that are marked
module _ (lists : Lists) (kept marked : ℕ → Bool) (s t : ℕ) (ws : List ℕ) (v : ℕ) (peeled : IsPeeled lists kept s t ws) (marks : (u : ℕ) → (marked u ≡ true) ↔ Contains ws u) (on_v : Contains ws v) where
  abbrev M : Lists
  M = restricted kept lists

  simple : IsSimpleMap M
  simple = peeled.near.simple

  cM : IsOuterCycle M s t ws
  cM = peeled.near.cycle

  abbrev next : ℕ → ℕ
  next x = entry_after x ws

  abbrev few : List ℕ
  few = filter marked (list_of M v)

  in_v : v < length M
  in_v = (cM.darts v on_v).0

  -- marked neighbours are kept
  few_is : filter marked (list_of lists v) ≡ few
  few_is =
      let kept_on : (u : ℕ) → Contains ws u → kept u ≡ true = λ u c. (restricted-old lists kept u (next u) (cM.darts u c)).1 in
      sym (ap (filter marked) (list_of-with_kept (both kept) lists v) ∙ filter-filter marked (both kept v) (list_of lists v) (λ x m. and_from (kept v) (kept x) (kept_on v on_v) (kept_on x ((marks x).0 m))))

  count_is : count_by marked (list_of lists v) ≡ length few
  count_is = sym (length-filter marked (list_of lists v)) ∙ ap length few_is

  few_distinct : AllPairs ◌≢◌ few
  few_distinct = AllPairs-filter ◌≢◌ marked (list_of M v) (simple.no_repeat v in_v)

  few_has : (u : ℕ) → HasDart M v u → Contains ws u → Contains few u
  few_has u d c = Contains-filter marked (list_of M v) u d.1 ((marks u).1 c)

  pub by_count : v ≢ s → v ≢ t → IsRemovable M s t ws v ↔ (count_by marked (list_of lists v) ≡ 2)
  by_count not_s not_t =
      let b = entry_before ws v cM.distinct on_v in
      let p = b.0 in
      let q = next v in
      let has_p = few_has p (simple.both_ways p v (subst (HasDart M p) b.2 (cM.darts p b.1))) b.1 in
      let has_q = few_has q (cM.darts v on_v) (next-on M s t ws simple cM v on_v) in
      let ne : p ≢ q = λ e. two_steps_on M s t ws simple cM p b.1 (ap next b.2 ∙ sym e) in (
        (λ removable.
            count_is
            ∙ two_entries_length few p q few_distinct has_p has_q ne (λ u c.
            let f = Contains-from_filter marked (list_of M v) u c in
            elim (removable.chordless u (in_v, f.0) ((marks u).0 f.1)) [
              | inl e ↦ inl (next-apart M s t ws simple cM u p ((marks u).0 f.1) b.1 (e ∙ sym b.2))
              | inr e ↦ inr (sym e)
            ])),
        λ two. record {
          on = on_v;
          not_first = not_s;
          not_last = not_t;
          chordless = λ u d c.
              elim (length_two_entries few p q u (sym count_is ∙ two) has_p has_q ne (few_has u d c)) [
                | inl e ↦ inl (ap next e ∙ b.2)
                | inr e ↦ inr (sym e)
              ];
        },
      )

-- A vertex of the outer cycle that is not an end of the base has no chord exactly where two of its neighbours are on the cycle.
pub removable_by_count : (lists : Lists) (kept marked : ℕ → Bool) (s t : ℕ) (ws : List ℕ) (v : ℕ) → IsPeeled lists kept s t ws → ((u : ℕ) → (marked u ≡ true) ↔ Contains ws u) → Contains ws v → v ≢ s → v ≢ t → IsRemovable (restricted kept lists) s t ws v ↔ (count_by marked (list_of lists v) ≡ 2)
removable_by_count lists kept marked s t ws v peeled marks on_v not_s not_t = by_count lists kept marked s t ws v peeled marks on_v not_s not_t
