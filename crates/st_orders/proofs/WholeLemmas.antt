-- The search of a connected map without cut vertices.
use Rattle.std.proofs.Common.{◌≡◌, ℕ, ◌<◌, Bool, true, ltb, List, length, get_or, refl, sym, ap, ◌∙◌, inl, inr, arith}
use Rattle.std.proofs.lemmas.Bool.{cases_lt, lt-ltb, ltb-true}
use Rattle.map_lists.specs.Lists.{Lists}
use Rattle.map_theory.specs.Maps.{HasDart, IsSimpleMap, component_count}
use Rattle.plane_peeling.proofs.Counted.{marks_everywhere}
use Rattle.graph_search.specs.Forests.{IsForest, IsForestOf}
use Rattle.graph_search.specs.Lows.{IsLow, AreLows}
use Rattle.graph_search.proofs.ForestLemmas.{IsAdjacency-simple, IsWithin-ends}
use Rattle.graph_search.specs.Cuts.{IsCutVertex}
use Rattle.graph_search.proofs.CutLemmas.{IsCutVertex-separated}
use Rattle.st_orders.specs.Placing.{IsWholeForest, IsWholeSearch}

pub IsWholeForest-biconnected : (lists : Lists) → IsSimpleMap lists → component_count lists ≡ 1 → ((v : ℕ) → ¬ IsCutVertex lists v) → (order number last parent low : ℕ → ℕ) → IsForest lists order number last parent → ((v : ℕ) → v < length lists → IsLow lists number last v (low v)) → (s t : ℕ) → HasDart lists s t → number s ≡ 0 → number t ≡ 1 → IsWholeForest lists order number last parent low s t
IsWholeForest-biconnected lists simple connected uncut order number last parent low f lows s t dart s_first t_second =
    let n = length lists in
    let s_in = dart.0 in
    let mark : ℕ → Bool = λ x. ltb (number x) (last s) in
    let over : (x u : ℕ) → HasDart lists x u → mark x ≡ true → mark u ≡ true = λ x u has m.
    (let before = ltb-true (number x) (last s) m in
    let ends = IsWithin-ends lists order number last parent f s x s_in has.0 (record { from = omega arith; before = before }) in
    lt-ltb (number u) (last s) (let e = f.edges x u has in omega arith)) in
    let all : (v : ℕ) → v < n → number v < last s = λ v l.
    ltb-true (number v) (last s) (marks_everywhere lists simple connected mark over s v s_in l (lt-ltb (number s) (last s) (f.ends_after s s_in))) in
    let has_parent : (v : ℕ) → v < n → 0 < number v → parent v < n = λ v l some.
    f.has_parent s v s_in l (record { after = omega arith; before = all v l }) in
    record {
      forest = f;
      lows = lows;
      s_in = s_in;
      t_in = simple.in_range s t dart;
      s_first = s_first;
      t_second = t_second;
      has_parent = has_parent;
      beyond = λ v l two. elim (cases_lt (low v) (number (parent v))) [
        | inl less ↦ less
        | inr high ↦
            let p = has_parent v l (omega arith) in
            absurd (uncut (parent v) (IsCutVertex-separated lists (IsAdjacency-simple lists simple) order number last parent f low lows (parent v) p v
            (record {
              vertex = l;
              child = refl;
              from_parent = λ inner. high;
              from_first = λ top. elim (cases_lt 0 (number (parent v))) [ inl some ↦ absurd (let q = has_parent (parent v) p some in omega arith) | inr none ↦ omega arith ];
            })))
      ];
    }

-- the same in tables: s is the vertex numbered 0, and t that numbered 1
pub IsWholeSearch-biconnected : (lists : Lists) → IsSimpleMap lists → component_count lists ≡ 1 → ((v : ℕ) → ¬ IsCutVertex lists v) → (order number last parent low : List ℕ) → IsForestOf lists order number last parent → AreLows lists number last low → (s t : ℕ) → HasDart lists s t → get_or number s 0 ≡ 0 → get_or number t 0 ≡ 1 → IsWholeSearch lists order number last parent low × (get_or order 0 0 ≡ s) × (get_or order 1 0 ≡ t)
IsWholeSearch-biconnected lists simple connected uncut order number last parent low all lows s t dart s_first t_second =
    let is_s : get_or order 0 0 ≡ s = ap (λ k. get_or order k 0) (sym s_first) ∙ all.forest.own s dart.0 in
    let is_t : get_or order 1 0 ≡ t = ap (λ k. get_or order k 0) (sym t_second) ∙ all.forest.own t (simple.in_range s t dart) in
    let w = IsWholeForest-biconnected lists simple connected uncut _ _ _ _ (λ v. get_or low v 0) all.forest lows.at s t dart s_first t_second in (
      record {
        orders = all.orders;
        numbers = all.numbers;
        lasts = all.lasts;
        parents = all.parents;
        lows = lows.count;
        whole = rw (is_s, is_t) w;
      },
      is_s,
      is_t,
    )
