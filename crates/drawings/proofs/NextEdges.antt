-- A pass over all lists, which counts for each vertex its edges upwards so far.
use Rattle.std.proofs.Common.{◌≡◌, ℕ, suc, ◌+◌, ◌<◌, ◌≤◌, Bool, true, false, cond, ltb, eqb, List, length, get_or, take, set, refl, sym, ap, ◌∙◌, subst, inl, inr, arith, eq-eqb, ne_eqb, Contains}
use Rattle.std.proofs.Math.Seq.{take-length}
use Rattle.std.proofs.lemmas.Bool.{cases_eq, cases_lt, lt-ltb, le-ltb, true≢false}
use Rattle.std.proofs.lemmas.List.{get_or-set_same, get_or-set_other}
use Rattle.std.proofs.lemmas.List.Elements.{Contains-get_or}
use Rattle.std.proofs.lemmas.List.Sums.{count_by_more_yes, count_by_more_no, sum_by-take-le}
use Rattle.map_lists.specs.Lists.{Lists}
use Rattle.map_theory.specs.Maps.{HasDart, IsSimpleMap, list_of}
use Rattle.map_theory.proofs.DartCounts.{sum_below, count_mirrored}
use Rattle.map_theory.proofs.EntryLemmas.{count_of, count_of-le-one}
use Rattle.vertex_rounds.specs.Rounds.{HasEdge}
use Rattle.drawings.specs.Bars.{edges_until, edges_before, edge_number}
use Rattle.drawings.specs.NextEdges.{AreNext}
use Rattle.drawings.proofs.EdgeNumbers.{above, edges_until-sum}

nothing : (t : Bool) → cond {A = ℕ} t 0 0 ≡ 0
nothing true = refl
nothing false = refl

-- before all lists
pub AreNext-none : (lists : Lists) (next : List ℕ) → ((a : ℕ) → a < length lists → get_or next a 0 ≡ edges_before lists a) → AreNext lists 0 0 next
AreNext-none lists next all = λ a l. omega (arith, all a l, edges_until-sum lists a 0, nothing (ltb a 0))

-- the next list
pub AreNext-next : (lists : Lists) → IsSimpleMap lists → (b i : ℕ) (next : List ℕ) → b < length lists → i ≡ length (list_of lists b) → AreNext lists b i next → AreNext lists (b + 1) 0 next
AreNext-next lists simple b i next lb whole w = λ a la.
    let us = list_of lists b in
    let all = ap (λ k. count_of a (take k us)) whole ∙ ap (count_of a) (take-length us) in
    let mirrored = count_mirrored lists simple b a lb la in
    let new : edges_until lists a (b + 1) ≡ sum_below (above (list_of lists a) a) b + cond (ltb a b) (count_of b (list_of lists a)) 0 = edges_until-sum lists a (b + 1) ∙ ap (sum_below (above (list_of lists a) a)) (plus_one b) in
    let same : cond (ltb a b) (count_of a (take i us)) 0 ≡ cond (ltb a b) (count_of b (list_of lists a)) 0 = ap (λ z. cond (ltb a b) z 0) (all ∙ mirrored) in
    omega (arith, w a la, edges_until-sum lists a b, new, nothing (ltb a (b + 1)), same)
  where
    plus_one : (n : ℕ) → n + 1 ≡ suc n
    plus_one n = omega arith

-- an entry a of the list of b, when it is met
module _ (lists : Lists) (simple : IsSimpleMap lists) (b i a : ℕ) (lb : b < length lists) (li : i < length (list_of lists b)) (at_i : get_or (list_of lists b) i 0 ≡ a) (next : List ℕ) (w : AreNext lists b i next) where
  abbrev us : List ℕ
  us = list_of lists b

  has : HasDart lists b a
  has = (lb, subst (λ x. Contains us x) at_i (Contains-get_or us i 0 li))

  pub lesser_in : a < length lists
  lesser_in = simple.in_range b a has

  pub edge_here : a < b → HasEdge lists a b
  edge_here l = (l, simple.both_ways b a has)

  more_here : count_of a (take (i + 1) us) ≡ count_of a (take i us) + 1
  more_here = count_by_more_yes (λ u. eqb u a) us i 0 li (ap (λ z. eqb z a) at_i ∙ eq-eqb a a refl)

  -- a has not been met before
  none_before : count_of a (take i us) ≡ 0
  none_before =
      omega (arith, more_here, (sum_by-take-le (λ u. cond (eqb u a) 1 0) us (i + 1)), count_of-le-one a us (simple.no_repeat b lb))

  pub number_is : a < b → get_or next a 0 ≡ edge_number lists a b
  number_is l =
      omega (arith, w a lesser_in, ap (λ t. cond t (count_of a (take i us)) 0) (lt-ltb a b l) ∙ none_before)

  -- the edge to a, whose turn it is
  pub AreNext-put : length next ≡ length lists → a < b → AreNext lists b (i + 1) (set next a (get_or next a 0 + 1))
  AreNext-put size l = λ c lc. elim (cases_eq c a) [
    | inl s ↦
        let new = get_or-set_same next a (get_or next a 0 + 1) 0 (omega (arith, lesser_in, size)) in
        let now : cond (ltb a b) (count_of a (take (i + 1) us)) 0 ≡ 1 = ap (λ t. cond t (count_of a (take (i + 1) us)) 0) (lt-ltb a b l) ∙ omega (arith, more_here, none_before) in
        subst (λ z. get_or (set next a (get_or next a 0 + 1)) z 0 ≡ edges_before lists z + edges_until lists z b + cond (ltb z b) (count_of z (take (i + 1) us)) 0) (sym s) (omega (arith, new, number_is l, now))
    | inr ne ↦
        let kept = get_or-set_other next a c (get_or next a 0 + 1) 0 ne in
        let same = count_by_more_no (λ u. eqb u c) us i 0 li (ne_eqb (get_or us i 0) c (λ s. ne (sym (sym at_i ∙ s)))) in
        kept ∙ (w c lc ∙ ap (λ z. edges_before lists c + edges_until lists c b + cond (ltb c b) z 0) (sym same))
  ]

  -- one that leads up, whose turn it is not
  pub AreNext-past : b ≤ a → AreNext lists b (i + 1) next
  AreNext-past l = grind (arith, cases_lt, count_by_more_no, eqb, us, ne_eqb, get_or, edges_before, edges_until, cond, ltb, le-ltb, count_of)
