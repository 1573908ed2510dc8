-- Going along the vertices that a new vertex covers.
use Rattle.std.proofs.Common.{◌≡◌, ◌≢◌, ◌+◌, ◌<◌, ◌≤◌, ℕ, suc, List, length, get_or, set, take, AllPairs, sum_by, sym, ap, ◌∙◌, subst, inl, inr, arith}
use Rattle.std.proofs.lemmas.Bool.{cases_lt}
use Rattle.std.proofs.lemmas.List.{get_or-set_same, get_or-set_other}
use Rattle.std.proofs.lemmas.List.Sums.{sum_by_more, sum_by-take-le}
use Rattle.grid_figures.specs.Gaps.{gap_sum, ArePassed, AreCovered}

-- the sum with the next one
pub gap_sum-more : (gaps us : List ℕ) (j : ℕ) → j < length us → gap_sum gaps (take (suc j) us) ≡ gap_sum gaps (take j us) + get_or gaps (get_or us j 0) 0
gap_sum-more gaps us j l =
    let e : suc j ≡ j + 1 = omega arith in
    let more = sum_by_more (λ u. get_or gaps u 0) us j 0 l in
    let same : sum_by (λ u. get_or gaps u 0) (take (suc j) us) ≡ sum_by (λ u. get_or gaps u 0) (take (j + 1) us) = ap (λ i. sum_by (λ u. get_or gaps u 0) (take i us)) e in
    omega arith

-- no sum is above the last one
pub gap_sum-le : (gaps us : List ℕ) (j : ℕ) → gap_sum gaps (take j us) ≤ gap_sum gaps us
gap_sum-le gaps us j = sum_by-take-le (λ u. get_or gaps u 0) us j

-- the next one is passed
pub ArePassed-more : (us : List ℕ) (j : ℕ) (old now : List ℕ) → ArePassed us j old now → j < length us → get_or us j 0 < length now → AllPairs ◌≢◌ us → ArePassed us (suc j) old (set now (get_or us j 0) (gap_sum old (take (suc j) us) + 1))
ArePassed-more us j old now h l m distinct =
    let u : ℕ = get_or us j 0 in
    let apart : (i : ℕ) → i < j → get_or us i 0 ≢ u = λ i k. distinct i j 0 k l in
    let far : ℕ = gap_sum old (take (suc j) us) + 1 in
    record {
      passed = λ i k. elim (cases_lt i j) [
        | inl less ↦ get_or-set_other now u (get_or us i 0) far 0 (λ e. apart i less e) ∙ h.passed i less
        | inr top ↦ let e : i ≡ j = omega arith in subst (λ i. get_or (set now u far) (get_or us i 0) 0 ≡ gap_sum old (take (suc i) us) + 1) (sym e) (get_or-set_same now u far 0 m)
      ];
      others = λ w n. get_or-set_other now u w far 0 (λ e. n j (omega arith) (sym e)) ∙ h.others w (λ i k. n i (omega arith));
    }

-- it has the gap that it had
pub gap_sum-next : (us : List ℕ) (j far : ℕ) (old now : List ℕ) → ArePassed us j old now → far ≡ gap_sum old (take j us) → j < length us → AllPairs ◌≢◌ us → far + get_or now (get_or us j 0) 0 ≡ gap_sum old (take (suc j) us)
gap_sum-next us j far old now h e l distinct =
    let same = h.others (get_or us j 0) (λ i k. distinct i j 0 k l) in
    omega (arith, gap_sum-more old us j l, same)

-- the next one is covered
pub AreCovered-more : (v : ℕ) (us : List ℕ) (j : ℕ) (old now : List ℕ) → AreCovered v us j old now → j < length us → get_or us j 0 < length now → AllPairs ◌≢◌ us → AreCovered v us (suc j) old (set now (get_or us j 0) v)
AreCovered-more v us j old now h l m distinct =
    let u : ℕ = get_or us j 0 in
    let apart : (i : ℕ) → i < j → get_or us i 0 ≢ u = λ i k. distinct i j 0 k l in
    record {
      covered = λ i k. elim (cases_lt i j) [
        | inl less ↦ get_or-set_other now u (get_or us i 0) v 0 (λ e. apart i less e) ∙ h.covered i less
        | inr top ↦ let e : i ≡ j = omega arith in subst (λ i. get_or (set now u v) (get_or us i 0) 0 ≡ v) (sym e) (get_or-set_same now u v 0 m)
      ];
      others = λ w n. get_or-set_other now u w v 0 (λ e. n j (omega arith) (sym e)) ∙ h.others w (λ i k. n i (omega arith));
    }
