-- Sums over the numbers below n that differ at one of them.
use Rattle.std.proofs.Common.{◌≡◌, ◌≢◌, ℕ, zero, suc, ◌+◌, ◌<◌, ◌≤◌, List, [], ◌∷◌, length, Contains, refl, sym, ap, inl, inr, arith}
use Rattle.std.proofs.lemmas.Bool.{cases_eq}
use Rattle.std.proofs.lemmas.List.Elements.{Contains-append_cases}
use Rattle.map_lists.specs.Cuts.{joined}
use Rattle.map_theory.proofs.DartCounts.{sum_below, sum_below-same, sum_below-front}
use Rattle.map_theory.proofs.EntryLemmas.{count_of, count_of-append}
use Rattle.graph_search.specs.Arcs.{arcs_of, HasArc}
use Rattle.graph_search.specs.Progress.{all_into}

pub sum_below-most : (f g : ℕ → ℕ) (n : ℕ) → ((i : ℕ) → i < n → f i ≤ g i) → sum_below f n ≤ sum_below g n
sum_below-most f g zero h = omega arith
sum_below-most f g (suc n) h = omega (arith, sum_below-most f g n (λ i l. h i (omega arith)), h n (omega arith))

-- where one term is less, so is the sum
pub sum_below-less : (f g : ℕ → ℕ) (n e : ℕ) → e < n → ((i : ℕ) → i < n → f i ≤ g i) → f e < g e → sum_below f n < sum_below g n
sum_below-less f g zero e l h less = absurd (omega arith)
sum_below-less f g (suc n) e l h less =
    elim (cases_eq e n) [
      | inl s ↦ omega (arith, sum_below-most f g n (λ i m. h i (omega arith)), less, ap f s, ap g s)
      | inr ne ↦ omega (arith, sum_below-less f g n e (omega arith) (λ i m. h i (omega arith)) less, h n (omega arith))
    ]

-- sums of functions that agree but at e
pub sum_below-but : (f g : ℕ → ℕ) (n e : ℕ) → e < n → ((i : ℕ) → i < n → i ≢ e → f i ≡ g i) → sum_below f n + g e ≡ sum_below g n + f e
sum_below-but f g zero e l h = absurd (omega arith)
sum_below-but f g (suc n) e l h =
    elim (cases_eq e n) [
      | inl s ↦ omega (arith, sum_below-same f g n (λ i m. h i (omega arith) (λ d. absurd (omega (arith, d, s)))), ap f s, ap g s)
      | inr ne ↦ omega (arith, sum_below-but f g n e (omega arith) (λ i m d. h i (omega arith) d), h n (omega arith) (λ d. ne (sym d)))
    ]

pub sum_below-none : (f : ℕ → ℕ) (n : ℕ) → ((i : ℕ) → i < n → f i ≡ 0) → sum_below f n ≡ 0
sum_below-none f zero h = refl
sum_below-none f (suc n) h = omega (arith, sum_below-none f n (λ i l. h i (omega arith)), h n (omega arith))

pub sum_below-term : (f : ℕ → ℕ) (n e : ℕ) → e < n → f e ≤ sum_below f n
sum_below-term f zero e l = absurd (omega arith)
sum_below-term f (suc n) e l = elim (cases_eq e n) [ inl s ↦ omega (arith, ap f s) | inr ne ↦ omega (arith, sum_below-term f n e (omega arith)) ]

-- all arcs to r are its entries among all
pub all_into-joined : (arcs : List (List ℕ)) (r : ℕ) → all_into arcs r ≡ count_of r (joined arcs)
all_into-joined [] r = refl
all_into-joined (us ∷ arcs) r =
    omega (arith, sum_below-front (λ e. count_of r (arcs_of (us ∷ arcs) e)) (length arcs), all_into-joined arcs r, count_of-append r us (joined arcs))

-- an entry among all is one of some list
pub joined-at : (arcs : List (List ℕ)) (x : ℕ) → Contains (joined arcs) x → (e : ℕ) × HasArc arcs e x
joined-at [] x c = absurd (omega (arith, c.1))
joined-at (us ∷ arcs) x c =
    elim (Contains-append_cases us (joined arcs) x c) [
      | inl here ↦ (0, (omega arith, here))
      | inr there ↦ (let rest = joined-at arcs x there in (suc rest.0, (omega (arith, rest.1.0), rest.1.1)))
    ]
