-- The numbers of edges, one vertex after the other.
use Rattle.std.proofs.Common.{◌≡◌, ◌⊎◌, ℕ, ◌+◌, ◌<◌, ◌≤◌, ◌&&◌, nat_lt, List, [], length, take, get_or, count_by, refl, sym, ap, ap₂, ◌∙◌, inl, inr, arith, add-one}
use Rattle.std.proofs.lemmas.Bool.{lt-ltb, le-ltb}
use Rattle.std.proofs.lemmas.List.{take_all}
use Rattle.std.proofs.lemmas.List.Sums.{count_by_more_yes, count_by_more_no}
use Rattle.std.proofs.Math.Bool.{and-false}
use Rattle.map_lists.specs.Lists.{Lists}
use Rattle.map_theory.specs.Maps.{list_of}
use Rattle.drawings.specs.Bars.{edges_until, edges_before}

pub edges_until-is : (lists : Lists) (v end : ℕ) → edges_until lists v end ≡ count_by (λ u. nat_lt v u && nat_lt u end) (list_of lists v)
unfolding edges_until
edges_until-is lists v end = refl

-- no edges lead from an isolated vertex
pub edges_until-none : (lists : Lists) (v end : ℕ) → list_of lists v ≡ [] → 0 ≡ edges_until lists v end
edges_until-none lists v end e =
    sym (edges_until-is lists v end ∙ ap (λ us. count_by (λ u. nat_lt v u && nat_lt u end) us) e)

-- the count over all entries is the count of the list
pub edges_until-all : (lists : Lists) (v end k count : ℕ) → k ≡ length (list_of lists v) → count ≡ count_by (λ u. nat_lt v u && nat_lt u end) (take k (list_of lists v)) → count ≡ edges_until lists v end
edges_until-all lists v end k count n h =
    h ∙ (ap (λ us. count_by (λ u. nat_lt v u && nat_lt u end) us) (ap (λ i. take i (list_of lists v)) n ∙ take_all (length (list_of lists v)) (list_of lists v) (omega arith)) ∙ sym (edges_until-is lists v end))

-- one entry more, which is counted where it is above v and below the end
pub count_more : (v end : ℕ) (us : List ℕ) (k u old new : ℕ) → k < length us → get_or us k 0 ≡ u → old ≡ count_by (λ w. nat_lt v w && nat_lt w end) (take k us) → ((v < u) × (u < end) × (new ≡ old + 1)) ⊎ (((u ≤ v) ⊎ (end ≤ u)) × (new ≡ old)) → new ≡ count_by (λ w. nat_lt v w && nat_lt w end) (take (k + 1) us)
count_more v end us k u old new l same was x10 = grind (arith, count_by_more_yes, nat_lt, ap₂, lt-ltb, count_by_more_no, le-ltb, and-false)

pub edges_before-none : (lists : Lists) → 0 ≡ edges_before lists 0
unfolding edges_before
edges_before-none lists = refl

-- with one vertex more
pub edges_before-more : (lists : Lists) (k : ℕ) → edges_before lists (k + 1) ≡ edges_before lists k + edges_until lists k (length lists)
unfolding edges_before
edges_before-more lists k = rw add-one refl
