-- No number stands twice in a row of a polyhedral map, and counts of what is met at most once.
use Rattle.std.proofs.Common.{◌≡◌, ◌≢◌, ℕ, zero, suc, ◌<◌, ◌≤◌, Bool, eqb, ltb, eq-eqb, eqb-true, lt-ltb, length, slice_index, AllPairs, refl, sym, ap, ◌∙◌, inl, inr, arith}
use Rattle.std.specs.Prelude.{if◌then◌else◌}
use Rattle.std.proofs.lemmas.Bool.{cases_lt}
use Rattle.std.proofs.lemmas.List.{get_or_default}
use Rattle.std.specs.Cmp.{both_ways}
use Rattle.classes.specs.Classes.{count_below}
use Rattle.map_lists.specs.Lists.{Lists}
use Rattle.map_theory.specs.Maps.{list_of, IsSimpleMap}
use Rattle.map_theory.proofs.DartCounts.{sum_below}
use Rattle.map_theory.proofs.EntryLemmas.{count_of-le-one}
use Rattle.convex_peeling.specs.Polyhedral.{IsPolyhedral}
use Rattle.convex_peeling.proofs.Faces.{SameFace-labels}
use Rattle.convex_orders.specs.FaceNumbers.{entry, AreFaceNumbers}
use Rattle.convex_orders.specs.Counts.{met_at}
use Rattle.convex_orders.proofs.ContourCountsRows.{entry_at}

module _ (lists own other : Lists) (count : ℕ) (simple : IsSimpleMap lists) (polyhedral : IsPolyhedral lists) (n : AreFaceNumbers lists own other count) where
  row_distinct : (v : ℕ) → v < length lists → AllPairs ◌≢◌ (list_of own v)
  row_distinct v l = λ i j d before within e.
      let a = entry_at lists own count simple n.own_table v i l (omega arith) in
      let b = entry_at lists own count simple n.own_table v j l within in
      let x = slice_index (list_of lists v) i in
      let y = slice_index (list_of lists v) j in
      let i_d = get_or_default (list_of own v) i d 0 (omega arith) in
      let same : entry lists own v x ≡ entry lists own v y = sym a.is ∙ (sym i_d ∙ (e ∙ ((get_or_default (list_of own v) j d 0 within) ∙ b.is))) in
      let z : x ≡ y = polyhedral.once v x y a.dart b.dart (SameFace-labels lists v x v y ((n.alike v x v y a.dart b.dart).0 same)) in
      simple.no_repeat v l i j 0 before (omega (arith, within, n.own_table.sizes v l)) z

  pub number_once : (v : ℕ) → v < length lists → (f : ℕ) → met_at own f v ≤ 1
  number_once v l f = count_of-le-one f (list_of own v) (row_distinct v l)

-- a sum of tests is a count
pub sum_is_count : (f : ℕ → ℕ) (p : ℕ → Bool) (n : ℕ) → ((i : ℕ) → i < n → f i ≡ (if p i then 1 else 0)) → sum_below f n ≡ count_below p n
sum_is_count f p zero h = refl
sum_is_count f p (suc n) h = omega (arith, sum_is_count f p n (λ i l. h i (omega arith)), h n (omega arith))

pub one_if_some : (m : ℕ) → m ≤ 1 → m ≡ (if ltb 0 m then 1 else 0)
one_if_some m l = elim (cases_lt 0 m) [
  | inl some ↦ (let one : m ≡ 1 = omega arith in one ∙ ap {B = ℕ} (λ b. if b then 1 else 0) (sym (lt-ltb 0 m some)))
  | inr none ↦ (let z : m ≡ 0 = omega arith in z ∙ ap {B = ℕ} (λ k. if ltb 0 k then 1 else 0) (sym z))
]

pub same_test : (a b c d : ℕ) → (a ≡ b → c ≡ d) → (c ≡ d → a ≡ b) → eqb a b ≡ eqb c d
same_test a b c d h k = both_ways (eqb a b) (eqb c d) (λ t. eq-eqb c d (h (eqb-true a b t))) (λ t. eq-eqb a b (k (eqb-true c d t)))
