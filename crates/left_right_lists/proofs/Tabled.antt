-- Tables made entry by entry.
use Rattle.std.proofs.Common.{◌≡◌, ℕ, ◌+◌, ◌≤◌, List, [], ◌∷◌, ◌++◌, length, take, ap, ◌∙◌, subst, inl, inr, arith, slice_index, get_or, length-append}
use Rattle.std.proofs.Math.ListN.{get_or-append}
use Rattle.std.proofs.lemmas.Bool.{cases_lt}
use Rattle.std.proofs.lemmas.List.{get_or-append-add, take_all}
use Rattle.left_right_maps.specs.RootedMaps.{joined}
use Rattle.left_right_lists.specs.Trees.{IsTabled}
use Rattle.left_right_lists.specs.Blocks.{AreValues}

pub tabled_more : (f : ℕ → ℕ) (table new : List ℕ) (n x : ℕ) → new ≡ table ++ x ∷ [] → x ≡ f n → IsTabled f table n → IsTabled f new (n + 1)
tabled_more f table new n x is e h =
    let long = h.long in
    let more = length-append table (x ∷ []) in
    record {
      long = omega (arith, ap length is);
      at = λ v l. elim (cases_lt v n) [
        | inl less ↦ ap (λ z. slice_index z v) is ∙ (get_or-append table (x ∷ []) 0 v (omega (arith, ap length is)) ∙ h.at v less)
        | inr late ↦
            let at_end : v ≡ length table + 0 = omega (arith, ap length is) in
            let at_n : n ≡ v = omega (arith, ap length is) in
            ap (λ z. slice_index z v) is ∙ (ap (λ i. slice_index (table ++ x ∷ []) i) at_end ∙ (get_or-append-add table (x ∷ []) 0 0 ∙ (e ∙ ap f at_n)))
      ];
    }

pub values_more : {X : Type 0} (f : ℕ → X) (none : X) (table new : List X) (n : ℕ) (x : X) → new ≡ table ++ x ∷ [] → x ≡ f n → AreValues f none table n → AreValues f none new (n + 1)
values_more f none table new n x is e h =
    let long = h.long in
    let more = length-append table (x ∷ []) in
    record {
      long = omega (arith, ap length is);
      at = λ v l. elim (cases_lt v n) [
        | inl less ↦ ap (λ z. get_or z v none) is ∙ (get_or-append table (x ∷ []) none v (omega (arith, ap length is)) ∙ h.at v less)
        | inr late ↦
            let at_end : v ≡ length table + 0 = omega (arith, ap length is) in
            let at_n : n ≡ v = omega (arith, ap length is) in
            ap (λ z. get_or z v none) is ∙ (ap (λ i. get_or (table ++ x ∷ []) i none) at_end ∙ (get_or-append-add table (x ∷ []) 0 none ∙ (e ∙ ap f at_n)))
      ];
    }

-- all lists joined
pub joined_all : {X : Type 0} (f : ℕ → List X) (us : List ℕ) (i : ℕ) (list : List X) → length us ≤ i → list ≡ joined f (take i us) → list ≡ joined f us
joined_all f us i list l h = h ∙ ap (joined f) (take_all i us l)

-- a table by slices is one by what they are
pub tabled_slices : (by : List ℕ → List ℕ → ℕ → ℕ → ℕ) (table : List ℕ) (root : ℕ) {parents' parents depths' depths : List ℕ} {n' n : ℕ} → parents' ≡ parents → depths' ≡ depths → n' ≡ n → IsTabled (by parents' depths' root) table n' → IsTabled (by parents depths root) table n
tabled_slices by table root {parents'} {parents} {depths'} {depths} {n'} {n} e e' e'' h =
    let first : IsTabled (by parents depths' root) table n' = subst (λ ps. IsTabled (by ps depths' root) table n') e h in
    subst (IsTabled (by parents depths root) table) e'' (subst (λ ds. IsTabled (by parents ds root) table n') e' first)
