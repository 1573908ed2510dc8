-- A search that has seen all vertices before it is done with the first is a search of a connected map.
use Rattle.std.proofs.Common.{◌≡◌, ℕ, zero, suc, ◌<◌, List, length, refl, sym, ◌∙◌, subst, inl, inr, arith}
use Rattle.std.specs.Prelude.{slice_index}
use Rattle.std.proofs.lemmas.Bool.{cases_eq}
use Rattle.classes.proofs.Classes.{same_class-from, Together-from}
use Rattle.map_lists.specs.Lists.{Lists}
use Rattle.map_theory.specs.Maps.{IsSimpleMap, component_count, component_classes, SameComponent}
use Rattle.map_theory.proofs.DartPermutations.{edge_together}
use Rattle.plane_laws.proofs.Completions.{one_component}
use Rattle.graph_search.specs.Forests.{Holds, IsForest, IsForestOf}
use Rattle.graph_search.proofs.ForestLemmas.{same_vertex}

module _ (lists : Lists) (simple : IsSimpleMap lists) (order number last parent : ℕ → ℕ) (f : IsForest lists order number last parent) (first : number 0 ≡ 0) (all : last 0 ≡ length lists) where
  -- a vertex whose number is below k is in one component with vertex 0, since its parent is
  near : (k v : ℕ) → number v < k → v < length lists → SameComponent lists 0 v
  near zero v l v_in = absurd (omega arith)
  near (suc k) v l v_in =
      let some : 0 < length lists = omega arith in
      elim (cases_eq (number v) 0) [
        | inl e ↦ subst (SameComponent lists 0) (same_vertex lists order number last parent f 0 v some v_in (first ∙ sym e)) (same_class-from (component_classes lists) 0 0 refl)
        | inr ne ↦
            let below = f.numbered v v_in in
            let holds : Holds number last 0 v = record { after = omega arith; before = omega arith } in
            let p = f.has_parent 0 v some v_in holds in
            let up = (f.held v v_in p).after in
            let above = Together-from (component_classes lists) 0 (parent v) (near k (parent v) (omega arith) p) in
            same_class-from (component_classes lists) 0 v (above ∙ edge_together lists simple (parent v) v (f.adjacent v v_in p))
      ]

  one : component_count lists ≡ 1
  one = one_component lists simple (λ v l. near (suc (number v)) v (omega arith) l)

pub one_of_search : (lists : Lists) → IsSimpleMap lists → (order number last parent : List ℕ) → IsForestOf lists order number last parent → slice_index number 0 ≡ 0 → slice_index last 0 ≡ length last → component_count lists ≡ 1
one_of_search lists simple order number last parent o first all =
    one lists simple (λ k. slice_index order k) (λ v. slice_index number v) (λ v. slice_index last v) (λ v. slice_index parent v) o.forest first (all ∙ o.lasts)
