-- Edges of the graph of lists, and darts of the lists.
use Rattle.std.proofs.Common.{◌≡◌, ℕ, ◌<◌, ◌≤◌, ◌==◌, Bool, true, false, List, length, Contains, refl, sym, ◌∙◌, subst, inl, inr, arith}
use Rattle.std.specs.List.{list_any}
use Rattle.std.proofs.lemmas.Bool.{cases_Bool, true≢false, eqb-true, eq-eqb}
use Rattle.map_lists.specs.Lists.{Lists}
use Rattle.map_theory.specs.Maps.{Dart, darts, list_of, HasDart, IsSimpleMap, dart_number}
use Rattle.map_theory.proofs.DartLemmas.{length-darts, dart_number-lt, get_or-dart_number, HasDart-darts}
use Rattle.graphs.specs.Graphs.{has_edge, joins}
use Rattle.graphs.proofs.EdgeLemmas.{joined_by, joins-ends}
use Rattle.graphs.proofs.PairLemmas.{any-from, any-gives}
use Rattle.embed_theorem.specs.ListGraphs.{graph_of}

pub has_edge-from : (lists : Lists) (u v : ℕ) → HasDart lists u v → has_edge (graph_of lists) u v ≡ true
has_edge-from lists u v d =
    let l = dart_number-lt lists u v d in
    joined_by u v (darts lists) (dart_number lists (u, v), omega (arith, length-darts lists), get_or-dart_number lists u v (u, v) d)

pub has_edge-is : (lists : Lists) → IsSimpleMap lists → (u v : ℕ) → has_edge (graph_of lists) u v ≡ true → HasDart lists u v
has_edge-is lists simple u v e =
    let r = any-gives (joins u v) (darts lists) e in
    let n = length-darts lists in
    let d : HasDart lists r.0.0 r.0.1 = subst (λ (x : Dart). HasDart lists x.0 x.1) r.1.2 (HasDart-darts lists r.1.0 r.0 (omega arith)) in
    elim (joins-ends u v r.0 r.2) [
      | inl q ↦ subst (λ x. HasDart lists x v) q.0 (subst (HasDart lists r.0.0) q.1 d)
      | inr q ↦ simple.both_ways v u (subst (λ x. HasDart lists x u) q.0 (subst (HasDart lists r.0.0) q.1 d))
    ]

-- whether a list of the lists holds a number
pub held : (lists : Lists) (u v : ℕ) (us : List ℕ) (b : Bool) → IsSimpleMap lists → u < length lists → us ≡ list_of lists u → b ≡ list_any (λ w. w == v) us → b ≡ has_edge (graph_of lists) u v
held lists u v us b simple l is e =
    elim (cases_Bool (has_edge (graph_of lists) u v)) [
      | inl has ↦
          e ∙ (any-from (λ w. w == v) us v (subst (λ ws. Contains ws v) (sym is) (has_edge-is lists simple u v has).1) (eq-eqb v v refl) ∙ sym has)
      | inr no' ↦ grind (arith, cases_Bool, any-gives, Contains, eqb-true, true≢false, has_edge-from)
    ]

pub not_held : (lists : Lists) (u v : ℕ) → IsSimpleMap lists → length lists ≤ u → has_edge (graph_of lists) u v ≡ false
not_held lists u v simple l = grind (arith, cases_Bool, has_edge, graph_of, has_edge-is)
