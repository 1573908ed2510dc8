use Rattle.std.proofs.Common.{◌≡◌, ◌≢◌, ◌<◌, ℕ, List, length, reverse, All, AllPairs, sym, ap, ◌∙◌, subst, arith}
use Rattle.std.proofs.lemmas.List.{length-reverse, reverse-reverse}
use Rattle.std.proofs.lemmas.Result.{IfOk-weaker}
use Rattle.map_lists.specs.Lists.{Lists}
use Rattle.map_theory.specs.Maps.{Dart, HasDart}
use Rattle.canon_order.specs.Orders.{vertices_of}
use Rattle.canon_order.proofs.Counters.{All-from_reverse, AllPairs-from_reverse}
use Rattle.graph_search.specs.Arcs.{IsAcyclic, IsTopological}
use Rattle.schnyder_wood.specs.Parents.{parent_in, IsWoodOf}
use Rattle.wood_laws.specs.Arranged.{IsArranged}
use Rattle.schnyder_grid.specs.Arcs.{AreWoodArcs}
use Rattle.schnyder_grid.proofs.ArcLemmas.{acyclic, arranged}
use Rattle.schnyder_grid.proofs.order_of_wood.wood_order.Goals as goal

pub wood_arcs-requires-clause-within : goal.wood_arcs-requires-clause-within
wood_arcs-requires-clause-within c =
    subst (λ (l : Lists). (e r : ℕ) → HasDart l e r → r < length l) (sym c.in_ok-lists.ensures) c.requires.triangulation.simple.in_range

pub topological_order-requires-clause-acyclic : goal.topological_order-requires-clause-acyclic
topological_order-requires-clause-acyclic c =
    let lists = c.args.tri.now.lists in
    let wood = c.args.wood.now in
    let arcs = c.in_ok-arcs.arcs in
    let given = c.requires.wood in
    let graph = subst (λ (l : Lists). AreWoodArcs l wood arcs) c.in_ok-lists.ensures c.in_ok-arcs.ensures in
    let some = c.some_arranged.ensures lists given.0 (parent_in wood) c.requires.triangulation given.1 given.2.wood_is in
    subst (IsAcyclic arcs) (sym c.root.ensures) (acyclic lists given.0 wood arcs c.requires.triangulation given.1 given.2 graph some.0 some.1)

-- what was turned, turned again
turned_again : (taken us vs : List ℕ) → taken ≡ us → us ≡ reverse vs → reverse taken ≡ vs
turned_again taken us vs e e' = ap reverse (e ∙ e') ∙ reverse-reverse vs

pub reversed_order-requires-clause-within : goal.reversed_order-requires-clause-within
reversed_order-requires-clause-within c =
    let taken = c.deref-2.result.now in
    let vs = c.deref.result.now in
    let order = c.in_ok-order.order.items in
    let arcs = c.in_ok-arcs.arcs in
    let topological : IsTopological arcs c.root.result.0 vs = subst (λ (l : List ℕ). IsTopological arcs c.root.result.0 l) (sym c.deref.ensures.value) c.in_ok-order.ensures in
    let again = turned_again taken c.in_ok-taken.taken.items vs c.deref-2.ensures.value c.in_ok-taken.ensures in
    let len : length arcs ≡ length taken = omega (arith, topological.count, ap length again, length-reverse taken) in
    subst (λ n. All (λ v. v < n) taken) len (All-from_reverse (λ v. v < length arcs) taken (subst (All (λ v. v < length arcs)) (sym again) topological.vertices))

pub reversed_order-requires-clause-distinct : goal.reversed_order-requires-clause-distinct
reversed_order-requires-clause-distinct c =
    let taken = c.deref-2.result.now in
    let vs = c.deref.result.now in
    let arcs = c.in_ok-arcs.arcs in
    let topological : IsTopological arcs c.root.result.0 vs = subst (λ (l : List ℕ). IsTopological arcs c.root.result.0 l) (sym c.deref.ensures.value) c.in_ok-order.ensures in
    let again = turned_again taken c.in_ok-taken.taken.items vs c.deref-2.ensures.value c.in_ok-taken.ensures in
    AllPairs-from_reverse taken (subst (AllPairs ◌≢◌) (sym again) topological.once)

pub returns : goal.returns
returns c = record {
  arranged = let lists = c.args.tri.now.lists in
      let wood = c.args.wood.now in
      let arcs = c.in_ok-arcs.arcs in
      let taken = c.deref-2.result.now in
      let vs = c.deref.result.now in
      let graph = subst (λ (l : Lists). AreWoodArcs l wood arcs) c.in_ok-lists.ensures c.in_ok-arcs.ensures in
      let topological : IsTopological arcs c.root.result.0 vs = subst (λ (l : List ℕ). IsTopological arcs c.root.result.0 l) (sym c.deref.ensures.value) c.in_ok-order.ensures in
      let named : IsTopological arcs wood.root_one vs = subst (λ r. IsTopological arcs r vs) c.root.ensures topological in
      let again = turned_again taken c.in_ok-taken.taken.items vs c.deref-2.ensures.value c.in_ok-taken.ensures in
      IfOk-weaker c.reversed_order.result (λ order. vertices_of order ≡ reverse taken)
      (λ order. (base : Dart) → HasDart lists base.0 base.1 → IsWoodOf lists base wood → IsArranged lists base (parent_in wood) (vertices_of order))
      (λ order e. λ base has of. subst (IsArranged lists base (parent_in wood)) (sym (e ∙ again)) (arranged lists base wood arcs c.requires.triangulation has of graph vs named))
      c.reversed_order.ensures.vertices;
}
