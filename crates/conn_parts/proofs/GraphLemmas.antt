-- The lists of a graph are a simple map.
use Rattle.std.proofs.Common.{◌≡◌, ◌≢◌, ℕ, ◌+◌, ◌<◌, true, List, [], ◌∷◌, ◌++◌, length, Contains, AllPairs, sym, ap, ◌∙◌, subst, inl, inr, arith, map-id}
use Rattle.std.specs.List.{range_with_len}
use Rattle.std.proofs.lemmas.Bool.{cases_lt}
use Rattle.std.proofs.lemmas.List.FromFn.{length-range_with_len, get_or-range_with_len, length-map-range_with_len, get_or-map-range_with_len, map-range_with_len_more}
use Rattle.std.proofs.lemmas.List.Kept.{AllPairs-filter}
use Rattle.map_theory.specs.Maps.{HasDart, IsSimpleMap, list_of}
use Rattle.map_theory.proofs.EntryLemmas.{Contains-filter, Contains-from_filter}
use Rattle.graphs.specs.Graphs.{EdgeGraph, IsGraph, has_edge}
use Rattle.graphs.proofs.EdgeLemmas.{has_edge-turned, joined_is}
use Rattle.conn_parts.specs.GraphLists.{neighbours_below, graph_lists}

-- one number more
pub range_more : (n : ℕ) → range_with_len 0 (n + 1) ≡ range_with_len 0 n ++ n ∷ []
range_more n =
    sym (map-id (range_with_len 0 (n + 1))) ∙ (map-range_with_len_more (λ x. x) 0 n n (omega arith) ∙ ap (λ xs. xs ++ n ∷ []) (map-id (range_with_len 0 n)))

-- the numbers below n
range_has : (n u : ℕ) → u < n → Contains (range_with_len 0 n) u
range_has n u l = (u, omega (arith, length-range_with_len 0 n), get_or-range_with_len 0 n u u l ∙ omega arith)

range_distinct : (n : ℕ) → AllPairs ◌≢◌ (range_with_len 0 n)
range_distinct n = λ i j d l m e.
    let k = length-range_with_len 0 n in
    let one = get_or-range_with_len 0 n i d (omega arith) in
    let other = get_or-range_with_len 0 n j d (omega arith) in
    omega arith

module _ (graph : EdgeGraph) (is : IsGraph graph) where
  -- an edge joins two vertices
  edge_within : (u v : ℕ) → has_edge graph u v ≡ true → (u < graph.n) × (v < graph.n) × (u ≢ v)
  edge_within u v e =
      elim (cases_lt v u) [
        | inl l ↦
            let j = joined_is graph.n v u graph.edges is.edges (omega arith) (has_edge-turned graph v u ∙ e) in
            let a = j.1 in
            let b = j.2 in
            (omega arith, omega arith, λ q. (let z = q in omega arith))
        | inr l ↦
            let j = joined_is graph.n u v graph.edges is.edges l e in
            let a = j.1 in
            let b = j.2 in
            (omega arith, omega arith, λ q. (let z = q in omega arith))
      ]

  pub length-graph_lists : length (graph_lists graph) ≡ graph.n
  length-graph_lists = length-map-range_with_len (λ v. neighbours_below graph v graph.n) 0 graph.n

  list_of-graph : (v : ℕ) → v < graph.n → list_of (graph_lists graph) v ≡ neighbours_below graph v graph.n
  list_of-graph v l = get_or-map-range_with_len (λ x. neighbours_below graph x graph.n) 0 graph.n v v [] l (omega arith)

  pub dart_edge : (v u : ℕ) → HasDart (graph_lists graph) v u → has_edge graph v u ≡ true
  dart_edge v u has =
      let l = has.0 in
      let m : v < graph.n = omega (arith, length-graph_lists) in
      (Contains-from_filter (λ x. has_edge graph v x) (range_with_len 0 graph.n) u (subst (λ (xs : List ℕ). Contains xs u) (list_of-graph v m) has.1)).1

  pub edge_dart : (v u : ℕ) → has_edge graph v u ≡ true → HasDart (graph_lists graph) v u
  edge_dart v u e =
      let in_n = edge_within v u e in
      let l = in_n.0 in (
        omega (arith, length-graph_lists),
        subst (λ (xs : List ℕ). Contains xs u) (sym (list_of-graph v l)) (Contains-filter (λ x. has_edge graph v x) (range_with_len 0 graph.n) u (range_has graph.n u in_n.1) e),
      )

  -- THE LAW: the lists of a graph with a vertex are a simple map, whose darts are its edges
  pub IsSimpleMap-graph_lists : 0 < graph.n → IsSimpleMap (graph_lists graph)
  IsSimpleMap-graph_lists some =
      let n = length-graph_lists in
      record {
        some_vertex = omega arith;
        in_range = λ v u has. let l = (edge_within v u (dart_edge v u has)).1 in omega arith;
        no_loop = λ v u has e. (edge_within v u (dart_edge v u has)).2 (sym e);
        no_repeat = λ v l.
            let m : v < graph.n = omega arith in
            subst (λ (xs : List ℕ). AllPairs ◌≢◌ xs) (sym (list_of-graph v m)) (AllPairs-filter ◌≢◌ (λ x. has_edge graph v x) (range_with_len 0 graph.n) (range_distinct graph.n));
        both_ways = λ v u has. edge_dart u v (has_edge-turned graph u v ∙ dart_edge v u has);
      }
