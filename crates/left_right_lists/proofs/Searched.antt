-- Depth-first forests by a search: depths, and that of two neighbours one is above the other.
use Rattle.std.proofs.Common.{◌≡◌, ◌≢◌, ℕ, zero, suc, ◌+◌, ◌<◌, true, List, length, get_or, set, refl, sym, ap, ◌∙◌, subst, inl, inr, arith, slice_index, length-set}
use Rattle.std.proofs.lemmas.Bool.{cases_eq, cases_lt, false_from_ne_true}
use Rattle.std.proofs.lemmas.List.{get_or_past, get_or-set_same, get_or-set_other}
use Rattle.map_lists.specs.Lists.{Lists}
use Rattle.graph_search.specs.Forests.{Holds, IsForest, IsForestOf}
use Rattle.graph_search.proofs.ForestLemmas.{same_vertex}
use Rattle.graphs.specs.Graphs.{EdgeGraph, IsGraph, has_edge}
use Rattle.graphs.proofs.EdgeLemmas.{has_edge-turned}
use Rattle.conn_parts.specs.GraphLists.{graph_lists}
use Rattle.conn_parts.proofs.GraphLemmas.{length-graph_lists, dart_edge, edge_dart, IsSimpleMap-graph_lists}
use Rattle.left_right_laws.specs.Forests.{IsAbove}
use Rattle.left_right_maps.specs.Graphs.{IsDepthFirst}
use Rattle.left_right_maps.proofs.Lines.{above_over, parent_above}
use Rattle.left_right_lists.specs.Depths.{IsDepthBy, AreDepths}

module _ (lists : Lists) (order number last parents depths : List ℕ) (all : IsForestOf lists order number last parents) where
  abbrev n : ℕ
  n = length lists

  pub depths_more : (k v x : ℕ) → k < n → v ≡ get_or order k 0 → AreDepths order parents depths k → IsDepthBy parents depths v x → AreDepths order parents (set depths v x) (k + 1)
  depths_more k v x in_k is h by =
      let f = all.forest in
      let vertex : v < n = rw is (f.vertex k in_k) in
      let place : slice_index number v ≡ k = rw is (f.place k in_k) in
      let long = h.long in
      let long' = length-set depths v x in
      let here : slice_index (set depths v x) v ≡ x = get_or-set_same depths v x 0 (omega arith) in
      -- a vertex by a parent other than v
      let kept : (u y : ℕ) → (slice_index parents u < n → slice_index parents u ≢ v) → IsDepthBy parents depths u y → IsDepthBy parents (set depths v x) u y =
      λ u y off d. record {
        below = λ l. d.below (omega arith) ∙ ap (λ z. z + 1) (sym (get_or-set_other depths v (slice_index parents u) x 0 (off (omega arith))));
        root = λ l. d.root (omega arith);
      } in
      let rising : (u : ℕ) → u < n → slice_index parents u < n → slice_index number (slice_index parents u) < slice_index number u = λ u l m. (f.held u l m).after in
      record {
        long = long' ∙ long;
        most = λ u. elim (cases_eq u v) [
          | inl e ↦ grind (arith, slice_index, set, cases_lt, length, by)
          | inr ne ↦ (let same = get_or-set_other depths v u x 0 ne in let b = h.most u in omega arith)
        ];
        done = λ j l. elim (cases_eq j k) [
          | inl e ↦
              subst (λ u. IsDepthBy parents (set depths v x) u (slice_index (set depths v x) u)) (sym (ap (slice_index order) e ∙ sym is))
              (subst (IsDepthBy parents (set depths v x) v) (sym here) (kept v x (λ m e'. (let r = rising v vertex m in let s = ap (slice_index number) e' in omega arith)) by))
          | inr ne ↦ grind (arith, slice_index, get_or-set_other, IsDepthBy, set, rising)
        ];
      }

-- ---- the forest of a graph
module _ (graph : EdgeGraph) (known : IsGraph graph) (order number last parents depths : List ℕ) (all : IsForestOf (graph_lists graph) order number last parents) (deep : AreDepths order parents depths (length (graph_lists graph))) where
  abbrev Lists' : Lists
  Lists' = graph_lists graph

  abbrev P : ℕ → ℕ
  P v = slice_index parents v

  abbrev D : ℕ → ℕ
  D v = slice_index depths v

  abbrev N : ℕ → ℕ
  N v = slice_index number v

  abbrev f : IsForest Lists' (λ k. slice_index order k) N (λ v. slice_index last v) P
  f = all.forest

  long : length Lists' ≡ graph.n
  long = length-graph_lists graph known

  table : length depths ≡ graph.n
  table = let a = deep.long in let b = all.parents in let c = long in omega arith

  by : (v : ℕ) → v < graph.n → IsDepthBy parents depths v (D v)
  by v l =
      let c = long in
      subst (λ u. IsDepthBy parents depths u (D u)) (f.own v (omega arith)) (deep.done (N v) (f.numbered v (omega arith)))

  pub deep_in : (v : ℕ) → 0 < D v → v < graph.n
  deep_in v some =
      elim (cases_lt v graph.n) [ inl l ↦ l | inr m ↦ (let p = get_or_past depths v 0 (omega (arith, table)) in absurd (omega arith)) ]

  pub parent_in : (v : ℕ) → 0 < D v → P v < graph.n
  parent_in v some =
      elim (cases_lt (P v) graph.n) [ inl l ↦ l | inr m ↦ (let z = (by v (deep_in v some)).root (omega (arith, table)) in absurd (omega arith)) ]

  pub deeper : (v : ℕ) → 0 < D v → D v ≡ D (P v) + 1
  deeper v some =
      (by v (deep_in v some)).below (omega (arith, parent_in v some, table))

  -- a vertex below its parent is no root
  some_depth : (v : ℕ) → v < graph.n → P v < graph.n → 0 < D v
  some_depth v l m = let t = table in let e = (by v l).below (omega arith) in omega arith

  pub rising : (v : ℕ) → 0 < D v → N (P v) < N v
  rising v some =
      let c = long in
      (f.held v (omega (arith, deep_in v some)) (omega (arith, parent_in v some))).after

  held_above : (k u v : ℕ) → N v < k → u < graph.n → v < graph.n → Holds N (λ v. slice_index last v) u v → IsAbove P D u v
  held_above zero u v few lu lv h = absurd (omega (arith, few))
  held_above (suc k) u v few lu lv h =
      let c = long in
      let lu' : u < length Lists' = omega arith in
      let lv' : v < length Lists' = omega arith in
      let p = f.has_parent u v lu' lv' h in
      let near = f.nearest u v lu' lv' h in
      let up_one = parent_above P D deeper v (some_depth v lv (omega arith)) in
      let after = (f.held v lv' p).after in
      let before = h.before in
      elim (cases_eq (N u) (N (P v))) [
        | inl e ↦ subst (λ z. IsAbove P D z v) (sym (same_vertex Lists' (λ k. slice_index order k) N (λ v. slice_index last v) P f u (P v) lu' p e)) up_one
        | inr ne ↦ above_over P D u (P v) v (held_above k u (P v) (omega arith) lu (omega arith) (record { after = omega arith; before = omega arith })) up_one
      ]

  pub depth_first : IsDepthFirst graph.n (has_edge graph) P D
  depth_first =
      let c = long in
      let ranges : (u v : ℕ) → has_edge graph u v ≡ true → u < graph.n = λ u v t. (let has = edge_dart graph known u v t in let l = has.0 in omega arith) in
      let turned : (u v : ℕ) → has_edge graph u v ≡ true → has_edge graph v u ≡ true = λ u v t. has_edge-turned graph v u ∙ t in
      record {
        in_range = ranges;
        both_ways = turned;
        no_loop = λ v. false_from_ne_true (has_edge graph v v) (λ t. (let l = ranges v v t in (IsSimpleMap-graph_lists graph known (omega arith)).no_loop v v (edge_dart graph known v v t) refl));
        forest = record {
          edges = λ v some. (let l = deep_in v some in let m = parent_in v some in turned (P v) v (dart_edge graph known (P v) v (f.adjacent v (omega arith) (omega arith))));
          deeper = deeper;
        };
        on_lines = λ u v t.
            let lu = ranges u v t in
            let lv = ranges v u (turned u v t) in
            let one = f.edges u v (edge_dart graph known u v t) in
            let other = f.edges v u (edge_dart graph known v u (turned u v t)) in
            elim (cases_lt (N u) (N v)) [
              | inl less ↦ inl (held_above (N v + 1) u v (omega arith) lu lv (record { after = less; before = one }))
              | inr more ↦ elim (cases_eq (N u) (N v)) [
                | inl e ↦
                    let same = same_vertex Lists' (λ k. slice_index order k) N (λ v. slice_index last v) P f u v (omega arith) (omega arith) e in
                    absurd ((IsSimpleMap-graph_lists graph known (omega arith)).no_loop u v (edge_dart graph known u v t) (sym same))
                | inr ne ↦ inr (held_above (N u + 1) v u (omega arith) lv lu (record { after = omega (arith, more, ne); before = other }))
              ]
            ];
      }

  -- the first vertex of the order is a root
  pub first_root : 0 < graph.n → (slice_index order 0 < graph.n) × (D (slice_index order 0) ≡ 0)
  first_root some = grind (arith, long, cases_lt, slice_index, rising)
