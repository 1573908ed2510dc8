-- The tables of a forest grown to one tree.
use Rattle.std.proofs.Common.{◌≡◌, ℕ, ◌+◌, ◌<◌, ◌≤◌, Bool, false, cond, eqb, ltb, List, length, sym, ap, ◌∙◌, subst, inl, inr, arith, slice_index}
use Rattle.std.specs.Prelude.{◌&&◌, ◌||◌}
use Rattle.std.proofs.Math.Path.{fun_ext}
use Rattle.std.proofs.lemmas.Bool.{cases_Bool, cases_eq, cases_lt, cond-false, true≢false, and_parts, lt-ltb, ltb-true, le-ltb}
use Rattle.std.proofs.lemmas.List.{get_or_past}
use Rattle.map_lists.specs.Lists.{Lists}
use Rattle.graph_search.specs.Forests.{IsForestOf}
use Rattle.graphs.specs.Graphs.{EdgeGraph, IsGraph, has_edge}
use Rattle.conn_parts.specs.GraphLists.{graph_lists}
use Rattle.conn_parts.proofs.GraphLemmas.{length-graph_lists}
use Rattle.plane_laws.specs.Kept.{with_kept}
use Rattle.left_right_laws.specs.Forests.{IsLeftRight}
use Rattle.left_right_maps.specs.Orders.{IsEdge}
use Rattle.left_right_maps.specs.RootedMaps.{in_tree}
use Rattle.left_right_maps.specs.Graphs.{IsDepthFirst, IsMapOfEdges}
use Rattle.left_right_maps.specs.Trees.{IsDepthFirstTree}
use Rattle.left_right_maps.proofs.Forests.{other, lone, depth', parent', edge', depth_is, parent_is, edge_by_tree, tree, sides', parted, kept_map, below_so, parent_lone, parent_same, lone_so, other_r}
use Rattle.embed_theorem.specs.Expanded.{IsMapOf}
use Rattle.left_right_lists.specs.Depths.{AreDepths}
use Rattle.left_right_lists.specs.Trees.{IsTabled, is_in_other_tree, grown_depth, grown_parent, joined, AreOfTree}
use Rattle.left_right_lists.proofs.Searched.{depth_first, first_root, rising}

map_of_edges : (graph : EdgeGraph) (lists : Lists) → IsMapOf lists graph → IsMapOfEdges graph.n (has_edge graph) lists
map_of_edges graph lists m =
    record { simple = m.simple; plane = m.plane; vertices = m.edges.vertices; edges = λ v u. (m.edges.there v u, m.edges.all v u) }

map_of_graph : (graph : EdgeGraph) (lists : Lists) → IsMapOfEdges graph.n (has_edge graph) lists → IsMapOf lists graph
map_of_graph graph lists m =
    record { simple = m.simple; plane = m.plane; edges = record { vertices = m.vertices; there = λ u v. (m.edges u v).0; all = λ u v. (m.edges u v).1 } }

module _ (graph : EdgeGraph) (known : IsGraph graph) (order number last parents depths : List ℕ) (all : IsForestOf (graph_lists graph) order number last parents) (deep : AreDepths order parents depths (length (graph_lists graph))) (some : 0 < graph.n) (r : ℕ) (is_r : r ≡ slice_index order 0) (parents' depths' : List ℕ) (ps : IsTabled (grown_parent parents depths r) parents' graph.n) (ds : IsTabled (grown_depth parents depths r) depths' graph.n) where
  abbrev P : ℕ → ℕ
  P = slice_index parents

  abbrev D : ℕ → ℕ
  D = slice_index depths

  abbrev E : ℕ → ℕ → Bool
  E = has_edge graph

  g : IsDepthFirst graph.n E P D
  g = depth_first graph known order number last parents depths all deep

  r_so : (r < graph.n) × (D r ≡ 0)
  r_so = subst (λ z. (z < graph.n) × (D z ≡ 0)) (sym is_r) (first_root graph known order number last parents depths all deep some)

  abbrev Other : ℕ → Bool
  Other = other graph.n E P D r r_so.0 r_so.1 g

  abbrev Lone : ℕ → Bool
  Lone = lone graph.n E P D r r_so.0 r_so.1 g

  abbrev Depth : ℕ → ℕ
  Depth = depth' graph.n E P D r r_so.0 r_so.1 g

  abbrev Parent : ℕ → ℕ
  Parent = parent' graph.n E P D r r_so.0 r_so.1 g

  abbrev Edge : ℕ → ℕ → Bool
  Edge = edge' graph.n E P D r r_so.0 r_so.1 g

  in_graph : (v : ℕ) → v < graph.n → Other v ≡ is_in_other_tree parents depths r v
  in_graph v l = ap (λ b. b && is_in_other_tree parents depths r v) (lt-ltb v graph.n l)

  past : (v : ℕ) → graph.n ≤ v → Other v ≡ false
  past v l = ap (λ b. b && is_in_other_tree parents depths r v) (le-ltb v graph.n l)

  tables : (length depths ≡ graph.n) × (length parents ≡ graph.n)
  tables = let a = deep.long in let b = all.parents in let c = length-graph_lists graph known in (omega arith, omega arith)

  depths_are : (v : ℕ) → Depth v ≡ slice_index depths' v
  depths_are v = grind (arith, cases_lt, depth_is, r_so, cond, in_graph, get_or_past, tables, Depth, past)

  parents_are : (v : ℕ) → Parent v ≡ slice_index parents' v
  parents_are v =
      elim (cases_lt v graph.n) [
        | inl l ↦ parent_is graph.n E P D r r_so.0 r_so.1 g v ∙ (ap (λ b. cond (eqb (D v) 0 && b) r (P v)) (in_graph v l) ∙ sym (ps.at v l))
        | inr l ↦
            let not_lone : Lone v ≡ false = elim (cases_Bool (Lone v)) [ inl t' ↦ absurd (true≢false (sym (and_parts (eqb (D v) 0) (Other v) t').1 ∙ past v l)) | inr f ↦ f ] in
            let e : Parent v ≡ P v = parent_is graph.n E P D r r_so.0 r_so.1 g v ∙ cond-false {A = ℕ} (Lone v) r (P v) not_lone in
            let none : P v ≡ 0 = get_or_past parents v 0 (omega (arith, tables.1)) in
            omega (arith, get_or_past parents' v 0 (omega arith))
      ]

  -- what holds of the functions of a forest's tree holds of the tables
  moved : (Q : (ℕ → ℕ → Bool) → (ℕ → ℕ) → (ℕ → ℕ) → Type 0) → Q Edge Parent Depth → Q (joined graph parents' depths') (slice_index parents') (slice_index depths')
  moved Q q =
      let by : (ℕ → ℕ) → (ℕ → ℕ) → ℕ → ℕ → Bool = λ p d u v. E u v || in_tree p d u v in
      let first : Q (by Parent Depth) Parent Depth = subst (λ e. Q e Parent Depth) (fun_ext (λ u. fun_ext (λ v. edge_by_tree graph.n E P D r r_so.0 r_so.1 g u v))) q in
      let second : Q (by (slice_index parents') Depth) (slice_index parents') Depth = subst (λ p. Q (by p Depth) p Depth) (fun_ext parents_are) first in
      subst (λ d. Q (by (slice_index parents') d) (slice_index parents') d) (fun_ext depths_are) second

  rises : (v : ℕ) → 0 < Depth v → slice_index number (Parent v) < slice_index number v
  rises v deep' =
      let c = length-graph_lists graph known in
      elim (below_so graph.n E P D r r_so.0 r_so.1 g v deep') [
        | inl t ↦ grind (arith, lone_so, r_so, ltb-true, and_parts, ltb, is_in_other_tree, slice_index, cases_eq, true≢false, Other, other_r, parent_lone)
        | inr d ↦
            let up_one = rising graph known order number last parents depths all deep v d in
            omega (arith, ap (slice_index number) (parent_same graph.n E P D r r_so.0 r_so.1 g v d))
      ]

  pub of_tree : AreOfTree graph r order number parents' depths'
  of_tree =
      let c = length-graph_lists graph known in
      record {
        tree = moved (λ e p d. IsDepthFirstTree graph.n e p d r) (tree graph.n E P D r r_so.0 r_so.1 g);
        parted = λ lists map.
            let found = parted graph.n E P D r r_so.0 r_so.1 g lists (map_of_edges graph lists map) in
            (found.0, moved (λ e p d. IsLeftRight (IsEdge e) p d found.0) (sides' graph.n E P D r r_so.0 r_so.1 g found.0 found.1));
        kept = λ whole.
            moved (λ e p d. IsMapOfEdges graph.n e whole → IsMapOf (with_kept E whole) graph) (λ h. map_of_graph graph (with_kept E whole) (kept_map graph.n E P D r r_so.0 r_so.1 g whole h));
        few = known.few;
        parents_long = ps.long;
        depths_long = ds.long;
        order_long = omega arith;
        number_long = omega arith;
        numbered = λ v l. (let a = all.forest.numbered v (omega arith) in omega arith);
        own = λ v l. all.forest.own v (omega arith);
        vertex = λ k l. (let a = all.forest.vertex k (omega arith) in omega arith);
        place = λ k l. all.forest.place k (omega arith);
        rising = moved (λ e p d. (v : ℕ) → 0 < d v → slice_index number (p v) < slice_index number v) rises;
      }

pub of_lists : (graph : EdgeGraph) (known : IsGraph graph) (lists : Lists) (is : lists ≡ graph_lists graph) (order number last parents depths : List ℕ) (all : IsForestOf lists order number last parents) (deep : AreDepths order parents depths (length lists)) (some : 0 < graph.n) (r : ℕ) (is_r : r ≡ slice_index order 0) (parents' depths' : List ℕ) (ps : IsTabled (grown_parent parents depths r) parents' graph.n) (ds : IsTabled (grown_depth parents depths r) depths' graph.n) → AreOfTree graph r order number parents' depths'
of_lists graph known lists is order number last parents depths all deep =
    of_tree graph known order number last parents depths (subst (λ ls. IsForestOf ls order number last parents) is all) (subst (λ ls. AreDepths order parents depths (length ls)) is deep)
