-- Witnesses from functions: lists of what a function gives at the numbers below a bound.
use Rattle.std.proofs.Common.{◌≡◌, ℕ, suc, ◌-◌, ◌<◌, ◌≤◌, List, [], length, map, sym, ap, ◌∙◌, subst, arith}
use Rattle.std.specs.List.{range_with_len}
use Rattle.std.proofs.lemmas.List.{length-map, get_or-map}
use Rattle.std.proofs.lemmas.List.FromFn.{length-range_with_len, get_or-range_with_len}
use Rattle.map_lists.specs.declared.ids.VertexId.{VertexId}
use Rattle.graphs.specs.Graphs.{EdgeGraph}
use Rattle.kuratowski.specs.Witnesses.{branch_count, pair_at, vertex_at, path_at, IsInnerPlace, IsWitness}
use Rattle.kuratowski.specs.declared.witness.Kind.{Kind}
use Rattle.kuratowski.specs.declared.witness.Kind.TheVariants.{K5, K33}
use Rattle.embed_contraction.specs.Traces.{path_count, HasWitness}
use Rattle.embed_contraction.proofs.Spans.{IsTraced}
use Rattle.embed_contraction.proofs.Numbers.{each_of_nine, each_of_ten}

-- the vertices that a function gives at the numbers below n
abbrev pub vertices_of : (ℕ → ℕ) → ℕ → List VertexId
vertices_of f n = map (λ i. record { 0 = f i }) (range_with_len 0 n)

pub length-vertices_of : (f : ℕ → ℕ) (n : ℕ) → length (vertices_of f n) ≡ n
length-vertices_of f n = length-map {B = VertexId} (range_with_len 0 n) (λ i. record { 0 = f i }) ∙ length-range_with_len 0 n

pub vertex_at-vertices_of : (f : ℕ → ℕ) (n i : ℕ) → i < n → vertex_at (vertices_of f n) i ≡ f i
vertex_at-vertices_of f n i l =
    let r = length-range_with_len 0 n in
    ap (λ (v : VertexId). v.0) (get_or-map {Y = VertexId} (λ i. record { 0 = f i }) (range_with_len 0 n) i 0 (record { 0 = 0 }) (omega arith))
    ∙ ap f (get_or-range_with_len 0 n i 0 l ∙ omega arith)

-- each path joins two of the branches
pub pairs_within : (kind : Kind) (p : ℕ) → p < path_count kind → ((pair_at kind p).0 < branch_count kind) × ((pair_at kind p).1 < branch_count kind)
pairs_within x0 = grind (arith, K5, each_of_ten, pair_at, K33, each_of_nine)

-- lists that agree with the functions of a traced witness are a witness
module _ (graph : EdgeGraph) (kind : Kind) (branch size : ℕ → ℕ) (way : ℕ → ℕ → ℕ) (t : IsTraced graph kind branch size way) (branches : List VertexId) (paths : List (List VertexId)) (size_branches : length branches ≡ branch_count kind) (branch_is : (j : ℕ) → j < branch_count kind → vertex_at branches j ≡ branch j) (size_paths : length paths ≡ path_count kind) (size_path : (p : ℕ) → p < path_count kind → length (path_at paths p) ≡ suc (size p)) (vertex_is : (p i : ℕ) → p < path_count kind → i ≤ size p → vertex_at (path_at paths p) i ≡ way p i) where
  inner_is : (p i : ℕ) → p < path_count kind → IsInnerPlace (path_at paths p) i → i < size p
  inner_is p i l h = let s = size_path p l in let m = h.1 in omega arith

  pub witness_by : IsWitness graph kind branches paths
  witness_by = record {
    shape = record {
      branches = size_branches;
      count = size_paths;
      joined = λ p l.
          let in_p : p < path_count kind = omega arith in
          let long = t.long p in_p in
          let ends = pairs_within kind p in_p in
          let last : length (path_at paths p) - 1 ≡ size p = omega arith in
          record {
            long = omega arith;
            start = vertex_is p 0 in_p (omega arith) ∙ (t.start p in_p ∙ sym (branch_is (pair_at kind p).0 ends.0));
            end = ap (vertex_at (path_at paths p)) last ∙ (vertex_is p (size p) in_p (omega arith) ∙ (t.end p in_p ∙ sym (branch_is (pair_at kind p).1 ends.1)));
          };
    };
    vertices = λ j l. let n = size_branches in let m : j < branch_count kind = omega arith in subst (λ v. v < graph.n) (sym (branch_is j m)) (t.vertices j m);
    distinct = λ i j l m e.
        let in_j : j < branch_count kind = omega arith in
        t.distinct i j l in_j (sym (branch_is i (omega arith)) ∙ (e ∙ branch_is j in_j));
    edges = λ p i l m.
        let in_p : p < path_count kind = omega arith in
        rw (vertex_is p i in_p (omega arith), vertex_is p (suc i) in_p (omega arith)) (t.edges p i in_p (omega arith));
    no_branch = λ p i j l h m e.
        let in_p : p < path_count kind = omega arith in
        let in_j : j < branch_count kind = omega arith in
        t.no_branch p i j in_p h.0 (inner_is p i in_p h) in_j (sym (vertex_is p i in_p (omega arith)) ∙ (e ∙ branch_is j in_j));
    once = λ p i j l h m e.
        let in_p : p < path_count kind = omega arith in
        let in_j : j ≤ size p = omega arith in
        t.once p i j in_p h.0 (inner_is p i in_p h) in_j (sym (vertex_is p i in_p (omega arith)) ∙ (e ∙ vertex_is p j in_p in_j));
    apart = λ p q i j l m h h' e.
        let in_q : q < path_count kind = omega arith in
        let in_p : p < path_count kind = omega arith in
        let in_j = inner_is q j in_q h' in
        t.apart p q i j l in_q h.0 (inner_is p i in_p h) h'.0 in_j (sym (vertex_is p i in_p (omega arith)) ∙ (e ∙ vertex_is q j in_q (omega arith)));
  }

module _ (graph : EdgeGraph) (kind : Kind) (branch size : ℕ → ℕ) (way : ℕ → ℕ → ℕ) (t : IsTraced graph kind branch size way) where
  abbrev branches : List VertexId
  branches = vertices_of branch (branch_count kind)

  abbrev path : ℕ → List VertexId
  path p = vertices_of (way p) (suc (size p))

  abbrev paths : List (List VertexId)
  paths = map path (range_with_len 0 (path_count kind))

  size_paths : length paths ≡ path_count kind
  size_paths = length-map {B = List VertexId} (range_with_len 0 (path_count kind)) path ∙ length-range_with_len 0 (path_count kind)

  path_is : (p : ℕ) → p < path_count kind → path_at paths p ≡ path p
  path_is p l =
      let r = length-range_with_len 0 (path_count kind) in
      get_or-map {Y = List VertexId} path (range_with_len 0 (path_count kind)) p 0 [] (omega arith) ∙ ap path (get_or-range_with_len 0 (path_count kind) p 0 l ∙ omega arith)

  size_path : (p : ℕ) → p < path_count kind → length (path_at paths p) ≡ suc (size p)
  size_path p l = ap (λ (q : List VertexId). length q) (path_is p l) ∙ length-vertices_of (way p) (suc (size p))

  vertex_is : (p i : ℕ) → p < path_count kind → i ≤ size p → vertex_at (path_at paths p) i ≡ way p i
  vertex_is p i l m = ap (λ q. vertex_at q i) (path_is p l) ∙ vertex_at-vertices_of (way p) (suc (size p)) i (omega arith)

  branch_is : (j : ℕ) → j < branch_count kind → vertex_at branches j ≡ branch j
  branch_is j l = vertex_at-vertices_of branch (branch_count kind) j l

  size_branches : length branches ≡ branch_count kind
  size_branches = length-vertices_of branch (branch_count kind)

  witness : IsWitness graph kind branches paths
  witness = witness_by graph kind branch size way t branches paths size_branches branch_is size_paths size_path vertex_is

-- Such functions give a witness.
pub traced_witness : (graph : EdgeGraph) (kind : Kind) (branch size : ℕ → ℕ) (way : ℕ → ℕ → ℕ) → IsTraced graph kind branch size way → HasWitness graph
traced_witness graph kind branch size way t =
    (kind, branches graph kind branch size way t, paths graph kind branch size way t, witness graph kind branch size way t)
