-- Kuratowski witnesses: a subdivision of K5 or of K3,3 in a graph.
use Rattle.std.specs.Prelude.{ℕ, suc, ◌-◌, ◌<◌, ◌≤◌, ◌≡◌, ◌≢◌, true, List, [], ◌∷◌, length, slice_index_or}
use Rattle.map_lists.specs.declared.ids.VertexId.{VertexId}
use Rattle.graphs.specs.Graphs.{EdgeGraph, has_edge}
use Rattle.kuratowski.specs.declared.witness.Kind.{Kind}
use Rattle.kuratowski.specs.declared.witness.Kind.TheVariants.{K5, K33}

-- how many branches a kind has
abbrev pub branch_count : Kind → ℕ
branch_count K5 = 5
branch_count K33 = 6

-- the pairs of branches that its paths join, path by path; all numbers are from 0
abbrev pub pairs_of : Kind → List (ℕ × ℕ)
pairs_of K5 =
    (0, 1) ∷ (0, 2) ∷ (0, 3) ∷ (0, 4) ∷ (1, 2) ∷ (1, 3) ∷ (1, 4) ∷ (2, 3) ∷ (2, 4) ∷ (3, 4) ∷ []
pairs_of K33 = (0, 3) ∷ (0, 4) ∷ (0, 5) ∷ (1, 3) ∷ (1, 4) ∷ (1, 5) ∷ (2, 3) ∷ (2, 4) ∷ (2, 5) ∷ []

-- the pair of branches that path p joins
abbrev pub pair_at : Kind → ℕ → ℕ × ℕ
pair_at kind p = slice_index_or (pairs_of kind) p (0, 0)

-- the vertex at a place of a list
abbrev pub vertex_at : List VertexId → ℕ → ℕ
vertex_at list i = (slice_index_or list i (record { 0 = 0 })).0

-- path number p
abbrev pub path_at : List (List VertexId) → ℕ → List VertexId
path_at paths p = slice_index_or paths p []

-- a path of two vertices at least, between two branches
pub record Joins (branch path : List VertexId) (pair : ℕ × ℕ) : Type 0 where
  pub long : 2 ≤ length path
  pub start : vertex_at path 0 ≡ vertex_at branch pair.0
  pub end : vertex_at path (length path - 1) ≡ vertex_at branch pair.1

-- as many branches and paths as the kind has, and each path joins its pair
pub record IsShape (kind : Kind) (branch : List VertexId) (paths : List (List VertexId)) : Type 0 where
  pub branches : length branch ≡ branch_count kind
  pub count : length paths ≡ length (pairs_of kind)
  pub joined : (p : ℕ) → p < length paths → Joins branch (path_at paths p) (pair_at kind p)

-- a place of a path between its ends
abbrev pub IsInnerPlace : List VertexId → ℕ → Type 0
IsInnerPlace path i = (0 < i) × (suc i < length path)

-- Branches are distinct vertices; paths go along edges; an inner vertex of a path is no branch, stands once in its path and is inner in no other path.
pub record IsWitness (graph : EdgeGraph) (kind : Kind) (branch : List VertexId) (paths : List (List VertexId)) : Type 0 where
  pub shape : IsShape kind branch paths
  pub vertices : (i : ℕ) → i < length branch → vertex_at branch i < graph.n
  pub distinct : (i j : ℕ) → i < j → j < length branch → vertex_at branch i ≢ vertex_at branch j
  pub edges : (p i : ℕ) → p < length paths → suc i < length (path_at paths p) → has_edge graph (vertex_at (path_at paths p) i) (vertex_at (path_at paths p) (suc i)) ≡ true
  pub no_branch : (p i j : ℕ) → p < length paths → IsInnerPlace (path_at paths p) i → j < length branch → vertex_at (path_at paths p) i ≢ vertex_at branch j
  pub once : (p i j : ℕ) → p < length paths → IsInnerPlace (path_at paths p) i → j < length (path_at paths p) → vertex_at (path_at paths p) i ≡ vertex_at (path_at paths p) j → i ≡ j
  pub apart : (p q i j : ℕ) → p < q → q < length paths → IsInnerPlace (path_at paths p) i → IsInnerPlace (path_at paths q) j → vertex_at (path_at paths p) i ≢ vertex_at (path_at paths q) j
