-- What may be wrong with a witness, and where. All numbers are from 0.
use Rattle.std.specs.Prelude.{ℕ, suc, ◌<◌, ◌≤◌, ◌≡◌, ◌⊎◌, false, List, length}
use Rattle.map_lists.specs.declared.ids.VertexId.{VertexId}
use Rattle.graphs.specs.Graphs.{EdgeGraph, has_edge}
use Rattle.kuratowski.specs.Witnesses.{vertex_at, path_at, IsInnerPlace}

-- a branch stands at an earlier place too
abbrev pub StandsBefore : List VertexId → ℕ → Type 0
StandsBefore branch i = (j : ℕ) × (j < i) × (vertex_at branch j ≡ vertex_at branch i)

-- branch i is no vertex, or an earlier branch
abbrev pub IsBadBranch : ℕ → List VertexId → ℕ → Type 0
IsBadBranch n branch i = (i < length branch) × ((n ≤ vertex_at branch i) ⊎ StandsBefore branch i)

-- no edge joins vertices i and i + 1 of path p
pub record LacksEdge (graph : EdgeGraph) (paths : List (List VertexId)) (p i : ℕ) : Type 0 where
  pub path : p < length paths
  pub step : suc i < length (path_at paths p)
  pub lacks : has_edge graph (vertex_at (path_at paths p) i) (vertex_at (path_at paths p) (suc i)) ≡ false

-- v stands in a list
abbrev pub Stands : List VertexId → ℕ → Type 0
Stands list v = (i : ℕ) × (i < length list) × (vertex_at list i ≡ v)

-- v stands in a list at two places
abbrev pub StandsTwice : List VertexId → ℕ → Type 0
StandsTwice list v = (i : ℕ) × (j : ℕ) × (i < j) × (j < length list) × (vertex_at list i ≡ v) × (vertex_at list j ≡ v)

-- v is an inner vertex of a path
abbrev pub IsInner : List VertexId → ℕ → Type 0
IsInner path v = (i : ℕ) × IsInnerPlace path i × (vertex_at path i ≡ v)

-- an inner vertex of path p that is a branch, or stands in it twice, where q is p; and else an inner vertex of path q too
pub record IsShared (branch : List VertexId) (paths : List (List VertexId)) (p q v : ℕ) : Type 0 where
  pub order : p ≤ q
  pub within : q < length paths
  pub inner : IsInner (path_at paths p) v
  pub too : ((q ≡ p) × (Stands branch v ⊎ StandsTwice (path_at paths p) v)) ⊎ ((p < q) × IsInner (path_at paths q) v)
