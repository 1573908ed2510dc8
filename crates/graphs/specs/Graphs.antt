-- Simple graphs without a drawing: a number of vertices, and edges.
use Rattle.std.specs.Prelude.{ℕ, ◌<◌, ◌≤◌, ◌≡◌, ◌⊎◌, Bool, ◌&&◌, ◌||◌, ◌==◌, List, All, AllPairs}
use Rattle.std.specs.List.{list_any}
use Rattle.map_lists.specs.declared.items.Ends.{Ends}

-- an edge, by its lesser end and then its greater
abbrev pub Edge : Type 0
Edge = ℕ × ℕ

-- a graph on the vertices below n
pub record EdgeGraph : Type 0 where
  pub n : ℕ
  pub edges : List Edge

-- edges are in order by the lesser end, and then by the greater
abbrev pub ComesBefore : Edge → Edge → Type 0
ComesBefore e f = (e.0 < f.0) ⊎ ((e.0 ≡ f.0) × (e.1 < f.1))

-- edges of a graph on n vertices, in order and each once
pub record AreEdges (n : ℕ) (edges : List Edge) : Type 0 where
  pub ends : All (λ e. (e.0 < e.1) × (e.1 < n)) edges
  pub rising : AllPairs ComesBefore edges

-- what holds of each `Graph`
pub record IsGraph (graph : EdgeGraph) : Type 0 where
  pub few : graph.n ≤ 255
  pub edges : AreEdges graph.n graph.edges

-- whether an edge joins u and v
abbrev pub joins : ℕ → ℕ → Edge → Bool
joins u v e = ((e.0 == u) && (e.1 == v)) || ((e.0 == v) && (e.1 == u))

-- whether some edge of a graph does
abbrev pub has_edge : EdgeGraph → ℕ → ℕ → Bool
has_edge graph u v = list_any (joins u v) graph.edges

-- the two ends of an edge
abbrev pub edge_of : Ends → Edge
edge_of e = (e.a.0, e.b.0)
