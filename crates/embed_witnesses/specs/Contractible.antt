-- Edges of a graph that leave a three-connected graph when they are contracted.
use Rattle.std.specs.Prelude.{ℕ, ◌<◌, ◌≤◌, ◌≡◌, ◌⊎◌, ◌↔◌, true}
use Rattle.graphs.specs.Graphs.{EdgeGraph, IsGraph, has_edge}
use Rattle.convex_peeling.specs.Polyhedral.{IsThreeConnected}
use Rattle.conn_parts.specs.GraphLists.{graph_lists}
use Rattle.embed_contraction.specs.Linked.{IsContractible}
use Rattle.embed_witnesses.specs.ContractedEdges.{contraction}

-- a and b are the lesser and the greater end of such an edge
pub record IsContractibleEdge (graph : EdgeGraph) (a b : ℕ) : Type 0 where
  pub order : a < b
  pub joined : has_edge graph a b ≡ true
  pub three : IsThreeConnected (graph_lists (contraction graph a b))

-- the least one, by its lesser end and then by its greater
pub record IsLeastContractible (graph : EdgeGraph) (a b : ℕ) : Type 0 where
  pub here : IsContractibleEdge graph a b
  pub least : (c d : ℕ) → IsContractibleEdge graph c d → (a < c) ⊎ ((a ≡ c) × (b ≤ d))

-- the least one with the lesser end u
pub record IsLeastAbove (graph : EdgeGraph) (u a b : ℕ) : Type 0 where
  pub end : a ≡ u
  pub here : IsContractibleEdge graph a b
  pub least : (d : ℕ) → IsContractibleEdge graph a d → b ≤ d

-- Contracting an edge of a three-connected graph with at least five vertices leaves a three-connected graph exactly where no third vertex separates the others together with its ends.
abbrev pub ContractedExactly : Type 0
ContractedExactly =
    (graph : EdgeGraph) (a b : ℕ) → IsGraph graph → 5 ≤ graph.n → IsThreeConnected (graph_lists graph) → a < b → has_edge graph a b ≡ true → IsThreeConnected (graph_lists (contraction graph a b)) ↔ IsContractible (graph_lists graph) a b
