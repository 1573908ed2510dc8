-- Witnesses of single edges, and witnesses that stay when an edge is contracted.
use Rattle.std.specs.Prelude.{ℕ, ◌<◌, ◌≡◌, ◌⊎◌, true}
use Rattle.graphs.specs.Graphs.{EdgeGraph, IsGraph, has_edge}
use Rattle.kuratowski.specs.Witnesses.{branch_count, pair_at}
use Rattle.kuratowski.specs.declared.witness.Kind.{Kind}
use Rattle.embed_contraction.specs.Traces.{path_count, HasWitness}
use Rattle.embed_witnesses.specs.ContractedEdges.{contraction}

-- the branches of K5 or K3,3, each pair of which that has to be joined is joined by an edge
pub record IsPlain (graph : EdgeGraph) (kind : Kind) (branch : ℕ → ℕ) : Type 0 where
  pub vertices : (j : ℕ) → j < branch_count kind → branch j < graph.n
  pub distinct : (i j : ℕ) → i < branch_count kind → j < branch_count kind → branch i ≡ branch j → i ≡ j
  pub joined : (p : ℕ) → p < path_count kind → has_edge graph (branch (pair_at kind p).0) (branch (pair_at kind p).1) ≡ true

-- the graph has K5 or K3,3 as a part
abbrev pub HasPlain : EdgeGraph → Type 0
HasPlain graph = (kind : Kind) × (branch : ℕ → ℕ) × IsPlain graph kind branch

-- a and b are the lesser and the greater end of an edge, and the graph with this edge contracted has a witness
pub record IsKept (graph : EdgeGraph) (a b : ℕ) : Type 0 where
  pub order : a < b
  pub joined : has_edge graph a b ≡ true
  pub small : HasWitness (contraction graph a b)

-- A graph with a witness has K5 or K3,3 as a part, or an edge of it can be contracted so that a witness stays.
abbrev pub PlainOrKept : Type 0
PlainOrKept = (graph : EdgeGraph) → IsGraph graph → HasWitness graph → HasPlain graph ⊎ ((a : ℕ) × (b : ℕ) × IsKept graph a b)
