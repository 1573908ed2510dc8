-- Maps of graphs.
use Rattle.std.specs.Prelude.{ℕ, ◌<◌, ◌≡◌, ◌≢◌, ◌⊎◌, ◌↔◌, true}
use Rattle.map_lists.specs.Lists.{Lists}
use Rattle.graphs.specs.Graphs.{EdgeGraph, has_edge}
use Rattle.embed_contraction.specs.Traces.{HasWitness}
use Rattle.embed_theorem.specs.Expanded.{IsMapOf}

-- edges join two vertices below n
pub record IsProper (graph : EdgeGraph) : Type 0 where
  pub some : 0 < graph.n
  pub within : (u v : ℕ) → has_edge graph u v ≡ true → u < graph.n
  pub two : (u v : ℕ) → has_edge graph u v ≡ true → u ≢ v

-- Each simple graph has a Kuratowski witness, or a map of genus zero with exactly its edges.
abbrev pub MapOrWitness : Type 0
MapOrWitness = (graph : EdgeGraph) → IsProper graph → HasWitness graph ⊎ ((map : Lists) × IsMapOf map graph)

-- A simple graph has a map of genus zero exactly where it has no witness.
abbrev pub PlanarExactly : Type 0
PlanarExactly = (graph : EdgeGraph) → IsProper graph → ((map : Lists) × IsMapOf map graph) ↔ (¬ HasWitness graph)
