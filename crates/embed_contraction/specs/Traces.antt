-- Kuratowski witnesses by functions: branches by their numbers, and paths by their steps.
use Rattle.std.specs.Prelude.{ℕ, List, length}
use Rattle.map_lists.specs.declared.ids.VertexId.{VertexId}
use Rattle.graphs.specs.Graphs.{EdgeGraph}
use Rattle.kuratowski.specs.Witnesses.{pairs_of, IsWitness}
use Rattle.kuratowski.specs.declared.witness.Kind.{Kind}

-- some witness is one of the graph
abbrev pub HasWitness : EdgeGraph → Type 0
HasWitness graph = (kind : Kind) × (branch : List VertexId) × (paths : List (List VertexId)) × IsWitness graph kind branch paths

-- how many paths a witness of this kind has
abbrev pub path_count : Kind → ℕ
path_count kind = length (pairs_of kind)
