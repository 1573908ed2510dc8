-- Witnesses refute.
use Rattle.std.specs.Prelude.{ℕ, ◌≡◌, true, List}
use Rattle.map_lists.specs.Lists.{Lists}
use Rattle.map_lists.specs.declared.ids.VertexId.{VertexId}
use Rattle.map_theory.specs.Maps.{HasDart, IsSimpleMap, IsPlane}
use Rattle.graphs.specs.Graphs.{EdgeGraph, has_edge}
use Rattle.kuratowski.specs.Witnesses.{IsWitness}
use Rattle.kuratowski.specs.declared.witness.Kind.{Kind}

-- a map has all edges of a graph, and maybe more
abbrev pub HasEdges : Lists → EdgeGraph → Type 0
HasEdges lists graph = (u v : ℕ) → has_edge graph u v ≡ true → HasDart lists u v

-- Where a graph has a witness, no simple map of genus zero has all its edges.
abbrev pub WitnessesRefute : Type 0
WitnessesRefute =
    (graph : EdgeGraph) (kind : Kind) (branch : List VertexId) (paths : List (List VertexId)) → IsWitness graph kind branch paths → (lists : Lists) → IsSimpleMap lists → IsPlane lists → ¬ HasEdges lists graph
