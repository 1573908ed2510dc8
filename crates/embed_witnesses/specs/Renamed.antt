-- Witnesses with other numbers for their vertices.
use Rattle.std.specs.Prelude.{ℕ, ◌<◌, ◌≡◌, true, List, map, slice_index_or}
use Rattle.map_lists.specs.declared.ids.VertexId.{VertexId}
use Rattle.graphs.specs.Graphs.{EdgeGraph, has_edge}
use Rattle.kuratowski.specs.Witnesses.{IsWitness}
use Rattle.kuratowski.specs.declared.witness.Kind.{Kind}
use Rattle.kuratowski.specs.declared.witness.Witness.{Witness}

-- what a table has for a number, which stays where it is past the table
abbrev pub named : List ℕ → ℕ → ℕ
named table v = slice_index_or table v v

-- a list of vertices renamed
abbrev pub renamed_list : (ℕ → ℕ) → List VertexId → List VertexId
renamed_list to vs = map (λ v. record { 0 = to v.0 }) vs

abbrev pub renamed_paths : (ℕ → ℕ) → List (List VertexId) → List (List VertexId)
renamed_paths to paths = map (renamed_list to) paths

-- `new` is `old` with its branches and paths renamed; its kind stays
pub record IsRenamed (to : ℕ → ℕ) (old new : Witness) : Type 0 where
  pub kind : new.kind ≡ old.kind
  pub branch : new.branch ≡ renamed_list to old.branch
  pub paths : new.paths ≡ renamed_paths to old.paths

-- Vertices of the one graph become different ones of the other, and edges become edges.
pub record KeepsEdges (small graph : EdgeGraph) (to : ℕ → ℕ) : Type 0 where
  pub within : (v : ℕ) → v < small.n → to v < graph.n
  pub apart : (u v : ℕ) → to u ≡ to v → u ≡ v
  pub edges : (u v : ℕ) → has_edge small u v ≡ true → has_edge graph (to u) (to v) ≡ true

-- A witness of the one graph, renamed, is one of the other.
abbrev pub RenamedWitness : Type 0
RenamedWitness =
    (small graph : EdgeGraph) (to : ℕ → ℕ) (kind : Kind) (branch : List VertexId) (paths : List (List VertexId)) → KeepsEdges small graph to → IsWitness small kind branch paths → IsWitness graph kind (renamed_list to branch) (renamed_paths to paths)
