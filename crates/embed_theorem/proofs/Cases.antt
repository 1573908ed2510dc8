-- The definitions, run on a worked case: a path of three vertices.
use Rattle.std.proofs.Common.{◌≡◌, [], ◌∷◌, refl}
use Rattle.map_lists.specs.Lists.{Lists}
use Rattle.embed_theorem.specs.Expanded.{HasJustEdges}
use Rattle.embed_theorem.specs.Embedding.{IsProper}
use Rattle.embed_theorem.specs.ListGraphs.{graph_of}

abbrev path : Lists
path = (1 ∷ []) ∷ (0 ∷ 2 ∷ []) ∷ (1 ∷ []) ∷ []

-- its graph
edges_of_path : graph_of path ≡ record { n = 3; edges = (0, 1) ∷ (1, 0) ∷ (1, 2) ∷ (2, 1) ∷ [] }
edges_of_path = refl

-- a graph with another number of vertices is not the map's
other : ¬ HasJustEdges path (record { n = 4; edges = (0, 1) ∷ (1, 2) ∷ [] })
other h = let n : 3 ≡ 4 = h.vertices in absurd (cc)

-- a loop is no edge of a simple graph
looped : ¬ IsProper (record { n = 2; edges = (1, 1) ∷ [] })
looped p = p.two 1 1 refl refl
