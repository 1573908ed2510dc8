-- Answers that wrong bodies would give: the clauses refuse them.
use Rattle.std.proofs.Common.{◌↔◌, ◌<◌, ℕ, true, IsTrue, refl}
use Rattle.graphs.specs.Graphs.{EdgeGraph}
use Rattle.embed_contraction.specs.Traces.{HasWitness}
use Rattle.embed_contraction.proofs.FewVertices.{few_without_witness}
use Rattle.embed_witnesses.specs.Kept.{IsKept}

-- the edges of the first vertex are passed over, and none is found
first_vertex_passed_over : (graph : EdgeGraph) (b : ℕ) → IsKept graph 0 b → ¬ ((a b : ℕ) → ¬ IsKept graph a b)
first_vertex_passed_over graph b kept none = none 0 b kept

-- a map is taken for none, and the graph for one with a witness
map_taken_for_none : (graph : EdgeGraph) → graph.n < 5 → ¬ (IsTrue true ↔ HasWitness graph)
map_taken_for_none graph few w = few_without_witness graph few (w.0 refl)
