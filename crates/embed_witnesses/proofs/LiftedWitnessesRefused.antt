-- A witness that wrong bodies would give: the clauses refuse it.
use Rattle.std.proofs.Common.{◌≡◌, ℕ, List, [], ◌∷◌, true, false, arith}
use Rattle.map_lists.specs.declared.ids.VertexId.{VertexId}
use Rattle.graphs.specs.Graphs.{EdgeGraph}
use Rattle.kuratowski.specs.Witnesses.{IsWitness}
use Rattle.kuratowski.specs.declared.witness.Kind.TheVariants.{K5}

abbrev v : ℕ → VertexId
v k = record { 0 = k }

abbrev five : List VertexId
five = v 0 ∷ v 1 ∷ v 2 ∷ v 3 ∷ v 4 ∷ []

-- the complete graph of five vertices, with a vertex more in the middle of its edge from 0 to 1
abbrev split_edge : EdgeGraph
split_edge = record { n = 6; edges = (0, 2) ∷ (0, 3) ∷ (0, 4) ∷ (0, 5) ∷ (1, 2) ∷ (1, 3) ∷ (1, 4) ∷ (1, 5) ∷ (2, 3) ∷ (2, 4) ∷ (3, 4) ∷ [] }

-- the witness of the contracted graph is given as it is, or a changed one is not checked: a step has no edge
step_without_an_edge : (rest : List (List VertexId)) → ¬ IsWitness split_edge K5 five ((v 0 ∷ v 1 ∷ []) ∷ rest)
step_without_an_edge rest w = let h : false ≡ true = w.edges 0 0 (omega arith) (omega arith) in cc
