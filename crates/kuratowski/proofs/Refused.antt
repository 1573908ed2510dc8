-- Verdicts that wrong bodies of the check would give, each at one witness: the clause refuses them.
use Rattle.std.proofs.Common.{◌≡◌, ℕ, List, [], ◌∷◌, refl, false, true, arith}
use Rattle.map_lists.specs.declared.ids.VertexId.{VertexId}
use Rattle.graphs.specs.Graphs.{EdgeGraph}
use Rattle.kuratowski.specs.Verdicts.{IsVerdict}
use Rattle.kuratowski.specs.declared.witness.Kind.TheVariants.{K5, K33}
use Rattle.kuratowski.specs.declared.check.WitnessVerdict.TheVariants.{BadBranch, Yes}

abbrev v : ℕ → VertexId
v k = record { 0 = k }

abbrev five : List VertexId
five = v 0 ∷ v 1 ∷ v 2 ∷ v 3 ∷ v 4 ∷ []

-- a path through a branch let through
path_through_a_branch : (graph : EdgeGraph) → (rest : List (List VertexId)) → IsVerdict graph K5 five ((v 0 ∷ v 2 ∷ v 1 ∷ []) ∷ rest) Yes → ⊥
path_through_a_branch graph rest w = w.no_branch 0 1 2 (omega arith) (omega arith, omega arith) (omega arith) refl

-- a shared inner vertex let through
shared_inner_vertex : (graph : EdgeGraph) → (rest : List (List VertexId)) → IsVerdict graph K5 five ((v 0 ∷ v 7 ∷ v 1 ∷ []) ∷ (v 0 ∷ v 7 ∷ v 2 ∷ []) ∷ rest) Yes → ⊥
shared_inner_vertex graph rest w = w.apart 0 1 1 1 (omega arith) (omega arith) (omega arith, omega arith) (omega arith, omega arith) refl

-- a path of one vertex taken, where two branches are one, which is named in place of the path
path_of_one_vertex : (graph : EdgeGraph) (rest : List (List VertexId)) → IsVerdict graph K5 (v 0 ∷ v 0 ∷ v 2 ∷ v 3 ∷ v 4 ∷ []) ((v 0 ∷ []) ∷ rest) (BadBranch 2) → ⊥
path_of_one_vertex graph rest w = let h = (w.0.joined 0 (omega arith)).long in omega (arith, h)

-- the first step of a path not looked at
first_step_not_looked_at : (rest : List (List VertexId)) → IsVerdict (record { n = 5; edges = [] }) K5 five ((v 0 ∷ v 1 ∷ []) ∷ rest) Yes → ⊥
first_step_not_looked_at rest w = let h : false ≡ true = w.edges 0 0 (omega arith) (omega arith) in cc

-- the pairs of K3,3 in another order
pairs_in_another_order : (graph : EdgeGraph) (rest : List (List VertexId)) → IsVerdict graph K33 (v 0 ∷ v 1 ∷ v 2 ∷ v 3 ∷ v 4 ∷ v 5 ∷ []) ((v 2 ∷ v 5 ∷ []) ∷ rest) Yes → ⊥
pairs_in_another_order graph rest w = omega (arith, (w.shape.joined 0 (omega arith)).start)
