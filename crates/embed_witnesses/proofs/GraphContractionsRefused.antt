-- Answers that wrong bodies would give: the clauses refuse them.
use Rattle.std.proofs.Common.{◌≡◌, ◌≢◌, ℕ, ◌+◌, [], ◌∷◌, false, true, Contains, sym, inl, inr, refl, arith}
use Rattle.classes.specs.Classes.{merge}
use Rattle.graphs.specs.Graphs.{EdgeGraph}
use Rattle.convex_peeling.specs.Polyhedral.{IsThreeConnected}
use Rattle.conn_parts.specs.GraphLists.{graph_lists}
use Rattle.embed_witnesses.specs.Contractible.{IsContractibleEdge}
use Rattle.embed_witnesses.proofs.ThreeLinked.{in_two, three_linked}

-- the vertex directly above the lesser end is passed over, and no edge is found
next_vertex_passed_over : (graph : EdgeGraph) (u : ℕ) → IsContractibleEdge graph u (u + 1) → ¬ ((v : ℕ) → ¬ IsContractibleEdge graph u v)
next_vertex_passed_over graph u here none = none (u + 1) here

-- a ring of four vertices
abbrev ring : EdgeGraph
ring = record { n = 4; edges = (0, 1) ∷ (0, 3) ∷ (1, 2) ∷ (2, 3) ∷ [] }

off : (z : ℕ) → 0 ≢ z → 2 ≢ z → ¬ Contains (0 ∷ 2 ∷ []) z
off z a b h = elim (in_two 0 2 z h) [ inl e ↦ a (sym e) | inr e ↦ b (sym e) ]

-- pairs that part others are not looked for
separating_pair : ¬ IsThreeConnected (graph_lists ring)
unfolding merge
separating_pair w =
    let h : false ≡ true = three_linked (graph_lists ring) w 0 2 1 3 (0, (omega arith, (0, omega arith, refl))) (0, (omega arith, (0, omega arith, refl))) (off 1 (λ e. omega (arith, e)) (λ e. omega (arith, e))) (off 3 (λ e. omega (arith, e)) (λ e. omega (arith, e))) in
    cc
