-- There is an edge that can be contracted.
use Rattle.std.proofs.Common.{ℕ, ◌≤◌, [], ◌∷◌, sym, ◌∙◌, inl, inr, arith}
use Rattle.std.proofs.lemmas.Bool.{cases_order}
use Rattle.graphs.specs.Graphs.{EdgeGraph, IsGraph}
use Rattle.graphs.proofs.EdgeLemmas.{has_edge-turned}
use Rattle.convex_peeling.specs.Polyhedral.{IsThreeConnected}
use Rattle.conn_parts.specs.GraphLists.{graph_lists}
use Rattle.conn_parts.proofs.GraphLemmas.{dart_edge}
use Rattle.embed_contraction.proofs.Growth.{contractible_edge}
use Rattle.embed_witnesses.specs.Contractible.{IsContractibleEdge}
use Rattle.embed_witnesses.proofs.Avoiding.{HasEdge-connected, linked-fewer}
use Rattle.embed_witnesses.proofs.ThreeLinked.{three_linked, in_three}
use Rattle.embed_witnesses.proofs.Contracted.{contracted_three}

-- THE LAW: a three-connected graph with at least five vertices has such an edge
pub some_contractible : (graph : EdgeGraph) → IsGraph graph → 5 ≤ graph.n → IsThreeConnected (graph_lists graph) → (a : ℕ) × (b : ℕ) × IsContractibleEdge graph a b
some_contractible graph is five three =
    let L = graph_lists graph in
    let edge = HasEdge-connected L three.simple three.connected (omega arith) 0 (omega arith) in
    let c = contractible_edge L 0 edge.0 three.simple (three_linked L three) edge.1 in
    let x = c.0 in
    let y = c.1 in
    let e = dart_edge graph is x y c.2.edge in
    elim (cases_order x y) [
      | inl same ↦ absurd (three.simple.no_loop x y c.2.edge (sym same))
      | inr r ↦ elim r [
        | inl less ↦ (x, y, record { order = less; joined = e; three = contracted_three graph is x y less e three five c.2.linked })
        | inr more ↦ (
          y,
          x,
          record {
            order = more;
            joined = has_edge-turned graph y x ∙ e;
            three = contracted_three graph is y x more (has_edge-turned graph y x ∙ e) three five (λ w h ny nx.
                linked-fewer L three.simple (x ∷ y ∷ w ∷ []) (y ∷ x ∷ w ∷ [])
                (λ z h. elim (in_three y x w z h) [ inl q ↦ (1, omega arith, sym q) | inr r ↦ elim r [ inl q ↦ (0, omega arith, sym q) | inr q ↦ (2, omega arith, sym q) ] ])
                (λ z h. elim (in_three x y w z h) [ inl q ↦ (1, omega arith, sym q) | inr r ↦ elim r [ inl q ↦ (0, omega arith, sym q) | inr q ↦ (2, omega arith, sym q) ] ])
                (c.2.linked w h nx ny));
          },
        )
      ]
    ]
