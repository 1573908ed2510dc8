-- A contracted graph that is three-connected shows that no third vertex separates the others together with the ends of the edge.
use Rattle.std.proofs.Common.{◌≡◌, ◌≢◌, ◌&&◌, ◌||◌, ℕ, ◌<◌, ◌≤◌, true, not, eqb, List, [], ◌∷◌, length, Contains, sym, ap, ◌∙◌, subst, arith}
use Rattle.std.proofs.lemmas.Bool.{and_parts, or_cases, eqb-true}
use Rattle.classes.specs.Classes.{same_class}
use Rattle.map_lists.specs.Lists.{Lists}
use Rattle.map_theory.specs.Maps.{IsSimpleMap, component_classes}
use Rattle.graphs.specs.Graphs.{EdgeGraph, IsGraph, has_edge}
use Rattle.convex_peeling.specs.Polyhedral.{IsThreeConnected}
use Rattle.conn_parts.specs.GraphLists.{graph_lists}
use Rattle.conn_parts.proofs.GraphLemmas.{length-graph_lists, dart_edge, edge_dart}
use Rattle.embed_contraction.specs.Linked.{HasEdge, IsLinkedWithout, without_vertices}
use Rattle.embed_contraction.proofs.Parts.{closed_part, part-chained, part-itself, rest-simple, rest-length, rest-old, rest-together}
use Rattle.embed_contraction.proofs.Growth.{not_two, not_three}
use Rattle.embed_contraction.specs.Contracted.{before_left}
use Rattle.embed_witnesses.specs.ContractedEdges.{contraction}
use Rattle.embed_witnesses.proofs.ContractedLemmas.{IsContraction-contraction, edge_within}
use Rattle.embed_witnesses.specs.Contractible.{ContractedExactly}
use Rattle.embed_witnesses.proofs.Avoiding.{HasEdge-connected}
use Rattle.embed_witnesses.proofs.ThreeLinked.{three_linked}
use Rattle.embed_witnesses.proofs.Contracted.{down, before-down, before-not, before-first, before-apart, down-lt, is_small, contracted_three}

module _ (graph : EdgeGraph) (is : IsGraph graph) (a b : ℕ) (a_b : a < b) (joined : has_edge graph a b ≡ true) (five : 5 ≤ graph.n) (three : IsThreeConnected (graph_lists (contraction graph a b))) where
  abbrev L : Lists
  L = graph_lists graph

  abbrev small : EdgeGraph
  small = contraction graph a b

  abbrev S : Lists
  S = graph_lists small

  abbrev to : ℕ → ℕ
  to v = before_left b v

  is' : IsGraph small
  is' = is_small graph is a b a_b joined

  -- an edge off the lesser end was one
  was : (p q : ℕ) → p ≢ a → q ≢ a → has_edge small p q ≡ true → has_edge graph (to p) (to q) ≡ true
  was p q np nq e =
      let l = edge_within small is'.edges p q e in
      let X = has_edge graph (to p) (to q) in
      let Y = eqb p a && has_edge graph b (to q) in
      let Z = eqb q a && has_edge graph (to p) b in
      let t = (and_parts (not (eqb p q)) (X || Y || Z) (sym ((IsContraction-contraction graph a b (omega arith)).edges p q l.0 l.1) ∙ e)).1 in
      grind (arith, or_cases, eqb-true, and_parts, eqb, has_edge, to)

  linked_back : (simple : IsSimpleMap L) (w : ℕ) → w < graph.n → w ≢ a → w ≢ b → IsLinkedWithout L (a ∷ b ∷ w ∷ [])
  linked_back simple w lw wa wb s t hs ht os ot =
      let D : ℕ → ℕ = down a b in
      let in_b = (edge_within graph is.edges a b joined).1 in
      let n = length-graph_lists graph is in
      let m = length-graph_lists small is' in
      let ws : List ℕ = a ∷ b ∷ w ∷ [] in
      let vs : List ℕ = a ∷ D w ∷ [] in
      let G = without_vertices ws L in
      let in_L : (z : ℕ) → HasEdge L z → z < graph.n = λ z h. let l = h.1.0 in omega arith in
      let below : (z : ℕ) → z < graph.n → D z < length S = λ z l. let k = down-lt a b z graph.n a_b in_b l in omega arith in
      let live : (z : ℕ) → z < graph.n → HasEdge S (D z) = λ z l. HasEdge-connected S three.simple three.connected (omega arith) (D z) (below z l) in
      let not_b : (z : ℕ) → ¬ Contains ws z → z ≢ b = λ z o e. o (1, omega arith, sym e) in
      let same_number : (z : ℕ) → ¬ Contains ws z → to (D z) ≡ z = λ z o. before-down a b z a_b (not_b z o) in
      let to_a : to a ≡ a = before-first a b a_b in
      let off : (z : ℕ) → ¬ Contains ws z → ¬ Contains vs (D z) = λ z o. not_two a (D w) (D z)
      (λ e. o (0, omega arith, sym (sym (same_number z o) ∙ (ap to e ∙ to_a))))
      (λ e. o (2, omega arith, sym (sym (same_number z o) ∙ (ap to e ∙ before-down a b w a_b wb)))) in
      let off_to : (z : ℕ) → ¬ Contains vs z → ¬ Contains ws (to z) = λ z o. not_three a b w (to z)
      (λ e. o (0, omega arith, before-apart b a z (to_a ∙ sym e)))
      (before-not b z)
      (λ e. o (1, omega arith, before-apart b (D w) z (before-down a b w a_b wb ∙ sym e))) in
      let same = three_linked S three a (D w) (D s) (D t) (live s (in_L s hs)) (live t (in_L t ht)) (off s os) (off t ot) in
      let len = rest-length S three.simple vs in
      let below_s = below s (in_L s hs) in
      let below_t = below t (in_L t ht) in
      subst (λ x. same_class (component_classes G) s x ≡ true) (same_number t ot)
      (closed_part (without_vertices vs S) (rest-simple S three.simple vs) (λ z. same_class (component_classes G) s (to z)) (λ p q d h.
      let o = rest-old S three.simple vs p q d in
      let dart = edge_dart graph is (to p) (to q) (was p q (λ e. o.1 (0, omega arith, sym e)) (λ e. o.2 (0, omega arith, sym e)) (dart_edge small is' p q o.0)) in
      part-chained G s (to p) (to q) h (rest-together L simple ws (to p) (to q) dart (off_to p o.1) (off_to q o.2)))
      (D s) (D t) (omega arith) (omega arith) same (subst (λ x. same_class (component_classes G) s x ≡ true) (sym (same_number s os)) (part-itself G s)))

-- THE LAW: exactly where no third vertex parts
pub contracted_exactly : ContractedExactly
contracted_exactly graph a b is five three a_b joined = grind (arith, small, edge_dart, linked_back, length-graph_lists, contracted_three)
