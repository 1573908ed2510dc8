use Rattle.std.proofs.Common.{◌≡◌, ℕ, sym, subst, ap, ◌∙◌, rules}
use Rattle.graphs.specs.Bits.{edges_of}
use Rattle.embed_graph.specs.Marks.{Marks}
use Rattle.embed_graph.proofs.MarkLemmas.{has_just_edges}
use Rattle.embed_graph.proofs.edge_test.EdgeTest.has_edges.Goals as goal

pub returns : goal.returns
returns c = λ yes.
    let same : c.in_ok-edges.edges.items ≡ c.body-bits.result.now = search rules in
    let n = c.args.graph.now.n in
    has_just_edges c.args.graph.now c.args.lists.now c.in_ok-edges.edges.items c.requires.simple c.requires.vertices
    (c.body-bits.ensures.edges ∙ ap (edges_of n) (sym same))
    (subst (λ (n : ℕ). Marks c.args.lists.now n c.in_ok-edges.edges.items) c.n.ensures.count c.in_ok-edges.ensures)
