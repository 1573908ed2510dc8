use Rattle.std.proofs.Common.{◌-◌, ◌≡◌, map, subst, sym, ap, ◌∙◌, arith}
use Rattle.std.proofs.lemmas.Result.{IfOk-weaker}
use Rattle.graphs.specs.Graphs.{EdgeGraph, AreEdges, edge_of}
use Rattle.embed_contraction.specs.Contracted.{contracted_edge, IsContraction}
use Rattle.embed_witnesses.specs.ContractedEdges.{contraction}
use Rattle.embed_witnesses.proofs.ContractedLemmas.{AreEdges-filter, IsContraction-contraction, contraction-from, edge_within}
use Rattle.embed_witnesses.proofs.contracted_graphs.contracted.contract.Goals as goal

pub of_edges-requires-clause-edges : goal.of_edges-requires-clause-edges
of_edges-requires-clause-edges c =
    let e = ap (map edge_of) c.deref.ensures.value ∙ c.in_ok-edges.ensures in
    subst (AreEdges (c.n-n.result - 1)) (sym e) (AreEdges-filter (c.n-n.result - 1) (λ e. contracted_edge c.args.graph.now c.args.e.a.0 c.args.e.b.0 e.0 e.1))

pub returns : goal.returns
returns c =
    let graph = c.args.graph.now in
    let a = c.args.e.a.0 in
    let b = c.args.e.b.0 in
    let l = edge_within graph c.n-n.ensures.known.edges a b c.requires.edge in
    let e = ap (map edge_of) c.deref.ensures.value ∙ c.in_ok-edges.ensures in
    let count = c.n-n.ensures.count in
    let made : EdgeGraph = record { n = c.n-n.result - 1; edges = map edge_of c.deref.result.now } in
    let is : made ≡ contraction graph a b = contraction-from graph c.n-n.result a b (map edge_of c.deref.result.now) count e in
    record {
      graph = IfOk-weaker c.of_edges.result (λ g. g ≡ record { n = c.n-n.result - 1; edges = map edge_of c.deref.result.now }) (λ small. small ≡ contraction graph a b) (λ small g. g ∙ is) c.of_edges.ensures;
      meaning = IfOk-weaker c.of_edges.result (λ g. g ≡ record { n = c.n-n.result - 1; edges = map edge_of c.deref.result.now }) (λ small. IsContraction graph small a b) (λ small g. subst (λ s. IsContraction graph s a b) (sym (g ∙ is)) (IsContraction-contraction graph a b (omega (arith, l)))) c.of_edges.ensures;
    }
