-- The graph of edges in order is that of the array.
use Rattle.std.proofs.Common.{List, sym, ap, ◌∙◌, subst, arith}
use Rattle.graphs.specs.Graphs.{EdgeGraph}
use Rattle.pigale_c.specs.EdgeFailures.{IsGraphOf}
use Rattle.pigale_c.specs.Embedded.{graph_in}
use Rattle.pigale_c.specs.declared.edges.EdgeEnds.{EdgeEnds}
use Rattle.pigale_c.proofs.EdgeLemmas.{IsGraphOf-rise, IsGraphOf-sorted}
use Rattle.pigale_c.proofs.edges.graph_of.Goals as goal

pub returns-then-are_edges-clause-graph : goal.returns-then-are_edges-clause-graph
returns-then-are_edges-clause-graph c =
    let given = c.args.given.now in
    subst (λ (graph : EdgeGraph). IsGraphOf given.n given.edges.now graph) (sym c.in_ok-graph.ensures) (IsGraphOf-rise given.n given.edges.now (omega arith) (c.are_edges.ensures.0 c.if-are_edges.true))

pub returns-clause-graph : goal.returns-clause-graph
returns-clause-graph c =
    let given = c.args.given.now in
    let is = c.in_ok-graph-2.ensures ∙ ap (λ (list : List EdgeEnds). graph_in given.n list) c.deref.ensures.value in
    subst (λ (graph : EdgeGraph). IsGraphOf given.n given.edges.now graph) (sym is)
    (IsGraphOf-sorted given.n given.edges.now c.in_ok-sorted.sorted.items (omega arith) c.in_ok-sorted.ensures.rise c.in_ok-sorted.ensures.sorted)
