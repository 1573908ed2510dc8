-- Of each edge the lesser end comes first, and edges that rise are those of a graph.
use Rattle.std.proofs.Common.{List, map, sym, ap, ◌∙◌, subst}
use Rattle.map_lists.specs.declared.items.Ends.{Ends}
use Rattle.graphs.specs.Graphs.{Edge, AreEdges, edge_of}
use Rattle.pigale_c.proofs.EdgeLemmas.{no_edge, lesser_first, AreEdges-rise}
use Rattle.pigale_c.proofs.edges.graph_in_order.Goals as goal

pub stored_edges-requires : goal.stored_edges-requires
stored_edges-requires c = lesser_first c.args.n no_edge c.args.edges.now c.requires.rise

pub of_edges-requires-clause-edges : goal.of_edges-requires-clause-edges
of_edges-requires-clause-edges c =
    subst (λ (edges : List Edge). AreEdges c.args.n edges) (sym (ap (λ (list : List Ends). map edge_of list) c.deref.ensures.value ∙ c.in_ok-list.ensures))
    (AreEdges-rise c.args.n c.args.edges.now c.requires.rise)
