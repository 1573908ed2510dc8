use Rattle.conn_parts.proofs.GraphLemmas.{IsSimpleMap-graph_lists}
use Rattle.conn_parts.proofs.graph_cuts.cuts.graph_components.Goals as goal

pub list_components-requires : goal.list_components-requires
list_components-requires c = record { simple = rw c.in_ok-lists.ensures (IsSimpleMap-graph_lists c.args.graph.now c.n-n.ensures.known c.requires) }
