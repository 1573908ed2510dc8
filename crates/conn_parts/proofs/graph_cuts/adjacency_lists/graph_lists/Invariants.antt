use Rattle.std.proofs.Common.{◌≡◌}
use Rattle.conn_parts.specs.GraphLists.{lists_below}
use Rattle.conn_parts.proofs.graph_cuts.adjacency_lists.graph_lists.Given as goal

abbrev pub invariant-loop-v : goal.invariant-loop-v
invariant-loop-v l = l.lists ≡ lists_below l.graph l.v
