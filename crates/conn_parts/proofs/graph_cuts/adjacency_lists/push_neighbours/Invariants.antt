use Rattle.std.proofs.Common.{◌≡◌, ◌++◌, ◌∷◌, []}
use Rattle.conn_parts.specs.GraphLists.{neighbours_below}
use Rattle.conn_parts.proofs.graph_cuts.adjacency_lists.push_neighbours.Given as goal

abbrev pub invariant-loop-u : goal.invariant-loop-u
invariant-loop-u l = l.lists ≡ l.fn.lists ++ neighbours_below l.graph l.v l.u ∷ []
