use Rattle.std.proofs.Common.{◌≡◌, take, map}
use Rattle.graphs.specs.Graphs.{edge_of}
use Rattle.pigale_c.specs.EdgeLists.{edge_at}
use Rattle.pigale_c.proofs.edges.stored_edges.Given as goal

abbrev pub invariant-loop-edge : goal.invariant-loop-edge
invariant-loop-edge l = map edge_of l.list.items ≡ map edge_at (take l.edge-index l.edges)
