-- The graph of lists, in which the order round a vertex is not looked at.
use Rattle.std.specs.Prelude.{length}
use Rattle.map_lists.specs.Lists.{Lists}
use Rattle.map_theory.specs.Maps.{darts}
use Rattle.graphs.specs.Graphs.{EdgeGraph}

-- it has the vertices of the lists, and an edge for each dart
abbrev pub graph_of : Lists → EdgeGraph
graph_of lists = record { n = length lists; edges = darts lists }
