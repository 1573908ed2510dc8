-- A graph as lists: for each vertex its neighbours, in rising order.
use Rattle.std.specs.Prelude.{ℕ, List, map}
use Rattle.std.specs.List.{filter, range_with_len}
use Rattle.map_lists.specs.Lists.{Lists}
use Rattle.graphs.specs.Graphs.{EdgeGraph, has_edge}

-- those of the first n vertices that are neighbours of v
abbrev pub neighbours_below : EdgeGraph → ℕ → ℕ → List ℕ
neighbours_below graph v n = filter (λ u. has_edge graph v u) (range_with_len 0 n)

-- the lists of the first n vertices
abbrev pub lists_below : EdgeGraph → ℕ → Lists
lists_below graph n = map (λ v. neighbours_below graph v graph.n) (range_with_len 0 n)

-- a graph as lists: each vertex with its neighbours, rising
abbrev pub graph_lists : EdgeGraph → Lists
graph_lists graph = lists_below graph graph.n
