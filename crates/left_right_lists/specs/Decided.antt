-- Graphs that have a map of genus zero.
use Rattle.map_lists.specs.Lists.{Lists}
use Rattle.graphs.specs.Graphs.{EdgeGraph}
use Rattle.embed_theorem.specs.Expanded.{IsMapOf}

-- a graph has a map of genus zero
abbrev pub HasMap : EdgeGraph → Type 0
HasMap graph = (lists : Lists) × IsMapOf lists graph
