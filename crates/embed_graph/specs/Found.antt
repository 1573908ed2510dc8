-- The answer of the left-right test to a graph.
use Rattle.map_lists.specs.Lists.{Lists}
use Rattle.graphs.specs.Graphs.{EdgeGraph}
use Rattle.embed_theorem.specs.Expanded.{IsMapOf}
use Rattle.embed_graph.specs.declared.fast_embeddings.Tested.{Tested}
use Rattle.embed_graph.specs.declared.fast_embeddings.Tested.TheVariants.{Map, NoMap}

-- a map of the graph, or that there is none
abbrev pub IsTested : EdgeGraph → Tested → Type 0
IsTested graph (Map lists) = IsMapOf lists graph
IsTested graph NoMap = (lists : Lists) → ¬ IsMapOf lists graph
