use Rattle.std.proofs.Common.{◌<◌, ℕ}
use Rattle.map_theory.specs.Maps.{list_of}
use Rattle.graph_search.specs.Flags.{HasSeparatedChild}
use Rattle.graph_search.proofs.list_cuts.least_cut_vertex.searched_cut_vertex.Given as goal

abbrev pub invariant-loop-v : goal.invariant-loop-v
invariant-loop-v l = (u : ℕ) → u < l.v → ¬ HasSeparatedChild l.forest.number.items l.forest.parent.items l.low u (list_of l.lists u)
