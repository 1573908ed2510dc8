use Rattle.std.proofs.Common.{take}
use Rattle.graph_search.specs.Flags.{HasSeparatedChild}
use Rattle.graph_search.proofs.search_forests.searched.Searched.has_separated.Given as goal

abbrev pub invariant-loop-u : goal.invariant-loop-u
invariant-loop-u l = ¬ HasSeparatedChild l.self.number.now l.self.parent.now l.self.low.now l.v (take l.u-index l.list)
