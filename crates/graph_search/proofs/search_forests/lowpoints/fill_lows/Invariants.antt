use Rattle.std.proofs.Common.{take}
use Rattle.graph_search.proofs.LowLemmas.{AreLowsFrom, IsLeastNumber}
use Rattle.graph_search.proofs.search_forests.lowpoints.fill_lows.Given as goal

abbrev pub invariant-loop-i : goal.invariant-loop-i
invariant-loop-i l = AreLowsFrom l.lists l.forest.number.items l.forest.last.items l.forest.parent.items l.low l.i

abbrev pub invariant-loop-u : goal.invariant-loop-u
invariant-loop-u l = IsLeastNumber (take l.u-index l.u-items) l.number l.initial.least l.least
