use Rattle.std.proofs.Common.{take}
use Rattle.schnyder_grid.specs.Arcs.{AreArcs}
use Rattle.schnyder_grid.proofs.order_arcs.put_row.Given as goal

abbrev pub invariant-loop-r : goal.invariant-loop-r
invariant-loop-r l = AreArcs l.wood l.e (take l.r-index l.list) l.row.items
