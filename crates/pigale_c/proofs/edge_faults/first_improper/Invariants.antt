use Rattle.std.proofs.Common.{take}
use Rattle.pigale_c.specs.EdgeLists.{AreProper}
use Rattle.pigale_c.proofs.edge_faults.first_improper.Given as goal

abbrev pub invariant-loop-i : goal.invariant-loop-i
invariant-loop-i l = AreProper l.n (take l.i l.edges)
