-- The first bytes of the piece have passed.
use Rattle.std.proofs.Common.{◌-◌, length}
use Rattle.planar_code.specs.Scan.{Scans}
use Rattle.planar_code.specs.declared.record_scanner.Scanned.TheVariants.{More}
use Rattle.planar_code.proofs.record_scanner.Scanner.take.Given as goal

abbrev pub invariant-loop-taken : goal.invariant-loop-taken
invariant-loop-taken l = Scans l.fn.self l.piece (More l.taken) l.self

abbrev pub decreases-loop-taken : goal.decreases-loop-taken
decreases-loop-taken l = length l.piece - l.taken
