use Rattle.std.proofs.Common.{take}
use Rattle.pigale_c.specs.Walked.{AreTails}
use Rattle.pigale_c.proofs.face_walks.tails_of.Given as goal

abbrev pub invariant-loop-f : goal.invariant-loop-f
invariant-loop-f l = AreTails l.map (take l.f l.found) l.rows
