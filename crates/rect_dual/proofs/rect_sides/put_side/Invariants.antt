use Rattle.rect_dual.specs.Sides.{IsWritten}
use Rattle.rect_dual.proofs.rect_sides.put_side.Given as goal

abbrev pub invariant-loop-j : goal.invariant-loop-j
invariant-loop-j l = IsWritten l.initial.sides l.sides l.piece 0 l.j l.side
