use Rattle.std.proofs.Common.{◌≡◌, map, take, pos}
use Rattle.visibility.proofs.bar_ends.coordinates.Given as goal

abbrev pub invariant-loop-i : goal.invariant-loop-i
invariant-loop-i l = l.made ≡ map pos (take l.i l.numbers)
