use Rattle.std.proofs.Common.{◌≡◌, take}
use Rattle.drawings.specs.Duals.{greatest}
use Rattle.rect_check.proofs.areas.greatest.Given as goal

abbrev pub invariant-loop-i : goal.invariant-loop-i
invariant-loop-i l = l.best ≡ greatest (take l.i l.list)
