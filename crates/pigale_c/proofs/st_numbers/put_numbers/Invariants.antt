use Rattle.std.proofs.Common.{◌≡◌, take}
use Rattle.pigale_c.proofs.st_numbers.put_numbers.Given as goal

abbrev pub invariant-loop-i : goal.invariant-loop-i
invariant-loop-i l = take l.i l.to ≡ take l.i l.numbers
