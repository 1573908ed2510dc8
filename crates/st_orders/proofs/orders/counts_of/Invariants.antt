use Rattle.std.proofs.Common.{◌≡◌, take}
use Rattle.st_orders.proofs.orders.counts_of.Given as goal

abbrev pub invariant-loop-x : goal.invariant-loop-x
invariant-loop-x l = l.counts ≡ take l.x-index l.numbers
