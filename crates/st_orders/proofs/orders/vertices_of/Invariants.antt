use Rattle.std.proofs.Common.{◌≡◌, take, map}
use Rattle.st_orders.proofs.orders.vertices_of.Given as goal

abbrev pub invariant-loop-x : goal.invariant-loop-x
invariant-loop-x l = map (λ v. v.0) l.vertices ≡ take l.x-index l.numbers
