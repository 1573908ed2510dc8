use Rattle.std.proofs.Common.{◌≡◌, map}
use Rattle.schnyder_grid.proofs.order_of_wood.turned.Given as goal

abbrev pub invariant-loop-v : goal.invariant-loop-v
invariant-loop-v l = l.taken.items ≡ map (λ v. v.now) l.yielded
