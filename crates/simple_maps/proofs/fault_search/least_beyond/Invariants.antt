use Rattle.std.proofs.Common.{◌≡◌, take, nat_le}
use Rattle.simple_maps.specs.Faults.{least_where}
use Rattle.simple_maps.proofs.fault_search.least_beyond.Given as goal

abbrev pub invariant-loop-u : goal.invariant-loop-u
invariant-loop-u l = l.least ≡ least_where (nat_le l.n) (take l.u-index l.list)
