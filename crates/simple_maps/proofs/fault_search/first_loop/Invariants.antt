use Rattle.simple_maps.specs.Faults.{own_number}
use Rattle.simple_maps.proofs.FaultLemmas.{NoneBelow}
use Rattle.simple_maps.proofs.fault_search.first_loop.Given as goal

abbrev pub invariant-loop-v : goal.invariant-loop-v
invariant-loop-v l = NoneBelow own_number l.lists l.v
