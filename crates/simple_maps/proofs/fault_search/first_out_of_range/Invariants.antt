use Rattle.std.proofs.Common.{length}
use Rattle.simple_maps.specs.Faults.{least_out_of_range}
use Rattle.simple_maps.proofs.FaultLemmas.{NoneBelow}
use Rattle.simple_maps.proofs.fault_search.first_out_of_range.Given as goal

abbrev pub invariant-loop-v : goal.invariant-loop-v
invariant-loop-v l = NoneBelow (least_out_of_range (length l.lists)) l.lists l.v
