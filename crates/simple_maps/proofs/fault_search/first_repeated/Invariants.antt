use Rattle.std.proofs.Common.{◌≡◌, ◌+◌, ◌<◌, length, All}
use Rattle.simple_maps.specs.Faults.{least_repeated}
use Rattle.simple_maps.proofs.FaultLemmas.{NoneBelow}
use Rattle.simple_maps.proofs.fault_search.first_repeated.Given as goal

abbrev pub invariant-loop-v : goal.invariant-loop-v
invariant-loop-v l = record {
  none : NoneBelow least_repeated l.lists l.v;
  count : length l.marks.items ≡ length l.lists;
  fresh : All (λ m. m < l.v + 1) l.marks.items;
}
