use Rattle.simple_maps.proofs.MarkLemmas.{HasMet}
use Rattle.simple_maps.proofs.fault_search.least_twice.Given as goal

abbrev pub invariant-loop-u : goal.invariant-loop-u
invariant-loop-u l = HasMet l.marks l.mark l.list l.u-index l.twice
