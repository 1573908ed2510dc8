use Rattle.simple_maps.proofs.FirstFaults.{no_fault_is_simple}
use Rattle.simple_maps.proofs.laws.no_fault_is_simple.Goals as goal

pub returns : goal.returns
returns c = no_fault_is_simple
