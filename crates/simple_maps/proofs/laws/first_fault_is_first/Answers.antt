use Rattle.simple_maps.proofs.FirstFaults.{first_fault_is_first}
use Rattle.simple_maps.proofs.laws.first_fault_is_first.Goals as goal

pub returns : goal.returns
returns c = first_fault_is_first
