use Rattle.canon_order.proofs.LastCycle.{last_cycle}
use Rattle.canon_order.proofs.last_cycle.Goals as goal

pub returns : goal.returns
returns c = last_cycle
