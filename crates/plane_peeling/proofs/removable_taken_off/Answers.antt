use Rattle.plane_peeling.proofs.Steps.{removable_taken_off}
use Rattle.plane_peeling.proofs.removable_taken_off.Goals as goal

pub returns : goal.returns
returns c = removable_taken_off
