use Rattle.plane_peeling.proofs.Ends.{nothing_taken_off}
use Rattle.plane_peeling.proofs.nothing_taken_off.Goals as goal

pub returns : goal.returns
returns c = nothing_taken_off
