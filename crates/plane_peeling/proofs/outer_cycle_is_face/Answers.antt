use Rattle.plane_peeling.proofs.BaseFaces.{outer_cycle_is_face}
use Rattle.plane_peeling.proofs.outer_cycle_is_face.Goals as goal

pub returns : goal.returns
returns c = outer_cycle_is_face
