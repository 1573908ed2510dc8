use Rattle.plane_peeling.proofs.RemovableVertices.{some_removable}
use Rattle.plane_peeling.proofs.some_removable.Goals as goal

pub returns : goal.returns
returns c = some_removable
