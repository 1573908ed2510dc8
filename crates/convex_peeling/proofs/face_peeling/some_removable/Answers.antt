use Rattle.convex_peeling.proofs.Choices.{some_removable_law}
use Rattle.convex_peeling.proofs.face_peeling.some_removable.Goals as goal

pub returns : goal.returns
returns c = some_removable_law
