use Rattle.convex_peeling.proofs.TakenOff.{some_taken_off_law}
use Rattle.convex_peeling.proofs.face_peeling.some_taken_off.Goals as goal

pub returns : goal.returns
returns c = some_taken_off_law
