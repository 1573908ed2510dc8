use Rattle.contour_runs.proofs.Stages.{faces_made-run}
use Rattle.contour_runs.proofs.face_count.Goals as goal

pub returns : goal.returns
returns c = faces_made-run
