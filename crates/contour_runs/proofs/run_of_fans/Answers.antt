use Rattle.contour_runs.proofs.Faces.{run_of_fans}
use Rattle.contour_runs.proofs.run_of_fans.Goals as goal

pub returns : goal.returns
returns c = run_of_fans
