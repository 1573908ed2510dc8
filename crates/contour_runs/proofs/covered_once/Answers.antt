use Rattle.contour_runs.proofs.Stages.{covered_once}
use Rattle.contour_runs.proofs.covered_once.Goals as goal

pub returns : goal.returns
returns c = covered_once
