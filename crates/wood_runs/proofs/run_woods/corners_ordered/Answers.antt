use Rattle.wood_runs.proofs.Corners.{corners_ordered}
use Rattle.wood_runs.proofs.run_woods.corners_ordered.Goals as goal

pub returns : goal.returns
returns c = corners_ordered
