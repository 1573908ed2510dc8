use Rattle.contour_runs.proofs.Differences.{differences_kept}
use Rattle.contour_runs.proofs.wood_points.differences_kept.Goals as goal

pub returns : goal.returns
returns c = differences_kept
