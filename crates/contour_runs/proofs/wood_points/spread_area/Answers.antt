use Rattle.contour_runs.proofs.Areas.{spread_area}
use Rattle.contour_runs.proofs.wood_points.spread_area.Goals as goal

pub returns : goal.returns
returns c = spread_area
