use Rattle.fpp_shift.proofs.Areas.{opened_area}
use Rattle.fpp_shift.proofs.shift_points.opened_area.Goals as goal

pub returns : goal.returns
returns c = opened_area
