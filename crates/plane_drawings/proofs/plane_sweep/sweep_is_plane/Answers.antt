use Rattle.std.proofs.Common.{length, arith}
use Rattle.plane_drawings.specs.PlaneSweepLaw.{point_at}
use Rattle.plane_drawings.proofs.Done.{swept_at, drawing_done}
use Rattle.plane_drawings.proofs.plane_sweep.sweep_is_plane.Goals as goal

pub returns : goal.returns
returns c = λ lists points vertex rank lines status simple ranked lines_of sweep.
    drawing_done lists points vertex rank lines simple ranked lines_of (status (length lists))
    (swept_at (length lists) (point_at points vertex) ranked.in_order lines lines_of.each_line status sweep (length lists) (omega arith))
