use Rattle.plane_drawings.proofs.Done.{swept_at}
use Rattle.plane_drawings.proofs.plane_sweep.sweep_is_kept.Goals as goal

pub returns : goal.returns
returns c = λ n at lines status order lines_in sweep. swept_at n at order lines lines_in status sweep
