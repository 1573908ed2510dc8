use Rattle.fpp_shift.proofs.ShiftLemmas.{drawing}
use Rattle.fpp_shift.proofs.shift_drawings.shift_points_draw.Goals as goal

pub returns : goal.returns
returns c = λ lists base at points triangulation dart order h. drawing lists base at points triangulation dart order h c.counterclockwise_run_draws.ensures
