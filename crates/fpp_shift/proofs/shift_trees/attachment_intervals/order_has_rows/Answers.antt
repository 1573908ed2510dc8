use Rattle.fpp_shift.proofs.ShiftTreesRowLemmas.{order_has_rows}
use Rattle.fpp_shift.proofs.shift_trees.attachment_intervals.order_has_rows.Goals as goal

pub returns : goal.returns
returns c = order_has_rows c.row_ends.ensures
