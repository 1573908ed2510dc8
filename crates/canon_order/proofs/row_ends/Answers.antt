use Rattle.canon_order.proofs.RowEnds.{row_ends}
use Rattle.canon_order.proofs.row_ends.Goals as goal

pub returns : goal.returns
returns c = row_ends
