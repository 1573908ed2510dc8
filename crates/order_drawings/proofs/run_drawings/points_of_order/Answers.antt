use Rattle.order_drawings.proofs.RunLemmas.{points_of_order}
use Rattle.order_drawings.proofs.run_drawings.points_of_order.Goals as goal

pub returns : goal.returns
returns c = points_of_order
