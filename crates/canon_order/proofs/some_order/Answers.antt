use Rattle.canon_order.proofs.OrderLaws.{some_order}
use Rattle.canon_order.proofs.some_order.Goals as goal

pub returns : goal.returns
returns c = some_order
