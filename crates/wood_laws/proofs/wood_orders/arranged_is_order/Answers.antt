use Rattle.wood_laws.proofs.Ordered.{arranged_is_order}
use Rattle.wood_laws.proofs.wood_orders.arranged_is_order.Goals as goal

pub returns : goal.returns
returns c = arranged_is_order
