use Rattle.rect_orders.proofs.RunOfMap.{rect_order_is_run}
use Rattle.rect_orders.proofs.rect_order_is_run.Goals as goal

pub returns : goal.returns
returns c = rect_order_is_run
