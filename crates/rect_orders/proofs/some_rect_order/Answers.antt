use Rattle.rect_orders.proofs.SomeOrder.{some_rect_order}
use Rattle.rect_orders.proofs.some_rect_order.Goals as goal

pub returns : goal.returns
returns c = some_rect_order
