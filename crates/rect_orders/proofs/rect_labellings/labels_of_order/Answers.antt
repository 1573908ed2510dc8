use Rattle.rect_orders.proofs.Frame.{labels_of_order}
use Rattle.rect_orders.proofs.rect_labellings.labels_of_order.Goals as goal

pub returns : goal.returns
returns c = labels_of_order
