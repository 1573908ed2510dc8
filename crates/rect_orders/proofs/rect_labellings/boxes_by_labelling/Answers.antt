use Rattle.rect_orders.proofs.ByLabels.{boxes_by_labelling}
use Rattle.rect_orders.proofs.rect_labellings.boxes_by_labelling.Goals as goal

pub returns : goal.returns
returns c = boxes_by_labelling
