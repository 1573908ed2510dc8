use Rattle.rect_orders.proofs.Figures.{boxes_are_dual_of_map}
use Rattle.rect_orders.proofs.rect_duals.boxes_are_dual_of_map.Goals as goal

pub returns : goal.returns
returns c = boxes_are_dual_of_map
