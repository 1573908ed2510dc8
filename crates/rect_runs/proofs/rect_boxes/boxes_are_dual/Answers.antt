use Rattle.rect_runs.proofs.Top.{boxes_are_dual}
use Rattle.rect_runs.proofs.rect_boxes.boxes_are_dual.Goals as goal

pub returns : goal.returns
returns c = boxes_are_dual
