use Rattle.rect_orders.proofs.Corners.{corners_of_map}
use Rattle.rect_orders.proofs.rect_corners.corners_of_map.Goals as goal

pub returns : goal.returns
returns c = corners_of_map
