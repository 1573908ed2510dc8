use Rattle.left_right_maps.proofs.Forests.{planar_by_left_right}
use Rattle.left_right_maps.proofs.planar_by_left_right.Goals as goal

pub returns : goal.returns
returns c = planar_by_left_right
