use Rattle.left_right_maps.proofs.Tour.{tree_has_tour}
use Rattle.left_right_maps.proofs.tree_has_tour.Goals as goal

pub returns : goal.returns
returns c = tree_has_tour
