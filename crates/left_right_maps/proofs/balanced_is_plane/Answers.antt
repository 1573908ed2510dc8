use Rattle.left_right_maps.proofs.RootedPlane.{balanced_is_plane}
use Rattle.left_right_maps.proofs.balanced_is_plane.Goals as goal

pub returns : goal.returns
returns c = balanced_is_plane
