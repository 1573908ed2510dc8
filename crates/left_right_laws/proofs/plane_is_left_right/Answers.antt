use Rattle.left_right_laws.proofs.Forks.{plane_is_left_right}
use Rattle.left_right_laws.proofs.plane_is_left_right.Goals as goal

pub returns : goal.returns
returns c = plane_is_left_right
