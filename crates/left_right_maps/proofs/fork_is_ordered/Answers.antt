use Rattle.left_right_maps.proofs.Orders.{fork_is_ordered}
use Rattle.left_right_maps.proofs.fork_is_ordered.Goals as goal

pub returns : goal.returns
returns c = fork_is_ordered
