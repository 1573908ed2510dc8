use Rattle.left_right_laws.proofs.Forks.{fork_order}
use Rattle.left_right_laws.proofs.fork_order.Goals as goal

pub returns : goal.returns
returns c = fork_order
