use Rattle.rect_runs.proofs.Rounds.{once_round}
use Rattle.rect_runs.proofs.rect_ends.once_round.Goals as goal

pub returns : goal.returns
returns c = once_round
