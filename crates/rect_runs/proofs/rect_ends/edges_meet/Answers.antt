use Rattle.rect_runs.proofs.Top.{edges_meet}
use Rattle.rect_runs.proofs.rect_ends.edges_meet.Goals as goal

pub returns : goal.returns
returns c = edges_meet
