use Rattle.rect_runs.proofs.RectEndsEnds.{one_end}
use Rattle.rect_runs.proofs.rect_ends.one_end.Goals as goal

pub returns : goal.returns
returns c = one_end
