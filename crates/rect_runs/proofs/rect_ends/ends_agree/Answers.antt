use Rattle.rect_runs.proofs.RectEndsEnds.{ends_agree}
use Rattle.rect_runs.proofs.rect_ends.ends_agree.Goals as goal

pub returns : goal.returns
returns c = ends_agree
