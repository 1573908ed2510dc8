use Rattle.rect_runs.proofs.RectEndsFrame.{frame_ends}
use Rattle.rect_runs.proofs.rect_ends.frame_ends.Goals as goal

pub returns : goal.returns
returns c = frame_ends
