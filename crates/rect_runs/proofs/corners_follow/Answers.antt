use Rattle.rect_runs.proofs.Corners.{corners_follow}
use Rattle.rect_runs.proofs.corners_follow.Goals as goal

pub returns : goal.returns
returns c = λ steps k n j h l. corners_follow steps k n j h l
