use Rattle.plane_laws.proofs.CornerSplit.{corner_split}
use Rattle.plane_laws.proofs.corner_split.Goals as goal

pub returns : goal.returns
returns c = corner_split
