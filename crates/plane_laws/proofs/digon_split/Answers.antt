use Rattle.plane_laws.proofs.DigonSplit.{digon_split}
use Rattle.plane_laws.proofs.digon_split.Goals as goal

pub returns : goal.returns
returns c = digon_split
