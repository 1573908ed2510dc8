use Rattle.plane_laws.proofs.EdgeFaces.{faces_merged}
use Rattle.plane_laws.proofs.faces_merged.Goals as goal

pub returns : goal.returns
returns c = faces_merged
