use Rattle.plane_laws.proofs.EdgeAdded.{edge_between}
use Rattle.plane_laws.proofs.map_edits.edge_between.Goals as goal

pub returns : goal.returns
returns c = edge_between
