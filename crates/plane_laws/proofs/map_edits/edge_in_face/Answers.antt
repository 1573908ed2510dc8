use Rattle.plane_laws.proofs.EdgeAdded.{edge_in_face}
use Rattle.plane_laws.proofs.map_edits.edge_in_face.Goals as goal

pub returns : goal.returns
returns c = edge_in_face
