use Rattle.plane_laws.proofs.WithEdge.{with_edge}
use Rattle.plane_laws.proofs.map_edits.with_edge.Goals as goal

pub returns : goal.returns
returns c = with_edge
