use Rattle.plane_laws.proofs.WithEdge.{with_edge_after_law}
use Rattle.plane_laws.proofs.map_edits.with_edge_after.Goals as goal

pub returns : goal.returns
returns c = with_edge_after_law
