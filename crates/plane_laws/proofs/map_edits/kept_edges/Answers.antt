use Rattle.plane_laws.proofs.KeptEdges.{kept_edges}
use Rattle.plane_laws.proofs.map_edits.kept_edges.Goals as goal

pub returns : goal.returns
returns c = kept_edges
