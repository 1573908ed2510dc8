use Rattle.plane_laws.proofs.EdgeRemoved.{edge_removed}
use Rattle.plane_laws.proofs.edge_removed.Goals as goal

pub returns : goal.returns
returns c = edge_removed
