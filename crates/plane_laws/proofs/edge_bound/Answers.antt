use Rattle.plane_laws.proofs.EdgeBound.{edge_bound}
use Rattle.plane_laws.proofs.edge_bound.Goals as goal

pub returns : goal.returns
returns c = edge_bound
