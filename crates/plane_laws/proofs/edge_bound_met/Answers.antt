use Rattle.plane_laws.proofs.Triangles.{edge_bound_met}
use Rattle.plane_laws.proofs.edge_bound_met.Goals as goal

pub returns : goal.returns
returns c = edge_bound_met
