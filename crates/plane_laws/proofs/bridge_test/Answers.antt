use Rattle.plane_laws.proofs.EdgeFaces.{bridge_test}
use Rattle.plane_laws.proofs.bridge_test.Goals as goal

pub returns : goal.returns
returns c = bridge_test
