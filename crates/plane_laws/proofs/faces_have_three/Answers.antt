use Rattle.plane_laws.proofs.Triangles.{faces_have_three}
use Rattle.plane_laws.proofs.faces_have_three.Goals as goal

pub returns : goal.returns
returns c = faces_have_three
