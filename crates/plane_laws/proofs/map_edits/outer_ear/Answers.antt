use Rattle.plane_laws.proofs.OuterFaces.{outer_ear_law}
use Rattle.plane_laws.proofs.map_edits.outer_ear.Goals as goal

pub returns : goal.returns
returns c = outer_ear_law
