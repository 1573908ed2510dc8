use Rattle.plane_laws.proofs.OuterFaces.{outer_leaf_law}
use Rattle.plane_laws.proofs.map_edits.outer_leaf.Goals as goal

pub returns : goal.returns
returns c = outer_leaf_law
