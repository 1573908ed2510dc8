use Rattle.convex_counts.proofs.FaceWoodsSides.{outer_sides_at}
use Rattle.convex_counts.proofs.face_woods.outer_sides.Goals as goal

pub returns : goal.returns
returns c = λ steps n whole some. outer_sides_at steps n whole some
