use Rattle.convex_counts.proofs.FaceWoodsSides.{corners_meet_at}
use Rattle.convex_counts.proofs.face_woods.corners_meet.Goals as goal

pub returns : goal.returns
returns c = λ steps n k i x y z whole l d e. corners_meet_at steps n whole k i x y z l d e
