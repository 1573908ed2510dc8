use Rattle.convex_counts.proofs.Found.{some_rising_at}
use Rattle.convex_counts.proofs.face_woods.some_axis_edge.Goals as goal

pub returns : goal.returns
returns c = λ steps n v axis whole some l other. some_rising_at steps n whole some v axis l other
