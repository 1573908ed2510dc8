use Rattle.euler_faces.specs.FaceWalks.{walk_at}
use Rattle.bipolar.specs.FaceArcs.{AreRightFaces}
use Rattle.bipolar.proofs.CutRows.{AreRowsCut}
use Rattle.bipolar.proofs.dual_orders.dual_arcs.face_arcs.Given as goal

abbrev pub invariant-loop-f : goal.invariant-loop-f
invariant-loop-f l = AreRowsCut (λ f row. AreRightFaces l.map l.faces l.rank (walk_at l.faces f) row) l.f l.ends.items l.entries.items
