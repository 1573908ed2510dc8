use Rattle.convex_faces.specs.Notes.{AreNoted}
use Rattle.convex_faces.proofs.wood.axis_darts.note_all.Given as goal

abbrev pub invariant-loop-id : goal.invariant-loop-id
invariant-loop-id l = AreNoted l.map l.points l.axis l.id l.outs
