use Rattle.std.proofs.Common.{take}
use Rattle.euler_faces.specs.FaceWalks.{ids_of}
use Rattle.pigale_c.specs.Walked.{HasTails}
use Rattle.pigale_c.proofs.face_walks.tails_along.Given as goal

abbrev pub invariant-loop-d : goal.invariant-loop-d
invariant-loop-d l = HasTails l.map (take l.d-index (ids_of l.walk)) l.tails.items
