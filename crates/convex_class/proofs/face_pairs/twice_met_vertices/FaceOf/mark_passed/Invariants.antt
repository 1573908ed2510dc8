use Rattle.std.proofs.Common.{slice_index}
use Rattle.euler_faces.specs.FaceWalks.{ids_of}
use Rattle.convex_class.specs.Clear.{IsOffAt}
use Rattle.convex_class.specs.Stamps.{AreStamped}
use Rattle.convex_class.proofs.face_pairs.twice_met_vertices.FaceOf.mark_passed.Given as goal

abbrev pub invariant-loop-d : goal.invariant-loop-d
invariant-loop-d l = AreStamped l.self.u l.d-index (λ i. IsOffAt l.self.uncut.map.now l.self.u l.self.a (slice_index (ids_of l.walk) i)) l.fn.marks l.fn.best l.marks l.best
