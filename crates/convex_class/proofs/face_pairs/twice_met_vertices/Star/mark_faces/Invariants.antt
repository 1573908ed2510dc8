use Rattle.std.proofs.Common.{length, slice_index}
use Rattle.euler_faces.specs.FaceWalks.{ids_of}
use Rattle.convex_class.specs.Clear.{IsOff}
use Rattle.convex_class.specs.Stamps.{AreStamped}
use Rattle.convex_class.proofs.face_pairs.twice_met_vertices.Star.mark_faces.Given as goal

abbrev pub invariant-loop-d : goal.invariant-loop-d
invariant-loop-d l = AreStamped l.self.u l.d-index (λ i. IsOff l.self.uncut.map.now l.self.uncut.faces.now (length l.self.ring.now) l.self.u (slice_index (ids_of l.self.ring.now) i)) l.fn.marks l.fn.best l.marks l.best
