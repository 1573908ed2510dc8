use Rattle.std.proofs.Common.{ℕ, ◌<◌, slice_index}
use Rattle.euler_faces.specs.FaceWalks.{ids_of}
use Rattle.convex_class.specs.Clear.{IsSide}
use Rattle.convex_class.specs.Meetings.{IsMet}
use Rattle.convex_class.proofs.face_pairs.twice_met_faces.WalkedFace.least.Given as goal

abbrev pub invariant-loop-d : goal.invariant-loop-d
invariant-loop-d l = IsMet l.self.f (λ z x y. (i : ℕ) × (i < l.d-index) × IsSide l.self.uncut.map.now l.self.uncut.faces.now (slice_index (ids_of l.self.walk.now) i) z x y) l.fn.met l.fn.best l.met l.best
