use Rattle.std.proofs.Common.{◌≡◌, ◌≢◌, ◌<◌, ℕ, slice_index}
use Rattle.euler_faces.specs.FaceWalks.{ids_of}
use Rattle.convex_class.specs.Clear.{IsNumber}
use Rattle.convex_class.specs.Meetings.{IsMet}
use Rattle.convex_class.proofs.face_pairs.twice_met_faces.FaceVertex.meet_round.Given as goal

abbrev pub invariant-loop-c : goal.invariant-loop-c
invariant-loop-c l = IsMet l.self.place.face (λ z t h. (i : ℕ) × (i < l.c-index) × (IsNumber l.self.uncut.faces.now (slice_index (ids_of l.ring) i) z × (z ≢ l.self.place.face) × (z ≢ l.self.x) × (z ≢ l.self.y) × (t ≡ l.self.place.tail) × (h ≡ l.self.place.head))) l.fn.met l.fn.best l.met l.best
