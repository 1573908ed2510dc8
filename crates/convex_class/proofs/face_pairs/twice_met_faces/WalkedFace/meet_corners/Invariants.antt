use Rattle.std.proofs.Common.{ℕ, ◌<◌}
use Rattle.convex_class.specs.Clear.{IsOffPlace}
use Rattle.convex_class.specs.Meetings.{IsMet}
use Rattle.convex_class.proofs.face_pairs.twice_met_faces.WalkedFace.meet_corners.Given as goal

abbrev pub invariant-loop-i : goal.invariant-loop-i
invariant-loop-i l = IsMet l.self.f (λ z x y. (i : ℕ) × (i < l.i) × IsOffPlace l.self.uncut.map.now l.self.uncut.faces.now l.self.f i z x y) l.fn.met l.fn.best l.met l.best
