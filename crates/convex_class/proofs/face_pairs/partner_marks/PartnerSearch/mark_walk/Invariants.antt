use Rattle.std.proofs.Common.{◌≢◌, ℕ, Contains}
use Rattle.euler_faces.specs.FaceWalks.{ids_of}
use Rattle.vertex_rounds.proofs.RoundLemmas.{LeavesFrom, place_at}
use Rattle.convex_class.specs.Passing.{AreMarksOf, IsUnused}
use Rattle.convex_class.proofs.WalkMarks.{AreMarksUnderWay}
use Rattle.convex_class.proofs.face_pairs.partner_marks.PartnerSearch.mark_walk.Given as goal

abbrev pub invariant-loop-d : goal.invariant-loop-d
invariant-loop-d l = record {
  marked : (d : ℕ) → LeavesFrom l.self.uncut.map.now l.self.u.0 d → Contains (ids_of l.walk) d → AreMarksOf l.self.uncut.map.now.lists l.self.u.0 (place_at l.self.uncut.map.now l.self.u.0 d) l.fn.marks l.fn.best → AreMarksUnderWay l.self.uncut.map.now l.self.u.0 (ids_of l.walk) (place_at l.self.uncut.map.now l.self.u.0 d) l.d-index l.marks l.best;
  unused : (x : ℕ) → x ≢ l.self.u.0 → IsUnused l.fn.marks x → IsUnused l.marks x;
}
