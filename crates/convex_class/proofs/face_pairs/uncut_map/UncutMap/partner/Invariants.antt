use Rattle.std.proofs.Common.{◌≢◌, ℕ}
use Rattle.convex_class.specs.Passing.{IsUnused}
use Rattle.convex_class.proofs.PairMarks.{IsMarkingRound, left_of_round}
use Rattle.convex_class.proofs.face_pairs.uncut_map.UncutMap.partner.Given as goal

abbrev pub invariant-round : goal.invariant-round
invariant-round l = record {
  round : IsMarkingRound l.self.map.now l.fn.u.0 l.d.0 l.marks l.best;
  unused : (x : ℕ) → x ≢ l.fn.u.0 → IsUnused l.fn.marks x → IsUnused l.marks x;
}

abbrev pub decreases-round : goal.decreases-round
decreases-round l = left_of_round l.self.map.now l.fn.u.0 l.d.0
