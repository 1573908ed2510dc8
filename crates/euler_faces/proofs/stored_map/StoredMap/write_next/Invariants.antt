use Rattle.std.proofs.Common.{◌≡◌, ℕ, ◌+◌, ◌<◌, length, get_or}
use Rattle.euler_faces.proofs.NextLemmas.{AreNextTo}
use Rattle.euler_faces.proofs.stored_map.StoredMap.write_next.Given as goal

abbrev pub invariant-loop-d : goal.invariant-loop-d
invariant-loop-d l = record {
  long : length l.next ≡ length l.self.entries.now;
  next : (d : ℕ) → d < l.d → get_or l.next d 0 ≡ d + 1;
}

abbrev pub invariant-loop-v : goal.invariant-loop-v
invariant-loop-v l = record {
  long : length l.next ≡ length l.self.entries.now;
  next : AreNextTo l.self.ends.now l.next l.start l.v;
}
