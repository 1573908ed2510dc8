use Rattle.std.proofs.Common.{◌≡◌, ℕ, ◌<◌, ◌≤◌, ◌∷◌, Bool, true, List, length, get_or}
use Rattle.classes.proofs.Classes.{Together}
use Rattle.map_lists.specs.Cuts.{cut}
use Rattle.map_theory.specs.Maps.{component_classes}
use Rattle.euler_faces.specs.Numbers.{mark_at}
use Rattle.euler_faces.specs.Search.{AreQueued, IsSearching, IsNumbered, marks_of}
use Rattle.euler_faces.proofs.stored_map.StoredMap.push_neighbours.Given as goal

abbrev pub invariant-loop-i : goal.invariant-loop-i
invariant-loop-i l = record {
  queued : AreQueued l.numbers l.queue l.filled (length l.self.ends.now);
  grows : l.fn.filled ≤ l.filled;
  numbered : IsNumbered l.fn.numbers l.numbers l.number;
  done : (k : ℕ) → get_or (0 ∷ l.self.ends.now) l.v 0 ≤ k → k < l.i → mark_at (marks_of l.numbers) (get_or l.self.entries.now k 0) ≡ true;
  search : (old : List Bool) (next start : ℕ) → next ≤ l.fn.filled → Together (component_classes (cut 0 l.self.ends.now l.self.entries.now)) start l.v
      → IsSearching (cut 0 l.self.ends.now l.self.entries.now) old (marks_of l.fn.numbers) l.fn.queue next l.fn.filled start (λ x. x ≡ l.v)
      → IsSearching (cut 0 l.self.ends.now l.self.entries.now) old (marks_of l.numbers) l.queue next l.filled start (λ x. x ≡ l.v);
}
