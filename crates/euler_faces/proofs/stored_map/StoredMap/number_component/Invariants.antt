use Rattle.std.proofs.Common.{◌≡◌, ◌-◌, ◌≤◌, true, length}
use Rattle.map_lists.specs.Cuts.{cut}
use Rattle.euler_faces.specs.Numbers.{mark_at}
use Rattle.euler_faces.specs.Search.{AreQueued, IsSearching, IsNumbered, marks_of, None_open}
use Rattle.euler_faces.proofs.stored_map.StoredMap.number_component.Given as goal

abbrev pub invariant-loop-next : goal.invariant-loop-next
invariant-loop-next l = record {
  queued : AreQueued l.numbers l.queue l.filled (length l.self.ends.now);
  order : l.next ≤ l.filled;
  begun : mark_at (marks_of l.numbers) l.fn.start ≡ true;
  search : IsSearching (cut 0 l.self.ends.now l.self.entries.now) (marks_of l.fn.numbers) (marks_of l.numbers) l.queue l.next l.filled l.fn.start None_open;
  numbered : IsNumbered l.fn.numbers l.numbers l.number;
}

abbrev pub decreases-loop-next : goal.decreases-loop-next
decreases-loop-next l = length l.self.ends.now - l.next
