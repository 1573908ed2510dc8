use Rattle.std.proofs.Common.{ℕ, ◌<◌, ◌≤◌, length, get_or}
use Rattle.graph_search.specs.UnderWay.{IsLeastFrom}
use Rattle.graph_search.proofs.search_forests.search_steps.Search.unseen_place.Given as goal

abbrev pub invariant-loop-i : goal.invariant-loop-i
invariant-loop-i l = record {
  seen : (k : ℕ) → l.from ≤ k → k < l.i → get_or l.self.number.items (get_or l.list k 0) 0 < length l.self.lists.now;
  least : IsLeastFrom l.list l.self.number.items l.from l.i l.start l.least;
}
