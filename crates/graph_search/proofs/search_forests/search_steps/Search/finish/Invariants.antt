use Rattle.std.proofs.Common.{◌≡◌, ℕ, ◌<◌, ◌≤◌, length, get_or}
use Rattle.graph_search.specs.UnderWay.{KeepsNumbers}
use Rattle.graph_search.proofs.search_forests.search_steps.Search.finish.Given as goal

abbrev pub invariant-loop-v : goal.invariant-loop-v
invariant-loop-v l = record {
  lists : l.self.lists.now ≡ l.fn.self.lists.now;
  keeps : KeepsNumbers l.fn.self.number.items l.self.number.items;
  none : length l.self.lists.now ≤ l.self.current;
  seen : (u : ℕ) → u < l.v → get_or l.self.number.items u 0 < length l.self.lists.now;
}
