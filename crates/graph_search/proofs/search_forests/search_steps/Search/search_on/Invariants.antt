use Rattle.std.proofs.Common.{◌≡◌}
use Rattle.graph_search.specs.UnderWay.{KeepsNumbers, work_in}
use Rattle.graph_search.proofs.search_forests.search_steps.Search.search_on.Given as goal

abbrev pub invariant-loop-self : goal.invariant-loop-self
invariant-loop-self l = record {
  lists : l.self.lists.now ≡ l.initial.self.lists.now;
  keeps : KeepsNumbers l.initial.self.number.items l.self.number.items;
}

abbrev pub decreases-loop-self : goal.decreases-loop-self
decreases-loop-self l = work_in l.self.number.items l.self.last.items
