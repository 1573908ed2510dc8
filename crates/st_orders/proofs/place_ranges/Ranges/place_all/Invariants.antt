use Rattle.st_orders.specs.Placing.{ArePlacedBelow}
use Rattle.st_orders.proofs.place_ranges.Ranges.place_all.Given as goal

abbrev pub invariant-loop-k : goal.invariant-loop-k
invariant-loop-k l = ArePlacedBelow l.search.lists.now l.search.forest.now l.search.low.now l.self l.k
