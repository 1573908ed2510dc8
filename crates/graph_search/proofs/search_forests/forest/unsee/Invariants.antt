use Rattle.std.proofs.Common.{◌≡◌, take, replicate}
use Rattle.graph_search.proofs.search_forests.forest.unsee.Given as goal

abbrev pub invariant-loop-v : goal.invariant-loop-v
invariant-loop-v l = record {
  numbers : take l.v l.number ≡ replicate l.v l.n;
  lasts : take l.v l.last ≡ replicate l.v 0;
  lows : take l.v l.low ≡ replicate l.v l.n;
  cursors : take l.v l.cursor ≡ replicate l.v 0;
}
