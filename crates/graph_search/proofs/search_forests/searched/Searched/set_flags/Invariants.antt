use Rattle.std.proofs.Common.{◌≡◌, length}
use Rattle.graph_search.specs.Flags.{TellSeparated}
use Rattle.graph_search.proofs.search_forests.searched.Searched.set_flags.Given as goal

abbrev pub invariant-loop-v : goal.invariant-loop-v
invariant-loop-v l = record {
  count : length l.flags ≡ length l.self.lists.now;
  told : TellSeparated l.self.lists.now l.self.number.now l.self.parent.now l.self.low.now l.flags l.v;
}
