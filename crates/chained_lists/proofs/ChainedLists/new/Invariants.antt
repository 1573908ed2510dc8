use Rattle.std.proofs.Common.{◌≡◌, ◌+◌, length}
use Rattle.chained_lists.proofs.Links.{AreSingle}
use Rattle.chained_lists.proofs.ChainedLists.new.Given as goal

abbrev pub invariant-loop-p : goal.invariant-loop-p
invariant-loop-p l = record {
  long : length l.first.items ≡ l.p;
  single : AreSingle l.numbers 65535 l.first.items;
}

abbrev pub invariant-loop : goal.invariant-loop
invariant-loop l = record {
  long : length l.first.items ≡ l.numbers + l.counter;
  single : AreSingle l.numbers 65535 l.first.items;
}
