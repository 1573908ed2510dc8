use Rattle.std.proofs.Common.{◌≡◌, ◌≤◌, length}
use Rattle.simple_maps.specs.Pass.{AreMutual}
use Rattle.simple_maps.proofs.twin_pass.ListPart.pair.Given as goal

abbrev pub invariant-along : goal.invariant-along
invariant-along l = record {
  count : length l.twins ≡ length l.self.entries.now;
  below : l.bound ≤ l.self.start;
  pairs : AreMutual l.self.entries.now l.tails l.twins l.self.end;
}

abbrev pub decreases-along : goal.decreases-along
decreases-along l = l.bound
