-- Up to `end` there are so many records, and the scanner is between two.
use Rattle.std.proofs.Common.{◌≡◌, ◌-◌, [], length}
use Rattle.planar_code.specs.Whole.{IsUpTo}
use Rattle.planar_code.proofs.whole_input.last_cut.Given as goal

abbrev pub invariant-loop-end : goal.invariant-loop-end
invariant-loop-end l = record {
  upto : IsUpTo l.bytes l.end l.records;
  between : l.scanner.bytes ≡ [];
}

abbrev pub decreases-loop-end : goal.decreases-loop-end
decreases-loop-end l = length l.bytes - l.end
