-- The numbers before byte k have joined the lists, and have not closed all.
use Rattle.std.proofs.Common.{◌-◌, ◌<◌, ◌≤◌, length, take}
use Rattle.planar_code.specs.Open.{Gathers}
use Rattle.planar_code.proofs.number_gathering.narrow_numbers.Given as goal

abbrev pub invariant-bytes : goal.invariant-bytes
invariant-bytes l = record {
  within : l.k ≤ length l.piece;
  gathers : Gathers 255 l.count (take l.k l.piece) l.fn.gathered l.gathered;
  some_left : length l.gathered.lists < l.count;
}

abbrev pub decreases-bytes : goal.decreases-bytes
decreases-bytes l = length l.piece - l.k
