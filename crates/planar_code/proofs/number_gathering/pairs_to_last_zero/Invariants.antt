-- No number from pair `pairs` on is 0.
use Rattle.std.proofs.Common.{ℕ, ◌+◌, ◌*◌, ◌<◌, ◌≤◌, length, get_or}
use Rattle.planar_code.proofs.number_gathering.pairs_to_last_zero.Given as goal

abbrev pub invariant-loop-pairs : goal.invariant-loop-pairs
invariant-loop-pairs l = record {
  within : 2 * l.pairs ≤ length l.piece;
  none : (i : ℕ) → l.pairs ≤ i → 2 * i + 1 < length l.piece → 0 < 256 * get_or l.piece (2 * i) 0 + get_or l.piece (2 * i + 1) 0;
}

abbrev pub decreases-loop-pairs : goal.decreases-loop-pairs
decreases-loop-pairs l = l.pairs
