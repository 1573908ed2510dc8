-- First no note, then a note for each list that ends, then their sums.
use Rattle.std.proofs.Common.{◌≡◌, ℕ, ◌+◌, ◌-◌, ◌<◌, ◌≤◌, length, get_or}
use Rattle.simple_maps.proofs.CellLemmas.{ending_at, ended_before}
use Rattle.simple_maps.proofs.dart_cells.write_tails.Given as goal

abbrev pub invariant-clear : goal.invariant-clear
invariant-clear l = record {
  count : length l.tails ≡ length l.fn.tails;
  none : (k : ℕ) → k < l.d → get_or l.tails k 0 ≡ 0;
}

abbrev pub invariant-note : goal.invariant-note
invariant-note l = record {
  count : length l.tails ≡ length l.fn.tails;
  noted : (k : ℕ) → k < length l.tails → get_or l.tails k 0 ≡ ending_at l.ends l.v k;
}

abbrev pub invariant-sum : goal.invariant-sum
invariant-sum l = record {
  count : length l.tails ≡ length l.fn.tails;
  tail : l.tail ≡ ended_before l.ends (length l.ends - 1) l.d;
  done : (k : ℕ) → k < l.d → get_or l.tails k 0 ≡ ended_before l.ends (length l.ends - 1) (k + 1);
  noted : (k : ℕ) → l.d ≤ k → k < length l.tails → get_or l.tails k 0 ≡ ending_at l.ends (length l.ends - 1) k;
}
