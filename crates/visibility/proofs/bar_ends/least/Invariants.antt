use Rattle.std.proofs.Common.{◌≡◌, ◌<◌, ◌≤◌, ℕ, length, slice_index}
use Rattle.visibility.proofs.bar_ends.least.Given as goal

abbrev pub invariant-loop-x : goal.invariant-loop-x
invariant-loop-x l = record {
  most : (i : ℕ) → i < l.x-index → l.least ≤ slice_index l.row i;
  one : (i : ℕ) × (i < length l.row) × (slice_index l.row i ≡ l.least);
}
