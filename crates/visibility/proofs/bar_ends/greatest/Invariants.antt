use Rattle.std.proofs.Common.{◌≡◌, ◌<◌, ◌≤◌, ℕ, length, slice_index}
use Rattle.visibility.proofs.bar_ends.greatest.Given as goal

abbrev pub invariant-loop-x : goal.invariant-loop-x
invariant-loop-x l = record {
  least : (i : ℕ) → i < l.x-index → slice_index l.row i ≤ l.greatest;
  one : (i : ℕ) × (i < length l.row) × (slice_index l.row i ≡ l.greatest);
}
