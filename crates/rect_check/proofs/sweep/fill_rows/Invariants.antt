use Rattle.std.proofs.Common.{◌≡◌, ◌⊎◌, ◌<◌, ◌≤◌, ℕ, slice_index}
use Rattle.rect_check.proofs.sweep.fill_rows.Given as goal

abbrev pub invariant-loop-y : goal.invariant-loop-y
invariant-loop-y l = record {
  inside : (z : ℕ) → l.low ≤ z → z < l.y → slice_index l.last z ≡ l.entry;
  outside : (z : ℕ) → (z < l.low) ⊎ (l.y ≤ z) → slice_index l.last z ≡ slice_index l.fn.last z;
}
