use Rattle.std.proofs.Common.{◌≡◌, ◌<◌, ◌≤◌, ℕ, true, length, slice_index}
use Rattle.rect_check.proofs.meeting_marks.Pass.mark_next.Given as goal

abbrev pub invariant-loop-y : goal.invariant-loop-y
invariant-loop-y l = record {
  size : length l.table ≡ length l.fn.table;
  found : (z : ℕ) → l.low ≤ z → z < l.y → l.near < slice_index l.fn.table z → l.found ≡ true;
  inside : (z : ℕ) → l.low ≤ z → z < l.y → l.far ≤ slice_index l.table z;
  grown : (z : ℕ) → slice_index l.fn.table z ≤ slice_index l.table z;
  rest : (z : ℕ) → l.y ≤ z → slice_index l.table z ≡ slice_index l.fn.table z;
}
