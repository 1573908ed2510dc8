use Rattle.std.proofs.Common.{◌≡◌, ◌<◌, ℕ, length, slice_index}
use Rattle.rect_dual.proofs.line_lists.Linked.numbers.Given as goal

abbrev pub invariant-loop-v : goal.invariant-loop-v
invariant-loop-v l = record {
  count : length l.made.items ≡ length l.lines;
  at : (v : ℕ) → v < l.v → slice_index l.made.items v ≡ slice_index l.numbers.items (slice_index l.lines v);
}
