use Rattle.std.proofs.Common.{◌≡◌, ◌<◌, ℕ, length, slice_index, pos}
use Rattle.drawings.specs.Duals.{number_at}
use Rattle.rect_dual.proofs.draw.drawing.numbers_at.Given as goal

abbrev pub invariant-loop-v : goal.invariant-loop-v
invariant-loop-v l = record {
  count : length l.made.items ≡ length l.ranks;
  at : (v : ℕ) → v < l.v → number_at l.made.items v ≡ pos (slice_index l.numbers (slice_index l.ranks v));
}
