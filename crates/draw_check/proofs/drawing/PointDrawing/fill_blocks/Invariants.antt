-- The blocks before number k have their boxes.
use Rattle.std.proofs.Common.{ℕ, ◌+◌, ◌*◌, ◌<◌, ◌≤◌, length}
use Rattle.draw_check.specs.Spans.{IsBoxInRange}
use Rattle.draw_check.specs.Stars.{run_at, Reaches}
use Rattle.draw_check.proofs.drawing.PointDrawing.fill_blocks.Given as goal

abbrev pub invariant-loop-k : goal.invariant-loop-k
invariant-loop-k l = record {
  in_range : (j : ℕ) → j < l.k → IsBoxInRange (run_at l.blocks j);
  reach : (j v : ℕ) → j < l.k → 16 * j ≤ v → v < 16 * (j + 1) → v < length l.self.map.now.lists → Reaches l.self.map.now.lists l.self.points.now (run_at l.blocks j) v;
}
